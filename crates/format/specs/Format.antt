-- The format law: what the reader accepts, and what a fault says, with no mention of how it reads.
use Rattle.std.specs.Prelude.{◌≡◌, ℕ, ◌+◌, ◌*◌, ◌<◌, ◌≤◌, ◌⊎◌, List, [], ◌∷◌, ◌++◌, length, take, drop, Some, None, Ok, Err, Result, ◌≢◌}
use Rattle.std.specs.List.{AllByRecursion}
use Rattle.rows.specs.declared.kinds.Kind.TheVariants.{Registration, Appointment, Collector, Profile, Measurement, Energisation, LineLoss, Group, Advance, Estimate}
use Rattle.commands.specs.declared.command.Command.{Command}
use Rattle.commands.specs.declared.command.Letter.{Letter}
use Rattle.commands.specs.declared.command.Letter.TheVariants as announced
use Rattle.commands.specs.declared.causes.Cause.{Cause}
use Rattle.commands.specs.declared.causes.Cause.TheVariants.{UnknownLetter, CutShort, OutOfRange, OutOfPlace}
use Rattle.instructions.specs.declared.faults.FileFault.{FileFault}
use Rattle.commands.specs.Commands.{letter_of, fixed_size}
use Rattle.instructions.specs.Files.{File, read_file}
use Rattle.commands.specs.Numbers.{byte}
use Rattle.format.specs.WellFormed.{WellFormed, InRange, Between}
use Rattle.format.specs.Written.{written, command_bytes}

abbrev pub Bytes : List ℕ → Type 0
Bytes xs = AllByRecursion (λ b. b < 256) xs

-- the reader accepts a byte string exactly if it is the writing of a well-formed file, and answers that file
abbrev pub Accepts : Type 0
Accepts =
    (xs : List ℕ) → Bytes xs → (f : File)
    → (read_file xs ≡ Ok f → WellFormed f × (xs ≡ written f)) × (WellFormed f → xs ≡ written f → read_file xs ≡ Ok f)

-- xs is the front of some well-formed file's writing, or all of it
abbrev pub Front : List ℕ → Type 0
Front xs = (f : File) × (rest : List ℕ) × WellFormed f × (xs ++ rest ≡ written f)

-- xs is all of a well-formed file's writing
abbrev pub Whole : List ℕ → Type 0
Whole xs = (f : File) × WellFormed f × (xs ≡ written f)

-- how many bytes of operands a command needs: of a set as many as its n says, once the n is there and in range
abbrev pub Regimes : ℕ → ℕ → List ℕ → Type 0
Regimes at size xs = (length xs < size) ⊎ (Between 1 4 (byte xs at) × (length xs < size + 6 * byte xs at))

abbrev pub Lacks : Letter → List ℕ → Type 0
Lacks announced.Header xs = length xs < 9
Lacks announced.Instruction xs = length xs < 14
Lacks (announced.Record Advance) xs = Regimes 4 5 xs
Lacks (announced.Record Estimate) xs = Regimes 2 3 xs
Lacks (announced.Record Registration) xs = length xs < fixed_size Registration
Lacks (announced.Record Appointment) xs = length xs < fixed_size Appointment
Lacks (announced.Record Collector) xs = length xs < fixed_size Collector
Lacks (announced.Record Profile) xs = length xs < fixed_size Profile
Lacks (announced.Record Measurement) xs = length xs < fixed_size Measurement
Lacks (announced.Record Energisation) xs = length xs < fixed_size Energisation
Lacks (announced.Record LineLoss) xs = length xs < fixed_size LineLoss
Lacks (announced.Record Group) xs = length xs < fixed_size Group
Lacks announced.InstructionEnd xs = ⊥
Lacks announced.FileEnd xs = ⊥

-- the causes, each in words of its own, of the command at the front of `rest`, behind `front`
-- 1: there is a byte, and no command has it as its letter
abbrev pub Unknown : List ℕ → Type 0
Unknown [] = ⊥
Unknown (x ∷ xs) = letter_of x ≡ None

-- 2: a command is due and no byte is left, or a letter is there and operands are missing
abbrev pub Short : List ℕ → List ℕ → Type 0
Short front [] = Whole front → ⊥
Short front (x ∷ xs) = (l : Letter) × (letter_of x ≡ Some l) × Lacks l xs

-- 3: what stands there is the writing of no command with its operands in range
abbrev pub Outside : List ℕ → Type 0
Outside rest = (c : Command) (tail : List ℕ) → InRange c → rest ≢ command_bytes c ++ tail

-- 4: no well-formed file begins with what stands before and this command
abbrev pub Misplaced : List ℕ → List ℕ → Type 0
Misplaced front rest = (c : Command) × (tail : List ℕ) × InRange c × (rest ≡ command_bytes c ++ tail) × (Front (front ++ command_bytes c) → ⊥)

-- a cause holds, and none that is tried before it
abbrev pub Caused : Cause → List ℕ → List ℕ → Type 0
Caused UnknownLetter front rest = Unknown rest
Caused CutShort front rest = (Unknown rest → ⊥) × Short front rest
Caused OutOfRange front rest = (Unknown rest → ⊥) × (Short front rest → ⊥) × Outside rest
Caused OutOfPlace front rest = (Unknown rest → ⊥) × (Short front rest → ⊥) × (Outside rest → ⊥) × Misplaced front rest

-- what stands before the place of a fault is the front of a well-formed file, and the command there has that cause
pub record Faulty (xs : List ℕ) (fault : FileFault) : Type 0 where
  pub place : fault.place ≤ length xs
  pub front : Front (take fault.place xs)
  pub cause : Caused fault.cause (take fault.place xs) (drop fault.place xs)

abbrev pub Blames : Type 0
Blames = (xs : List ℕ) → Bytes xs → (fault : FileFault) → read_file xs ≡ Err fault → Faulty xs fault

-- what is answered of a file: it is well formed and this is its writing, or it has this fault
abbrev pub Lawful : List ℕ → Result File FileFault → Type 0
Lawful xs (Ok file) = WellFormed file × (xs ≡ written file)
Lawful xs (Err fault) = Faulty xs fault

-- and a well-formed file whose writing this is, is what is answered
abbrev pub Found : List ℕ → Result File FileFault → Type 0
Found xs r = (file : File) → WellFormed file → xs ≡ written file → r ≡ Ok file
