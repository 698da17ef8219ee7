-- How a file is written: the bytes of each command, one command behind the other.
use Rattle.std.specs.Prelude.{ℕ, ◌/◌, ◌%◌, List, [], ◌∷◌, ◌++◌, map, length, ℤ}
use Rattle.std.specs.Int.{w32}
use Rattle.std.proofs.Common.{of_z}
use Rattle.fields.specs.Codes.{letter}
use Rattle.fields.specs.Groups.{group_letter}
use Rattle.rows.specs.Kinds.{letter_of}
use Rattle.fields.specs.MeasurementClasses.{class_letter}
use Rattle.rows.specs.Rows.{kind_of_row}
use Rattle.fields.specs.Sets.{regimes_of, values_of}
use Rattle.fields.specs.Statuses.{status_letter}
use Rattle.fields.specs.declared.consumption.ConsumptionSet.{ConsumptionSet}
use Rattle.rows.specs.declared.row.Row.{Row}
use Rattle.rows.specs.declared.row.Row.TheVariants as row
use Rattle.commands.specs.declared.command.Command.{Command}
use Rattle.commands.specs.declared.command.Command.TheVariants.{Header, Instruction, Record, InstructionEnd, FileEnd}
use Rattle.commands.specs.declared.command.Source.{Source}
use Rattle.commands.specs.declared.command.Source.TheVariants.{Agent, Collector}
use Rattle.instructions.specs.Files.{File, FileInstruction, change}

-- numbers in two, four and eight bytes, most significant byte first
abbrev pub word_bytes : ℕ → List ℕ
word_bytes n = n / 256 ∷ n % 256 ∷ []

abbrev pub long_bytes : ℕ → List ℕ
long_bytes n = word_bytes (n / 65536) ++ word_bytes (n % 65536)

abbrev pub huge_bytes : ℕ → List ℕ
huge_bytes n = long_bytes (n / 4294967296) ++ long_bytes (n % 4294967296)

-- regimes with their values
abbrev pub reading_bytes : List ℕ → List ℤ → List ℕ
reading_bytes [] vs = []
reading_bytes (r ∷ rs) [] = []
reading_bytes (r ∷ rs) (v ∷ vs) = word_bytes r ++ long_bytes (of_z w32 v) ++ reading_bytes rs vs

-- how many there are, and then they
abbrev pub set_bytes : ConsumptionSet → List ℕ
set_bytes s = s.count ∷ reading_bytes (regimes_of s) (values_of s)

-- the operands of a record
abbrev pub row_bytes : Row → List ℕ
row_bytes (row.Registration r) = word_bytes r.start ++ word_bytes r.value.id
row_bytes (row.Appointment r) = word_bytes r.start ++ word_bytes r.end
row_bytes (row.Collector r) = word_bytes r.start ++ word_bytes r.value.id
row_bytes (row.Profile r) = word_bytes r.start ++ r.value.class ∷ word_bytes r.value.configuration
row_bytes (row.Measurement r) = word_bytes r.start ++ class_letter r.value ∷ []
row_bytes (row.Energisation r) = word_bytes r.start ++ status_letter r.value ∷ []
row_bytes (row.LineLoss r) = word_bytes r.start ++ word_bytes r.value.number
row_bytes (row.Group r) = word_bytes r.start ++ group_letter r.value ∷ []
row_bytes (row.Advance r) = word_bytes r.start ++ word_bytes r.end ++ set_bytes r.set
row_bytes (row.Estimate r) = word_bytes r.start ++ set_bytes r.set

abbrev pub source_bytes : Source → List ℕ
source_bytes (Agent id) = letter "S" ∷ word_bytes id
source_bytes (Collector id) = letter "C" ∷ word_bytes id

-- a command: its letter, and then its operands
abbrev pub command_bytes : Command → List ℕ
command_bytes (Header h) = letter "H" ∷ source_bytes h.source ++ long_bytes h.number ++ word_bytes h.count
command_bytes (Instruction h) = letter "I" ∷ huge_bytes h.system ++ long_bytes h.number ++ word_bytes h.day
command_bytes (Record r) = letter_of (kind_of_row r) ∷ row_bytes r
command_bytes InstructionEnd = letter "Z" ∷ []
command_bytes FileEnd = letter "X" ∷ []

unfoldable pub all_bytes : List Command → List ℕ
all_bytes [] = []
all_bytes (c ∷ cs) = command_bytes c ++ all_bytes cs

-- the commands of an instruction: what opens it, its records, its end
abbrev pub instruction_commands : FileInstruction → List Command → List Command
instruction_commands (change h rs) rest = Instruction h ∷ (map (λ (r : Row). Record r) rs ++ InstructionEnd ∷ rest)

unfoldable pub body_commands : List FileInstruction → List Command
body_commands [] = FileEnd ∷ []
body_commands (i ∷ is) = instruction_commands i (body_commands is)

-- the commands of a file: its header, its instructions, its end
abbrev pub commands_of : File → List Command
commands_of f = Header (record { source = f.source; number = f.number; count = length f.instructions }) ∷ body_commands f.instructions

abbrev pub written : File → List ℕ
written f = all_bytes (commands_of f)
