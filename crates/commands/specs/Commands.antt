-- One command at the front of a list of bytes, or its cause: 1 unknown letter, 2 cut short, 3 operand out of range.
use Rattle.std.specs.Prelude.{ℕ, ◌+◌, ◌*◌, cond, List, [], ◌∷◌, length, Some, None, Ok, Err, Option, Result, ◌==◌, nat_le}
use Rattle.std.specs.Option.{option_map}
use Rattle.fields.specs.Codes.{letter}
use Rattle.rows.specs.Kinds.{kind_of}
use Rattle.rows.specs.Rows.{kind_of_row}
use Rattle.rows.specs.declared.kinds.Kind.{Kind}
use Rattle.rows.specs.declared.kinds.Kind.TheVariants.{Registration, Appointment, Collector, Profile, Measurement, Energisation, LineLoss, Group, Advance, Estimate}
use Rattle.rows.specs.declared.row.Row.{Row}
use Rattle.rows.specs.declared.row.Row.TheVariants as row
use Rattle.commands.specs.declared.command.Command.{Command}
use Rattle.commands.specs.declared.command.Command.TheVariants as command
use Rattle.commands.specs.declared.command.Header.{Header}
use Rattle.commands.specs.declared.command.Heading.{Heading}
use Rattle.commands.specs.declared.command.Letter.{Letter}
use Rattle.commands.specs.declared.command.Letter.TheVariants as announced
use Rattle.commands.specs.declared.causes.Cause.{Cause}
use Rattle.commands.specs.declared.causes.Cause.TheVariants.{UnknownLetter, CutShort, OutOfRange}
use Rattle.commands.specs.Numbers.{byte}
use Rattle.commands.specs.Ranges.{is_set_size}
use Rattle.commands.specs.Records.{header, heading, supplier, collector, profile, measurement, energisation, line_loss, group, state, appointment, advance, estimate}

-- the letters: H, I, Z, X, and for a record the letter of its kind
abbrev pub of_kind : Option Kind → Option Letter
of_kind None = None
of_kind (Some kind) = Some (announced.Record kind)

abbrev pub letter_of : ℕ → Option Letter
letter_of code =
    cond (code == (letter "H")) (Some announced.Header)
    (cond (code == (letter "I")) (Some announced.Instruction)
    (cond (code == (letter "Z")) (Some announced.InstructionEnd)
    (cond (code == (letter "X")) (Some announced.FileEnd)
    (of_kind (kind_of code)))))

-- how many bytes the operands of a record take, up to and with the n of a consumption set
abbrev pub fixed_size : Kind → ℕ
fixed_size Registration = 4
fixed_size Appointment = 4
fixed_size Collector = 4
fixed_size Profile = 5
fixed_size Measurement = 3
fixed_size Energisation = 3
fixed_size LineLoss = 4
fixed_size Group = 3
fixed_size Advance = 5
fixed_size Estimate = 3

-- cut short where fewer bytes are left than are needed
abbrev pub whole : {X : Type 0} → ℕ → List ℕ → Result X Cause → Result X Cause
whole size xs r = cond (nat_le size (length xs)) r (Err CutShort)

-- out of range where the operands say nothing
abbrev pub ranged : {X : Type 0} → Option X → Result X Cause
ranged None = Err OutOfRange
ranged (Some x) = Ok x

-- the regimes of a set, n of them, behind the operands of fixed size: an n out of range is told before any is sought
abbrev pub sought : ℕ → ℕ → List ℕ → Result (Unit {0}) Cause
sought n size xs = cond (is_set_size n) (whole (size + 6 * n) xs (Ok tt)) (Err OutOfRange)

abbrev pub listed : {X : Type 0} → Result (Unit {0}) Cause → Option X → Result X Cause
listed (Err cause) o = Err cause
listed (Ok t) o = ranged o

-- what the operands of a record say, once those of fixed size are there
abbrev pub stated : Kind → List ℕ → Result Row Cause
stated Registration xs = ranged (option_map (λ r. row.Registration r) (state supplier xs))
stated Appointment xs = ranged (option_map (λ r. row.Appointment r) (appointment xs))
stated Collector xs = ranged (option_map (λ r. row.Collector r) (state collector xs))
stated Profile xs = ranged (option_map (λ r. row.Profile r) (state profile xs))
stated Measurement xs = ranged (option_map (λ r. row.Measurement r) (state measurement xs))
stated Energisation xs = ranged (option_map (λ r. row.Energisation r) (state energisation xs))
stated LineLoss xs = ranged (option_map (λ r. row.LineLoss r) (state line_loss xs))
stated Group xs = ranged (option_map (λ r. row.Group r) (state group xs))
stated Advance xs = listed (sought (byte xs 4) 5 xs) (option_map (λ r. row.Advance r) (advance xs))
stated Estimate xs = listed (sought (byte xs 2) 3 xs) (option_map (λ r. row.Estimate r) (estimate xs))

-- the record of a kind
abbrev pub record_of : Kind → List ℕ → Result Row Cause
record_of kind xs = whole (fixed_size kind) xs (stated kind xs)

-- a command made of what its operands say
abbrev pub commanded : {X : Type 0} → (X → Command) → Result X Cause → Result Command Cause
commanded f (Err cause) = Err cause
commanded f (Ok x) = Ok (f x)

-- the command that a letter announces
abbrev pub behind : Letter → List ℕ → Result Command Cause
behind announced.Header xs = commanded (λ (h : Header). command.Header h) (whole 9 xs (ranged (header xs)))
behind announced.Instruction xs = commanded (λ (h : Heading). command.Instruction h) (whole 14 xs (ranged (heading xs)))
behind (announced.Record kind) xs = commanded (λ (r : Row). command.Record r) (record_of kind xs)
behind announced.InstructionEnd xs = Ok command.InstructionEnd
behind announced.FileEnd xs = Ok command.FileEnd

abbrev pub known : Option Letter → List ℕ → Result Command Cause
known None xs = Err UnknownLetter
known (Some l) xs = behind l xs

-- the command at the front; where none is, it is cut short
abbrev pub command_in : List ℕ → Result Command Cause
command_in [] = Err CutShort
command_in (x ∷ xs) = known (letter_of x) xs

-- how many bytes a row's regimes take
abbrev pub set_size : Row → ℕ
set_size (row.Registration r) = 0
set_size (row.Appointment r) = 0
set_size (row.Collector r) = 0
set_size (row.Profile r) = 0
set_size (row.Measurement r) = 0
set_size (row.Energisation r) = 0
set_size (row.LineLoss r) = 0
set_size (row.Group r) = 0
set_size (row.Advance r) = 6 * r.set.count
set_size (row.Estimate r) = 6 * r.set.count

-- how many bytes a command takes, its letter among them
abbrev pub width_of : Command → ℕ
width_of (command.Header h) = 10
width_of (command.Instruction h) = 15
width_of (command.Record r) = 1 + fixed_size (kind_of_row r) + set_size r
width_of command.InstructionEnd = 1
width_of command.FileEnd = 1

-- the header that a command is, if it is one
abbrev pub header_in : Command → Option Header
header_in (command.Header h) = Some h
header_in (command.Instruction h) = None
header_in (command.Record r) = None
header_in command.InstructionEnd = None
header_in command.FileEnd = None

-- what a command opens an instruction with, if it opens one
abbrev pub heading_in : Command → Option Heading
heading_in (command.Header h) = None
heading_in (command.Instruction h) = Some h
heading_in (command.Record r) = None
heading_in command.InstructionEnd = None
heading_in command.FileEnd = None

-- the record that a command is, if it is one
abbrev pub record_in : Command → Option Row
record_in (command.Header h) = None
record_in (command.Instruction h) = None
record_in (command.Record r) = Some r
record_in command.InstructionEnd = None
record_in command.FileEnd = None
