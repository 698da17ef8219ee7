-- When a file is well formed: every operand in its range, as many instructions as may be, records and regimes in order.
use Rattle.std.specs.Prelude.{◌≡◌, ℕ, ◌<◌, ◌≤◌, ◌⊎◌, List, [], ◌∷◌, length, ℤ, unsigned_abs}
use Rattle.std.specs.List.{AllByRecursion}
use Rattle.fields.specs.Ascent.{Ascending}
use Rattle.rows.specs.Kinds.{rank_of}
use Rattle.rows.specs.Rows.{kind_of_row, start_of_row}
use Rattle.fields.specs.Sets.{regimes_of, values_of}
use Rattle.fields.specs.declared.consumption.ConsumptionSet.{ConsumptionSet}
use Rattle.rows.specs.declared.row.Row.{Row}
use Rattle.rows.specs.declared.row.Row.TheVariants.{Registration, Appointment, Collector, Profile, Measurement, Energisation, LineLoss, Group, Advance, Estimate}
use Rattle.commands.specs.declared.command.Command.{Command}
use Rattle.commands.specs.declared.command.Command.TheVariants as command
use Rattle.commands.specs.declared.command.Heading.{Heading}
use Rattle.commands.specs.declared.command.Source.{Source}
use Rattle.commands.specs.declared.command.Source.TheVariants as source
use Rattle.instructions.specs.Files.{File, FileInstruction, change}

-- from one number to another, both included
abbrev pub Between : ℕ → ℕ → ℕ → Type 0
Between low high n = (low ≤ n) × (n ≤ high)

abbrev pub Day : ℕ → Type 0
Day n = Between 1 60000 n

-- the end of a span: 0 for none, or a day
abbrev pub End : ℕ → Type 0
End n = n ≤ 60000

abbrev pub Id : ℕ → Type 0
Id n = Between 1 65535 n

-- a file's or an instruction's number
abbrev pub Number : ℕ → Type 0
Number n = Between 1 4294967295 n

abbrev pub Value : ℤ → Type 0
Value v = unsigned_abs v ≤ 2000000000

-- one to four regimes, each with its value
pub record SetInRange (s : ConsumptionSet) : Type 0 where
  pub some : 1 ≤ s.count
  pub regimes : AllByRecursion Id (regimes_of s)
  pub values : AllByRecursion Value (values_of s)

-- the operands of a record are in range
abbrev pub RowInRange : Row → Type 0
RowInRange (Registration r) = Day r.start × Id r.value.id
RowInRange (Appointment r) = Day r.start × End r.end
RowInRange (Collector r) = Day r.start × Id r.value.id
RowInRange (Profile r) = Day r.start × Between 1 16 r.value.class × Id r.value.configuration
RowInRange (Measurement r) = Day r.start
RowInRange (Energisation r) = Day r.start
RowInRange (LineLoss r) = Day r.start × (r.value.number ≤ 999)
RowInRange (Group r) = Day r.start
RowInRange (Advance r) = Day r.start × End r.end × SetInRange r.set
RowInRange (Estimate r) = Day r.start × SetInRange r.set

-- the regimes of its set, if it has one, ascend
abbrev pub RegimesAscend : Row → Type 0
RegimesAscend (Registration r) = Unit {0}
RegimesAscend (Appointment r) = Unit {0}
RegimesAscend (Collector r) = Unit {0}
RegimesAscend (Profile r) = Unit {0}
RegimesAscend (Measurement r) = Unit {0}
RegimesAscend (Energisation r) = Unit {0}
RegimesAscend (LineLoss r) = Unit {0}
RegimesAscend (Group r) = Unit {0}
RegimesAscend (Advance r) = Ascending (regimes_of r.set)
RegimesAscend (Estimate r) = Ascending (regimes_of r.set)

abbrev pub RowInForm : Row → Type 0
RowInForm r = RowInRange r × RegimesAscend r

-- a record stands before another: its kind comes first, or it is of the same kind and starts earlier
abbrev pub Before : Row → Row → Type 0
Before r s = (rank_of (kind_of_row r) < rank_of (kind_of_row s)) ⊎ ((kind_of_row r ≡ kind_of_row s) × (start_of_row r < start_of_row s))

-- each record stands before the next
abbrev pub InOrder : List Row → Type 0
InOrder [] = Unit {0}
InOrder (r ∷ []) = Unit {0}
InOrder (r ∷ s ∷ rs) = Before r s × InOrder (s ∷ rs)

pub record HeadingInRange (h : Heading) : Type 0 where
  pub system : Between 1 9999999999999 h.system
  pub number : Number h.number
  pub day : Day h.day

abbrev pub InstructionInForm : FileInstruction → Type 0
InstructionInForm (change h rs) = HeadingInRange h × AllByRecursion RowInForm rs × InOrder rs

abbrev pub SourceInRange : Source → Type 0
SourceInRange (source.Agent id) = Id id
SourceInRange (source.Collector id) = Id id

-- the operands of a command are in range
abbrev pub InRange : Command → Type 0
InRange (command.Header h) = SourceInRange h.source × Number h.number × Between 1 256 h.count
InRange (command.Instruction h) = HeadingInRange h
InRange (command.Record r) = RowInRange r
InRange command.InstructionEnd = Unit {0}
InRange command.FileEnd = Unit {0}

pub record WellFormed (f : File) : Type 0 where
  pub source : SourceInRange f.source
  pub number : Number f.number
  pub count : Between 1 256 (length f.instructions)
  pub instructions : AllByRecursion InstructionInForm f.instructions
