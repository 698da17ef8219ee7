-- The form of a file: which command may come when. What may not is out of place.
use Rattle.std.specs.Prelude.{ℕ, ◌-◌, Bool, true, cond, ◌&&◌, ◌||◌, Some, None, Option, ◌==◌, nat_lt}
use Rattle.std.specs.Bool.{then_some}
use Rattle.fields.specs.Ascent.{ascending}
use Rattle.rows.specs.Kinds.{rank_of}
use Rattle.rows.specs.Rows.{kind_of_row, start_of_row}
use Rattle.fields.specs.Sets.{regimes_of}
use Rattle.rows.specs.declared.kinds.Kind.{Kind}
use Rattle.rows.specs.declared.row.Row.{Row}
use Rattle.rows.specs.declared.row.Row.TheVariants.{Registration, Appointment, Collector, Profile, Measurement, Energisation, LineLoss, Group, Advance, Estimate}
use Rattle.commands.specs.declared.command.Command.{Command}
use Rattle.commands.specs.declared.command.Command.TheVariants.{Header, Instruction, Record, InstructionEnd, FileEnd}
use Rattle.commands.specs.declared.command.Header as headers
use Rattle.commands.specs.Commands.{header_in}

-- how far a file has come
pub data Stage : Type 0 where
  -- the header is due
  opening : Stage
  -- so many instructions are still to come
  between : ℕ → Stage
  -- in an instruction, with so many to come behind it; the kind and the start of the record before, if there is one
  within : ℕ → Option (Kind × ℕ) → Stage
  -- the file has ended
  closed : Stage

-- records ascend by kind, and in a kind by start
abbrev pub follows : Option (Kind × ℕ) → Kind × ℕ → Bool
follows None next = true
follows (Some before) next =
    nat_lt (rank_of before.0) (rank_of next.0) || (rank_of before.0 == rank_of next.0 && nat_lt before.1 next.1)

-- the regimes of a set ascend
abbrev pub regimes_ascend : Row → Bool
regimes_ascend (Registration r) = true
regimes_ascend (Appointment r) = true
regimes_ascend (Collector r) = true
regimes_ascend (Profile r) = true
regimes_ascend (Measurement r) = true
regimes_ascend (Energisation r) = true
regimes_ascend (LineLoss r) = true
regimes_ascend (Group r) = true
regimes_ascend (Advance r) = ascending (regimes_of r.set)
regimes_ascend (Estimate r) = ascending (regimes_of r.set)

-- what records are ordered by
abbrev pub order_of : Row → Kind × ℕ
order_of r = (kind_of_row r, start_of_row r)

abbrev pub opened : Option headers.Header → Option Stage
opened None = None
opened (Some h) = Some (between h.count)

-- first the header
abbrev pub from_opening : Command → Option Stage
from_opening c = opened (header_in c)

-- then as many instructions as the header says, and then the end of the file
abbrev pub from_between : ℕ → Command → Option Stage
from_between left (Header h) = None
from_between left (Instruction h) = cond (left == 0) None (Some (within (left - 1) None))
from_between left (Record r) = None
from_between left InstructionEnd = None
from_between left FileEnd = then_some (left == 0) closed

-- in an instruction its records, in their order, and then its end
abbrev pub from_within : ℕ → Option (Kind × ℕ) → Command → Option Stage
from_within left before (Header h) = None
from_within left before (Instruction h) = None
from_within left before (Record r) = then_some (follows before (order_of r) && regimes_ascend r) (within left (Some (order_of r)))
from_within left before InstructionEnd = Some (between left)
from_within left before FileEnd = None

-- the stage after a command, or none if the command is out of place; nothing may follow the end of the file
abbrev pub after : Stage → Command → Option Stage
after opening c = from_opening c
after (between left) c = from_between left c
after (within left before) c = from_within left before c
after closed c = None
