-- A whole file: its first fault, or what it says.
use Rattle.std.specs.Prelude.{ℕ, zero, suc, ◌+◌, ◌-◌, List, [], ◌∷◌, drop, Some, None, Ok, Err, Option, Result}
use Rattle.rows.specs.declared.row.Row.{Row}
use Rattle.commands.specs.declared.command.Command.{Command}
use Rattle.commands.specs.declared.command.Heading.{Heading}
use Rattle.commands.specs.declared.command.Header as headers
use Rattle.commands.specs.declared.command.Source.{Source}
use Rattle.commands.specs.declared.command.Source.TheVariants.{Agent}
use Rattle.commands.specs.declared.causes.Cause.TheVariants.{CutShort, OutOfPlace}
use Rattle.instructions.specs.declared.faults.FileFault.{FileFault}
use Rattle.commands.specs.Commands.{command_in, width_of, header_in, heading_in, record_in}
use Rattle.instructions.specs.Stages.{Stage, opening, between, within, closed, after}

-- an instruction: what it opens with, and its records
pub data FileInstruction : Type 0 where
  change : Heading → List Row → FileInstruction

-- a file: its source, its number among those of that source, and its instructions
pub record File : Type 0 where
  pub source : Source
  pub number : ℕ
  pub instructions : List FileInstruction

-- at the end of the bytes a command is due, unless the file has ended
abbrev pub due : Stage → ℕ → Option FileFault
due opening place = Some (record { cause = CutShort; place = place })
due (between left) place = Some (record { cause = CutShort; place = place })
due (within left before) place = Some (record { cause = CutShort; place = place })
due closed place = None

-- the first fault from a place on; the first `skip` bytes are operands of the command before
unfoldable pub fault_from : (skip place : ℕ) → Stage → List ℕ → Option FileFault
fault_from skip place stage [] = due stage place
fault_from (suc skip) place stage (x ∷ xs) = fault_from skip (place + 1) stage xs
fault_from zero place stage (x ∷ xs) =
    elim (command_in (x ∷ xs)) [
      | Err cause ↦ Some (record { cause = cause; place = place })
      | Ok c ↦ elim (after stage c) [
        | None ↦ Some (record { cause = OutOfPlace; place = place })
        | Some next ↦ fault_from (width_of c - 1) (place + 1) next xs
      ]
    ]

-- the first fault of what is left at a place of a file
abbrev pub onward : List ℕ → ℕ → Stage → Option FileFault
onward xs place stage = fault_from 0 place stage (drop place xs)

abbrev pub first_fault : List ℕ → Option FileFault
first_fault xs = fault_from 0 0 opening xs

-- the commands from the front on, as long as they can be read
unfoldable pub commands_from : (skip : ℕ) → List ℕ → List Command
commands_from skip [] = []
commands_from (suc skip) (x ∷ xs) = commands_from skip xs
commands_from zero (x ∷ xs) = elim (command_in (x ∷ xs)) [ Err cause ↦ [] | Ok c ↦ c ∷ commands_from (width_of c - 1) xs ]

abbrev pub commands_in : List ℕ → List Command
commands_in xs = commands_from 0 xs

-- something and what comes behind it; nothing, and nothing comes behind
abbrev pub taken : {X : Type 0} → Option X → List X → List X
taken None xs = []
taken (Some x) xs = x ∷ xs

-- the records at the front of a list of commands
abbrev pub records_of : List Command → List Row
records_of [] = []
records_of (c ∷ cs) = taken (record_in c) (records_of cs)

abbrev pub begun : Option Heading → List Row → List FileInstruction → List FileInstruction
begun None rs is = is
begun (Some h) rs is = change h rs ∷ is

-- an instruction is what opens it, and the records behind that
abbrev pub instructions_of : List Command → List FileInstruction
instructions_of [] = []
instructions_of (c ∷ cs) = begun (heading_in c) (records_of cs) (instructions_of cs)

-- a header, or a blank one
abbrev pub or_blank : Option headers.Header → headers.Header
or_blank None = record { source = Agent 0; number = 0; count = 0 }
or_blank (Some h) = h

-- the header that a file opens with; a blank one where it opens with none
abbrev pub header_of : List Command → headers.Header
header_of [] = or_blank None
header_of (c ∷ cs) = or_blank (header_in c)

-- what a list of commands says
abbrev pub file_of : List Command → File
file_of cs = record { source = (header_of cs).source; number = (header_of cs).number; instructions = instructions_of cs }

abbrev pub unless : Option FileFault → File → Result File FileFault
unless None file = Ok file
unless (Some fault) file = Err fault

-- a file is read whole: what it says, or its first fault
abbrev pub read_file : List ℕ → Result File FileFault
read_file xs = unless (first_fault xs) (file_of (commands_in xs))
