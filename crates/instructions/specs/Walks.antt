-- What a walk over a file has still to come.
use Rattle.std.specs.Prelude.{◌≡◌, ℕ, ◌<◌, List, ◌∷◌, length, Some, None, Option}
use Rattle.rows.specs.declared.row.Row.{Row}
use Rattle.commands.specs.declared.command.Command.{Command}
use Rattle.instructions.specs.declared.walking.Instruction.{Instruction}
use Rattle.instructions.specs.declared.walking.Instruction.TheVariants.{Change}
use Rattle.instructions.specs.declared.walking.Instructions.{Instructions}
use Rattle.instructions.specs.declared.walking.Records.{Records}
use Rattle.instructions.specs.Files.{FileInstruction, change, commands_in, records_of, instructions_of}

-- the first of some commands, with the bytes of the others behind it
pub record Split (xs : List ℕ) (c : Command) (ys : List ℕ) : Type 0 where
  pub commands : commands_in xs ≡ c ∷ commands_in ys
  pub shorter : length ys < length xs

-- the records that are still to come
abbrev pub records_left : Records → List Row
records_left s = records_of (commands_in s.walk.rest.now)

-- the instructions that are still to come
abbrev pub instructions_left : Instructions → List FileInstruction
instructions_left s = instructions_of (commands_in s.walk.rest.now)

-- what an instruction says
abbrev pub meant_instruction : Instruction → FileInstruction
meant_instruction (Change c) = change c.heading (records_left c.records)

abbrev pub meant_option : Option Instruction → Option FileInstruction
meant_option None = None
meant_option (Some i) = Some (meant_instruction i)
