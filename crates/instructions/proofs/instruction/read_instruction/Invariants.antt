use Rattle.std.proofs.Common.{◌≡◌, ℕ, ◌-◌, ◌≤◌, length, None}
use Rattle.instructions.specs.Files.{onward}
use Rattle.instructions.specs.Stages.{within}
use Rattle.instructions.proofs.instruction.read_instruction.Given as goal

-- what is left of the instruction has the fault that the whole has
abbrev pub invariant-loop-row : goal.invariant-loop-row
invariant-loop-row l =
    ((left : ℕ) → onward l.initial.reader.bytes.now l.initial.reader.at (within left None) ≡ onward l.initial.reader.bytes.now l.reader.at (within left l.before))
    × (l.reader.bytes.now ≡ l.initial.reader.bytes.now)
    × (l.initial.reader.at ≤ l.reader.at)

abbrev pub decreases-loop-row : goal.decreases-loop-row
decreases-loop-row l = length l.initial.reader.bytes.now - l.reader.at
