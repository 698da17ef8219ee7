use Rattle.std.proofs.Common.{◌≡◌, ◌-◌}
use Rattle.instructions.specs.Files.{onward}
use Rattle.instructions.specs.Stages.{between}
use Rattle.instructions.proofs.file.checks.read_instructions.Given as goal

-- what is left of the file has the fault that the whole has
abbrev pub invariant-loop : goal.invariant-loop
invariant-loop l =
    (onward l.fn.reader.bytes.now l.fn.reader.at (between l.count) ≡ onward l.fn.reader.bytes.now l.reader.at (between (l.count - l.counter)))
    × (l.reader.bytes.now ≡ l.fn.reader.bytes.now)
