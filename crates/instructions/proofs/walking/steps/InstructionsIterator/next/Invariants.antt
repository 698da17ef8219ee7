use Rattle.std.proofs.Common.{◌≡◌, ◌≤◌, length}
use Rattle.instructions.specs.Walks.{instructions_left}
use Rattle.instructions.proofs.walking.steps.InstructionsIterator.next.Given as goal

-- no instruction has been passed over
abbrev pub invariant-loop-command : goal.invariant-loop-command
invariant-loop-command l =
    (instructions_left l.initial.self ≡ instructions_left l.self)
    × (length l.self.walk.rest.now ≤ length l.initial.self.walk.rest.now)

abbrev pub decreases-loop-command : goal.decreases-loop-command
decreases-loop-command l = length l.self.walk.rest.now
