use Rattle.std.proofs.Common.{◌≡◌, Some}
use Rattle.commands.specs.Records.{sets}
use Rattle.commands.proofs.records.read_set.Given as goal

abbrev pub invariant-loop-operands : goal.invariant-loop-operands
invariant-loop-operands l = sets l.operands-index l.rest 0 ≡ Some l.set
