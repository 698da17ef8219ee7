use Rattle.blocks.proofs.Ascents.{none_ascend}
use Rattle.blocks.proofs.block.Block.new.Goals as goal

pub invariant_of-result : goal.invariant_of-result
invariant_of-result c = record { ascend = none_ascend c.empty.result c.empty.ensures }
