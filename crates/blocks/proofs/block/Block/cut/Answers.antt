use Rattle.blocks.proofs.Ascents.{cut_ascend}
use Rattle.blocks.proofs.block.Block.cut.Goals as goal

pub invariant_of-self : goal.invariant_of-self
invariant_of-self c = record { ascend = cut_ascend c.args.self.now.contents c.cut.new.self c.args.self.now.ascend c.args.kind c.args.day c.cut.ensures }
