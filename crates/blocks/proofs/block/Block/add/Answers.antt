use Rattle.rows.specs.Rows.{kind_of_row}
use Rattle.blocks.proofs.Ascents.{add_ascend}
use Rattle.blocks.proofs.block.Block.add.Goals as goal

pub invariant_of-self : goal.invariant_of-self
invariant_of-self c = record { ascend = add_ascend c.args.self.now.contents c.add.new.self c.args.self.now.ascend (kind_of_row c.args.row) c.args.row _ c.add.result c.add.ensures.answer c.add.ensures.after }
