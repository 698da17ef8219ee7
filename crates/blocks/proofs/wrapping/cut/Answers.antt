use Rattle.windows.specs.Windows.{rows_of}
use Rattle.blocks.proofs.Wraps.{kept_wrapped}
use Rattle.blocks.proofs.wrapping.cut.Goals as goal

pub returns : goal.returns
returns g c = kept_wrapped g.T.Kept.row g.T.Dated.start_of (λ row. (g.met.T.Kept.stands row).1) c.args.day (rows_of c.args.window.now) _ c.cut.ensures.after
