use Rattle.windows.specs.Windows.{rows_of}
use Rattle.blocks.proofs.Wraps.{add_answer, add_after}
use Rattle.blocks.proofs.wrapping.add.Goals as goal

pub returns : goal.returns
returns g c =
    let rows = rows_of c.args.window.now in
    record {
      answer = add_answer g.T.Kept.row g.T.Dated.start_of (λ row. (g.met.T.Kept.stands row).1) g.row.MAX rows c.args.row c.add.result c.add.ensures.answer;
      after = add_after g.T.Kept.row g.T.Dated.start_of (λ row. (g.met.T.Kept.stands row).1) rows _ c.args.row c.add.result c.add.ensures.after;
    }
