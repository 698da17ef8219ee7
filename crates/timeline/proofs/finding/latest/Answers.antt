use Rattle.std.proofs.Common.{rules, map}
use Rattle.std.proofs.iter.runs.Made.{chains}
use Rattle.timeline.specs.Finding.{Latest}
use Rattle.timeline.proofs.Latest.{LatestRow, latest_row, latest_is}
use Rattle.timeline.proofs.finding.latest.Goals as goal

pub returns : goal.returns
returns g c =
    let start = g.T.Dated.start_of in
    let found : LatestRow start c.args.day c.args.rows.now c.rposition.result = search (rules, chains) in
    let law : Latest c.args.day (map start c.args.rows.now) c.rposition.result = latest_row start c.args.day c.args.rows.now c.rposition.result found in
    record { value = latest_is c.args.day (map start c.args.rows.now) c.rposition.result law; law = law }
