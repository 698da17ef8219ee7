use Rattle.std.proofs.Common.{◌-◌, ◌∙◌}
use Rattle.ordered.proofs.Parts.{count_is}
use Rattle.ordered.proofs.finding.Sorted.count.Goals as goal

pub returns : goal.returns
returns c =
    let rows = c.part.result in
    c.len.ensures.value ∙ count_is c.args.pair c.args.kind c.args.self.now.entries.now rows.start (rows.end - rows.start) c.part.ensures.part c.args.self.now.order
