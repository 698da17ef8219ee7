use Rattle.std.proofs.Common.{◌-◌, ◌∙◌}
use Rattle.ordered.proofs.Parts.{read_is, read_none}
use Rattle.ordered.proofs.finding.Sorted.read.Goals as goal

pub returns-in_err-get : goal.returns-in_err-get
returns-in_err-get c =
    let self = c.args.self.now in
    let rows = c.part-rows.result in
    c.from_residual.ensures
    ∙ read_none c.args.pair c.args.kind self.entries.now rows.start (rows.end - rows.start) c.part-rows.ensures.part self.order c.args.place c.in_err-get.ensures.lookup.3

pub returns : goal.returns
returns c =
    let self = c.args.self.now in
    let rows = c.part-rows.result in
    let found = c.in_ok-get.ensures.lookup in
    read_is c.args.pair c.args.kind self.entries.now rows.start (rows.end - rows.start) c.part-rows.ensures.part self.order c.args.place c.in_ok-get.field-0.now found.3.0 found.1
