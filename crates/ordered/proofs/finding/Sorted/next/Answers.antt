use Rattle.std.proofs.Common.{◌∙◌, rules}
use Rattle.register.proofs.PairOrder.{upto}
use Rattle.ordered.proofs.Nexts.{next_none, next_some}
use Rattle.ordered.proofs.Points.{ascends, split}
use Rattle.ordered.proofs.Probes.{upto_front}
use Rattle.ordered.proofs.finding.Sorted.next.Goals as goal

pub returns-in_err-get : goal.returns-in_err-get
returns-in_err-get c =
    let self = c.args.self.now in
    let p = c.args.pair in
    let at = c.partition_point-at in
    let found = split self.entries.now (ascends self.entries.now self.order) (λ e. upto p e.pair) (upto_front p) at.result at.ensures.bound at.ensures.partitioned (λ a r q k. search rules) in
    c.from_residual.ensures ∙ next_none p self.entries.now at.result self.order found.0 found.1 c.in_err-get.ensures.lookup.3

pub returns : goal.returns
returns c =
    let self = c.args.self.now in
    let p = c.args.pair in
    let at = c.partition_point-at in
    let found = split self.entries.now (ascends self.entries.now self.order) (λ e. upto p e.pair) (upto_front p) at.result at.ensures.bound at.ensures.partitioned (λ a r q k. search rules) in
    let read = c.in_ok-get.ensures.lookup in
    next_some p self.entries.now at.result self.order found.0 found.1 read.3.0 c.in_ok-get.field-0.now read.1
