use Rattle.std.proofs.Common.{◌≡◌, ◌+◌, ◌-◌, sym, ap, ◌∙◌, arith}
use Rattle.std.proofs.lemmas.Bool.{not-true, not-false}
use Rattle.ordered.specs.Keys.{key_of, lower}
use Rattle.ordered.proofs.Adds.{refuse_none, refuse_full, refuse_other, refuse_early, accept}
use Rattle.ordered.proofs.finding.Sorted.row_place.Goals as goal

pub returns-in_err-last : goal.returns-in_err-last
returns-in_err-last c =
    let rows = c.part-rows.result in
    let whole : c.part-rows.result.start + (c.part-rows.result.end - c.part-rows.result.start) ≡ c.part-rows.result.end = omega arith in
    rw c.from_residual.ensures
    (refuse_none c.args.pair c.args.row c.args.self.now.entries.now c.kind-kind.result c.kind-kind.ensures rows.start (rows.end - rows.start) c.part-rows.ensures.part c.args.self.now.order rows.end whole c.in_err-last.ensures.item.3)

pub returns-then-ne : goal.returns-then-ne
returns-then-ne c =
    let rows = c.part-rows.result in
    let last = c.in_ok-last.ensures.item in
    let whole : c.part-rows.result.start + (c.part-rows.result.end - c.part-rows.result.start) ≡ c.part-rows.result.end = omega arith in
    refuse_other c.args.pair c.args.row c.args.self.now.entries.now c.kind-kind.result c.kind-kind.ensures rows.start (rows.end - rows.start) c.part-rows.ensures.part c.args.self.now.order rows.end whole c.in_ok-last.last.now last.3.0 last.1
    (not-true _ (sym c.if-ne.ensures))

pub returns-then-len-maximum : goal.returns-then-len-maximum
returns-then-len-maximum c =
    let rows = c.part-rows.result in
    refuse_full c.args.pair c.args.row c.args.self.now.entries.now c.kind-kind.result c.kind-kind.ensures rows.start (rows.end - rows.start) c.part-rows.ensures.part c.args.self.now.order c.maximum.result c.maximum.ensures (omega arith)

pub returns-else-is_before : goal.returns-else-is_before
returns-else-is_before c =
    let rows = c.part-rows.result in
    let last = c.in_ok-last.ensures.item in
    let whole : c.part-rows.result.start + (c.part-rows.result.end - c.part-rows.result.start) ≡ c.part-rows.result.end = omega arith in
    refuse_early c.args.pair c.args.row c.args.self.now.entries.now c.kind-kind.result c.kind-kind.ensures rows.start (rows.end - rows.start) c.part-rows.ensures.part c.args.self.now.order rows.end whole c.in_ok-last.last.now last.3.0 last.1
    (not-false _ (sym c.if-ne.ensures)) (ap (λ e. lower (key_of c.in_ok-last.last.now) (key_of e)) (sym c.of_row.ensures) ∙ sym c.if-is_before.ensures)

pub returns-then-is_before : goal.returns-then-is_before
returns-then-is_before c =
    let rows = c.part-rows.result in
    let last = c.in_ok-last.ensures.item in
    let whole : c.part-rows.result.start + (c.part-rows.result.end - c.part-rows.result.start) ≡ c.part-rows.result.end = omega arith in
    accept c.args.pair c.args.row c.args.self.now.entries.now c.kind-kind.result c.kind-kind.ensures rows.start (rows.end - rows.start) c.part-rows.ensures.part c.args.self.now.order rows.end whole c.in_ok-last.last.now last.3.0 last.1
    (not-false _ (sym c.if-ne.ensures)) c.maximum.result c.maximum.ensures (omega arith) (ap (λ e. lower (key_of c.in_ok-last.last.now) (key_of e)) (sym c.of_row.ensures) ∙ sym c.if-is_before.ensures)
