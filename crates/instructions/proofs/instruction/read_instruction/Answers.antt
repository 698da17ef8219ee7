use Rattle.std.proofs.Common.{◌≡◌, Some, None, ◌∙◌, rules}
use Rattle.std.proofs.lemmas.Result.{err_from_is_err_and}
use Rattle.instructions.specs.Stages.{after, within, between}
use Rattle.instructions.proofs.Onward.{read_next, read_misplaced, read_cause}
use Rattle.instructions.proofs.instruction.read_instruction.Goals as goal

pub returns-in_err-row-clause-value : goal.returns-in_err-row-clause-value
returns-in_err-row-clause-value c =
    let q = err_from_is_err_and c.from_residual.result c.from_residual.ensures.1 in
    let inv = c.loop-row.invariant in
    rw (q.1, q.2) (λ left. inv.0 left ∙ read_cause inv.1 _ (within left c.loop-row.before) _ tt c.in_err-row.ensures.value)

pub loop-row-preserved : goal.loop-row-preserved
loop-row-preserved c =
    let h = c.in_ok-row.ensures in
    let inv = c.loop-row.invariant in
    (λ left. let stage : after (within left c.loop-row.before) c.in_ok-row.field-0 ≡ Some (within left (Some (c.kind.result, c.start.result))) = search rules in inv.0 left ∙ read_next inv.1 _ (within left c.loop-row.before) _ _ h.value h.at stage, h.bytes ∙ inv.1, search rules)

pub returns-in-InstructionEnd-clause-value : goal.returns-in-InstructionEnd-clause-value
returns-in-InstructionEnd-clause-value c =
    let h = c.in_ok-row.ensures in
    let inv = c.loop-row.invariant in
    λ left. let stage : after (within left c.loop-row.before) c.in_ok-row.field-0 ≡ Some (between left) = search rules in inv.0 left ∙ read_next inv.1 _ (within left c.loop-row.before) _ _ h.value h.at stage

pub returns-in_default-clause-value : goal.returns-in_default-clause-value
returns-in_default-clause-value c =
    let h = c.in_ok-row.ensures in
    let inv = c.loop-row.invariant in
    λ left. let stage : after (within left c.loop-row.before) c.in_ok-row.field-0 ≡ None = search rules in inv.0 left ∙ read_misplaced inv.1 _ (within left c.loop-row.before) _ h.value stage

pub returns-then-not-is_in_place-clause-value : goal.returns-then-not-is_in_place-clause-value
returns-then-not-is_in_place-clause-value c =
    let h = c.in_ok-row.ensures in
    let inv = c.loop-row.invariant in
    λ left. let stage : after (within left c.loop-row.before) c.in_ok-row.field-0 ≡ None = search rules in inv.0 left ∙ read_misplaced inv.1 _ (within left c.loop-row.before) _ h.value stage
