use Rattle.std.proofs.Common.{◌≡◌, ◌<◌, ◌≤◌, ◌/◌, length, take, Some, sym, ap, ◌∙◌, w32, SFits, rules}
use Rattle.std.specs.Simd.{first_chunks}
use Rattle.std.proofs.lemmas.Int.{to_z-of_z}
use Rattle.std.proofs.lemmas.Result.{err_from_is_err_and}
use Rattle.fields.specs.Sets.{pushed}
use Rattle.fields.specs.declared.consumption.ConsumptionSet.{ConsumptionSet}
use Rattle.commands.proofs.SetReads.{regime_more, regime_stop}
use Rattle.commands.proofs.records.read_set.Goals as goal

pub loop-operands-preserved : goal.loop-operands-preserved
loop-operands-preserved c =
    let xs = c.args.rest.now in
    let all : c.in_ok-operands-items.operands-items.now ≡ take c.args.n (first_chunks 6 (length xs / 6) xs) = search rules in
    let h : c.loop-operands.operands-index < c.args.n = search rules in
    let l : c.args.n ≤ length xs / 6 = search rules in
    let fits : SFits w32 c.in_ok-regime.value = search rules in
    regime_more c.args.n (length xs / 6) c.loop-operands.operands-index xs _ all h l c.loop-operands.set c.loop-operands.invariant c.in_ok-regime.regime c.in_ok-regime.value c.in_ok-regime.ensures
    ∙ ap (λ (s : ConsumptionSet). Some s) (sym (c.push.ensures.after ∙ ap (pushed c.loop-operands.set c.in_ok-regime.regime) (to_z-of_z w32 c.in_ok-regime.value fits)))

pub returns-in_err-regime : goal.returns-in_err-regime
returns-in_err-regime c =
    let xs = c.args.rest.now in
    let all : c.in_ok-operands-items.operands-items.now ≡ take c.args.n (first_chunks 6 (length xs / 6) xs) = search rules in
    let h : c.loop-operands.operands-index < c.args.n = search rules in
    let l : c.args.n ≤ length xs / 6 = search rules in
    let stop = regime_stop c.args.n (length xs / 6) c.loop-operands.operands-index xs _ all h l c.loop-operands.set c.loop-operands.invariant _ c.in_err-regime.ensures in
    let q = err_from_is_err_and c.from_residual-in_err-regime.result c.from_residual-in_err-regime.ensures.1 in
    let none = stop.1 in
    let cause = stop.0 in
    search rules
