use Rattle.std.proofs.Common.{cond, not, Some, None, sym, ap, ◌∙◌}
use Rattle.std.proofs.lemmas.Result.{err_from_is_err_and}
use Rattle.market.specs.declared.faults.CombinationRule.TheVariants.{Order}
use Rattle.market.proofs.RuleTests.{rule_field, rule_unlisted, rule_listed}
use Rattle.market.proofs.rules.check_combination.Goals as goal

pub returns-in_err-check_fields : goal.returns-in_err-check_fields
returns-in_err-check_fields c =
    let p = err_from_is_err_and c.from_residual.result c.from_residual.ensures.1 in
    rw (p.1, p.2) (sym (rule_field _ c.args.before c.args.combination.now c.in_err-check_fields.field-0.0 (sym c.in_err-check_fields.ensures)))

pub returns-then-not-is_listed : goal.returns-then-not-is_listed
returns-then-not-is_listed c = sym (rule_unlisted _ c.args.before c.args.combination.now (sym c.in_ok-check_fields.ensures) (sym c.if-not-is_listed.ensures))

pub returns-then-not-follows : goal.returns-then-not-follows
returns-then-not-follows c = sym (rule_listed _ c.args.before c.args.combination.now (sym c.in_ok-check_fields.ensures) (sym c.if-not-is_listed.ensures) ∙ ap (λ t. cond (not t) (Some Order) None) (sym c.if-not-follows.ensures))

pub returns-else-not-follows : goal.returns-else-not-follows
returns-else-not-follows c = sym (rule_listed _ c.args.before c.args.combination.now (sym c.in_ok-check_fields.ensures) (sym c.if-not-is_listed.ensures) ∙ ap (λ t. cond (not t) (Some Order) None) (sym c.if-not-follows.ensures))
