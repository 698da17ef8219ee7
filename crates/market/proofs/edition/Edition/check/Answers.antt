use Rattle.std.proofs.Common.{map, sym, ap, ◌∙◌}
use Rattle.std.proofs.lemmas.Result.{err_from_is_err_and}
use Rattle.market.specs.Faults.{combination_fault}
use Rattle.market.specs.Lists.{lists_of, listed, ids_of}
use Rattle.market.specs.Tests.{combinations_broken}
use Rattle.market.proofs.LawfulTests.{fault_supplier, fault_configuration, fault_combination}
use Rattle.market.proofs.edition.Edition.check.Goals as goal

pub returns-in_err-check_suppliers : goal.returns-in_err-check_suppliers
returns-in_err-check_suppliers c =
    let p = err_from_is_err_and c.from_residual.result c.from_residual.ensures.1 in
    rw (p.1, p.2) (sym (fault_supplier (lists_of c.args.self.now) _ (sym c.in_err-check_suppliers.ensures)))

pub returns-in_err-configurations : goal.returns-in_err-configurations
returns-in_err-configurations c =
    let p = err_from_is_err_and c.from_residual-in_err-configurations.result c.from_residual-in_err-configurations.ensures.1 in
    rw (p.1, p.2) (sym (fault_configuration (lists_of c.args.self.now) (sym c.in_ok-check_suppliers.ensures) _ (sym c.in_err-configurations.ensures.fault)))

pub returns : goal.returns
returns c =
    let lists = lists_of c.args.self.now in
    let same = c.in_ok-configurations.ensures.list in
    c.check_combinations.ensures ∙ ap (λ entries. combination_fault (combinations_broken (ids_of (map listed entries.now)) lists.combinations)) same
    ∙ sym (fault_combination lists (sym c.in_ok-check_suppliers.ensures) (sym c.in_ok-configurations.ensures.fault))
