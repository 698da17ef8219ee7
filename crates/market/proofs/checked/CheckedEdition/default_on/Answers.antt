use Rattle.std.proofs.Common.{cond, Some, None, ap, ◌∙◌, w32, SFits, rules}
use Rattle.std.specs.Bool.{then_some}
use Rattle.std.specs.Option.{option_map}
use Rattle.std.proofs.lemmas.Int.{to_z-of_z}
use Rattle.market.specs.declared.edition.Combination.{Combination}
use Rattle.market.specs.declared.keys.Key.{Key}
use Rattle.market.proofs.Finding.{default_is, default_told}
use Rattle.market.proofs.checked.CheckedEdition.default_on.Goals as goal

pub returns-in_err-found : goal.returns-in_err-found
returns-in_err-found c =
    let key : Key = record { configuration = c.args.configuration; class = c.args.class; group = c.args.group } in
    rw c.from_residual-in_err-found.ensures
    (default_is c.args.self.now c.in_ok-if_lawful.field-0 c.in_ok-if_lawful.ensures key c.args.day _ c.combinations.ensures None c.in_err-found.ensures)

pub returns : goal.returns
returns c =
    let key : Key = record { configuration = c.args.configuration; class = c.args.class; group = c.args.group } in
    let found = c.in_ok-found.found.now in
    let fits : SFits w32 found.default = search rules in
    c.then_some.ensures ∙ ap (then_some c.is_on.result) (to_z-of_z w32 found.default fits) ∙ default_told c.is_on.result found
    ∙ ap (λ b. option_map (λ (c : Combination). c.default) (cond b (Some found) None)) c.is_on.ensures
    ∙ default_is c.args.self.now c.in_ok-if_lawful.field-0 c.in_ok-if_lawful.ensures key c.args.day _ c.combinations.ensures (Some found) c.in_ok-found.ensures
