use Rattle.std.proofs.Common.{is_some, sym, ap, ◌∙◌, eqb}
use Rattle.std.proofs.lemmas.Bool.Decides.{Decides-at}
use Rattle.market.specs.Orders.{first}
use Rattle.market.proofs.Listing.{number_listed, some_mapped}
use Rattle.market.proofs.RuleTests.{listed_decides}
use Rattle.market.proofs.checked.LawfulEdition.has_supplier.Goals as goal

pub returns : goal.returns
returns c =
    Decides-at _ _
    (c.is_some.ensures ∙ sym (some_mapped _ c.find.result) ∙ ap is_some (c.find.ensures ∙ ap (λ ids. first (λ n. eqb n c.args.id) ids.now) c.suppliers.ensures)
    ∙ sym (number_listed c.args.id c.args.self.now.edition.suppliers.now))
    (listed_decides c.args.id c.args.self.now.edition.suppliers.now)
