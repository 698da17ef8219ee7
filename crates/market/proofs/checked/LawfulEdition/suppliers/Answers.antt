use Rattle.market.proofs.InOrder.{ids_ascend}
use Rattle.market.proofs.Verdicts.{sound}
use Rattle.market.proofs.checked.LawfulEdition.suppliers.Goals as goal

pub invariant_of-result : goal.invariant_of-result
invariant_of-result c = record { ascend = ids_ascend c.args.self.now.edition.suppliers.now (sound c.args.self.now).suppliers_ascend }
