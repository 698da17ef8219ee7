use Rattle.market.proofs.InOrder.{combinations_ascend}
use Rattle.market.proofs.Verdicts.{sound}
use Rattle.market.proofs.checked.LawfulEdition.combinations.Goals as goal

pub invariant_of-result : goal.invariant_of-result
invariant_of-result c = record { ascend = combinations_ascend c.args.self.now.edition.combinations.now (sound c.args.self.now).combinations_ascend }
