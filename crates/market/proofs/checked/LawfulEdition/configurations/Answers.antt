use Rattle.market.proofs.InOrder.{listed_ascend}
use Rattle.market.proofs.Verdicts.{sound}
use Rattle.market.proofs.checked.LawfulEdition.configurations.Goals as goal

pub invariant_of-result : goal.invariant_of-result
invariant_of-result c = record { ascend = listed_ascend c.args.self.now.edition.configurations.now (sound c.args.self.now).configurations_ascend }
