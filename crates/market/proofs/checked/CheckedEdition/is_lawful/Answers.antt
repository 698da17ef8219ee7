use Rattle.std.proofs.lemmas.Bool.Decides.{Decides-at}
use Rattle.market.specs.Lookups.{lists_in}
use Rattle.market.proofs.LawfulTests.{lawful_decides}
use Rattle.market.proofs.checked.CheckedEdition.is_lawful.Goals as goal

pub returns-clause-law : goal.returns-clause-law
returns-clause-law c = Decides-at _ _ c.args.self.now.verdict (lawful_decides (lists_in c.args.self.now))
