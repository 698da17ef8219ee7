use Rattle.std.proofs.Common.{◌∙◌}
use Rattle.market.specs.Lists.{lists_of}
use Rattle.market.proofs.LawfulTests.{fault_decides, fault_told}
use Rattle.market.proofs.edition.Edition.fault.Goals as goal

pub returns-clause-lawful : goal.returns-clause-lawful
returns-clause-lawful c = fault_decides (lists_of c.args.self.now) _ (c.err.ensures.value ∙ c.check.ensures)

pub returns-clause-broken : goal.returns-clause-broken
returns-clause-broken c = fault_told (lists_of c.args.self.now) _ (c.err.ensures.value ∙ c.check.ensures)
