use Rattle.std.proofs.Common.{arith}
use Rattle.market.specs.Lists.{lists_of}
use Rattle.market.proofs.LawfulTests.{lawful_is}
use Rattle.market.proofs.edition.Edition.is_lawful.Goals as goal

pub returns-clause-value : goal.returns-clause-value
returns-clause-value c =
    let told = lawful_is (lists_of c.args.self.now) c.fault.result c.fault.ensures.value in
    grind arith
