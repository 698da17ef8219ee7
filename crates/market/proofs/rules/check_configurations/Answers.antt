use Rattle.std.proofs.Common.{◌≡◌, map, None, rules}
use Rattle.market.specs.Faults.{configuration_fault}
use Rattle.market.specs.Lists.{listed}
use Rattle.market.specs.Tests.{configurations_broken}
use Rattle.market.proofs.InOrder.{configurations_ascend}
use Rattle.market.proofs.rules.check_configurations.Goals as goal

pub invariant_of-result : goal.invariant_of-result
invariant_of-result c =
    let clear : configuration_fault (configurations_broken (map listed c.args.configurations.now)) ≡ None = search rules in
    record { ascend = configurations_ascend c.args.configurations.now clear }
