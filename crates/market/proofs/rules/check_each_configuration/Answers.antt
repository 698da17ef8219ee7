use Rattle.std.proofs.Common.{None, ◌∙◌, rules}
use Rattle.std.specs.Option.{option_map}
use Rattle.market.specs.Lists.{Listed, listed}
use Rattle.market.specs.Tests.{configuration_rule}
use Rattle.market.specs.declared.edition.Configuration.{Configuration}
use Rattle.market.proofs.Broken.{broken_map}
use Rattle.market.proofs.rules.check_each_configuration.Goals as goal

pub returns : goal.returns
returns c =
    c.check_each.ensures (λ before c. configuration_rule (option_map (λ (b : Configuration). b.id) before) (listed c)) (λ before x r called. search rules)
    ∙ broken_map listed (λ (l : Listed). l.id) configuration_rule None 0 c.args.configurations.now
