-- What is wrong with an edition.
use Rattle.std.specs.Prelude.{ℕ, ◌<◌, Bool, not, length, is_some, Option, slice_index_or}
use Rattle.std.specs.Option.{option_map, option_or}
use Rattle.market.specs.Lists.{Lists, Listed, ids_of}
use Rattle.market.specs.Orders.{previous}
use Rattle.market.specs.Rules.{BreaksIds, BreaksConfiguration, KeepsCombination}
use Rattle.market.specs.Tests.{ids_broken, configurations_broken, combinations_broken}
use Rattle.market.specs.declared.edition.Combination.{Combination}
use Rattle.market.specs.declared.faults.CombinationRule.{CombinationRule}
use Rattle.market.specs.declared.faults.ConfigurationRule.{ConfigurationRule}
use Rattle.market.specs.declared.faults.EditionFault.{EditionFault}
use Rattle.market.specs.declared.faults.EditionFault.TheVariants as fault
use Rattle.market.specs.declared.faults.IdRule.{IdRule}

-- the rule that a fault names is broken at the place that it names
abbrev pub Breaks : EditionFault → Lists → Type 0
Breaks (fault.Supplier rule k) lists = BreaksIds rule lists.suppliers k
Breaks (fault.Configuration rule k) lists =
    (k < length lists.configurations)
    × ((d : Listed) → BreaksConfiguration rule (previous (ids_of lists.configurations) k) (slice_index_or lists.configurations k d))
Breaks (fault.Combination rule k) lists =
    (k < length lists.combinations)
    × ((d : Combination) → KeepsCombination rule (ids_of lists.configurations) (previous lists.combinations k) (slice_index_or lists.combinations k d) → ⊥)

-- in each list, of the first entry that breaks a rule, the first rule that it breaks
abbrev pub supplier_fault : Option (IdRule × ℕ) → Option EditionFault
supplier_fault = option_map (λ broken. fault.Supplier broken.0 broken.1)

abbrev pub configuration_fault : Option (ConfigurationRule × ℕ) → Option EditionFault
configuration_fault = option_map (λ broken. fault.Configuration broken.0 broken.1)

abbrev pub combination_fault : Option (CombinationRule × ℕ) → Option EditionFault
combination_fault = option_map (λ broken. fault.Combination broken.0 broken.1)

-- of the lists that have a fault, the first
unfoldable pub first_fault : Lists → Option EditionFault
first_fault lists =
    option_or (supplier_fault (ids_broken lists.suppliers))
    (option_or (configuration_fault (configurations_broken lists.configurations)) (combination_fault (combinations_broken (ids_of lists.configurations) lists.combinations)))

-- the test for a lawful edition
unfoldable pub is_lawful : Lists → Bool
is_lawful lists = not (is_some (first_fault lists))
