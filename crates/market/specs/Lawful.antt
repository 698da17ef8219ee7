-- When an edition is lawful.
use Rattle.std.specs.Prelude.{◌≡◌, ◌<◌, ◌≤◌, ◌⊎◌, List, length}
use Rattle.std.specs.List.{ContainsAt as Has, AllByRecursion}
use Rattle.fields.specs.Ascent.{Ascending}
use Rattle.market.specs.Lists.{Lists, ids_of}
use Rattle.market.specs.Orders.{Ordered}
use Rattle.market.specs.Ranges.{Id, Few, Class, Group, Day, Value}
use Rattle.market.specs.declared.edition.Combination.{Combination}
use Rattle.market.specs.declared.keys.Key.{Key}

-- what a combination is of: a configuration with a profile class in a group
abbrev pub key_of : Combination → Key
key_of c = record { configuration = c.configuration; class = c.class; group = c.group }

-- one comes before another: by its configuration, then by its profile class, then by the letter of its group
abbrev pub Precedes : Key → Key → Type 0
Precedes a b =
    (a.configuration < b.configuration)
    ⊎ ((a.configuration ≡ b.configuration) × ((a.class < b.class) ⊎ ((a.class ≡ b.class) × (a.group < b.group))))

-- combinations ascend by that
abbrev pub Ascend : List Combination → Type 0
Ascend = Ordered (λ a b. Precedes (key_of a) (key_of b))

-- every list ascends, every field is in its range, a configuration has one to four regimes, no combination
-- begins after its last day, and the configuration of each is listed
pub record Lawful (lists : Lists) : Type 0 where
  pub suppliers : AllByRecursion Id lists.suppliers
  pub suppliers_ascend : Ascending lists.suppliers
  pub configurations : AllByRecursion (λ c. Id c.id) lists.configurations
  pub configurations_ascend : Ascending (ids_of lists.configurations)
  pub few_regimes : AllByRecursion (λ c. Few (length c.regimes)) lists.configurations
  pub regimes : AllByRecursion (λ c. AllByRecursion Id c.regimes) lists.configurations
  pub regimes_ascend : AllByRecursion (λ c. Ascending c.regimes) lists.configurations
  pub combinations : AllByRecursion (λ c. Id c.configuration) lists.combinations
  pub classes : AllByRecursion (λ c. Class c.class) lists.combinations
  pub groups : AllByRecursion (λ c. Group c.group) lists.combinations
  pub first_days : AllByRecursion (λ c. Day c.first) lists.combinations
  pub last_days : AllByRecursion (λ c. Day c.last) lists.combinations
  pub defaults : AllByRecursion (λ c. Value c.default) lists.combinations
  pub begun : AllByRecursion (λ c. c.first ≤ c.last) lists.combinations
  pub combinations_listed : AllByRecursion (λ c. Has (ids_of lists.configurations) c.configuration) lists.combinations
  pub combinations_ascend : Ascend lists.combinations
