-- The rules of an edition, entry by entry: what each asks of an entry, given the one before it.
use Rattle.std.specs.Prelude.{ℕ, ◌<◌, ◌≤◌, List, length, IfSome, Option, slice_index}
use Rattle.std.specs.List.{ContainsAt as Has}
use Rattle.market.specs.Lawful.{Precedes, key_of}
use Rattle.market.specs.Lists.{Listed}
use Rattle.market.specs.Orders.{previous}
use Rattle.market.specs.Ranges.{Id, Few, Class, Group, Day, Value}
use Rattle.market.specs.declared.edition.Combination.{Combination}
use Rattle.market.specs.declared.faults.CombinationRule.{CombinationRule}
use Rattle.market.specs.declared.faults.CombinationRule.TheVariants as combination
use Rattle.market.specs.declared.faults.ConfigurationRule.{ConfigurationRule}
use Rattle.market.specs.declared.faults.ConfigurationRule.TheVariants as configuration
use Rattle.market.specs.declared.faults.IdRule.{IdRule}
use Rattle.market.specs.declared.faults.IdRule.TheVariants as ids

-- an id, in a list that ascends
abbrev pub KeepsId : IdRule → Option ℕ → ℕ → Type 0
KeepsId ids.Range before id = Id id
KeepsId ids.Order before id = IfSome before (λ b. b < id)

-- the rule is broken by the id at the place
abbrev pub BreaksIds : IdRule → List ℕ → ℕ → Type 0
BreaksIds rule numbers k = (k < length numbers) × (KeepsId rule (previous numbers k) (slice_index numbers k) → ⊥)

-- a configuration, given the id before it
abbrev pub BreaksConfiguration : ConfigurationRule → Option ℕ → Listed → Type 0
BreaksConfiguration (configuration.Id rule) before c = KeepsId rule before c.id → ⊥
BreaksConfiguration configuration.RegimeCount before c = Few (length c.regimes) → ⊥
BreaksConfiguration (configuration.Regime rule i) before c = BreaksIds rule c.regimes i

-- a combination, given the one before it, where these configurations are listed
abbrev pub KeepsCombination : CombinationRule → List ℕ → Option Combination → Combination → Type 0
KeepsCombination combination.ConfigurationRange ids before c = Id c.configuration
KeepsCombination combination.ClassRange ids before c = Class c.class
KeepsCombination combination.GroupRange ids before c = Group c.group
KeepsCombination combination.FirstDayRange ids before c = Day c.first
KeepsCombination combination.LastDayRange ids before c = Day c.last
KeepsCombination combination.DefaultRange ids before c = Value c.default
KeepsCombination combination.DayOrder ids before c = c.first ≤ c.last
KeepsCombination combination.Listing ids before c = Has ids c.configuration
KeepsCombination combination.Order ids before c = IfSome before (λ b. Precedes (key_of b) (key_of c))
