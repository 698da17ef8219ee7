-- A test of each rule, and with them which rule is told: of the first entry that breaks one, the first.
use Rattle.std.specs.Prelude.{ℕ, suc, Bool, true, false, cond, not, ◌&&◌, ◌||◌, List, [], ◌∷◌, ◌++◌, length, is_some, Some, None, Option, ◌==◌, nat_le, nat_lt, unsigned_abs}
use Rattle.fields.specs.Days.{is_day}
use Rattle.fields.specs.Groups.{group_of}
use Rattle.market.specs.Lawful.{key_of}
use Rattle.market.specs.Lists.{Listed}
use Rattle.market.specs.Orders.{first}
use Rattle.market.specs.declared.edition.Combination.{Combination}
use Rattle.market.specs.declared.faults.CombinationRule.{CombinationRule}
use Rattle.market.specs.declared.faults.CombinationRule.TheVariants as combination
use Rattle.market.specs.declared.faults.ConfigurationRule.{ConfigurationRule}
use Rattle.market.specs.declared.faults.ConfigurationRule.TheVariants as configuration
use Rattle.market.specs.declared.faults.IdRule.{IdRule}
use Rattle.market.specs.declared.faults.IdRule.TheVariants as ids
use Rattle.market.specs.declared.keys.Key.{Key}

-- the first entry that breaks a rule, with its place: `rule` says what an entry breaks, given the key of the one before it
abbrev pub told : {R : Type 0} → Option R → ℕ → Option (R × ℕ) → Option (R × ℕ)
told None place later = later
told (Some rule) place later = Some (rule, place)

abbrev pub first_broken : {X K R : Type 0} → (X → K) → (Option K → X → Option R) → Option K → ℕ → List X → Option (R × ℕ)
first_broken key rule before place [] = None
first_broken key rule before place (x ∷ xs) = told (rule before x) place (first_broken key rule (Some (key x)) (suc place) xs)

-- of an id: its range, then its order
abbrev pub keeps_id : IdRule → Option ℕ → ℕ → Bool
keeps_id ids.Range before id = nat_le 1 id
keeps_id ids.Order None id = true
keeps_id ids.Order (Some b) id = nat_lt b id

abbrev pub id_rule : Option ℕ → ℕ → Option IdRule
id_rule before id = first (λ rule. not (keeps_id rule before id)) (ids.Range ∷ ids.Order ∷ [])

abbrev pub ids_broken : List ℕ → Option (IdRule × ℕ)
ids_broken = first_broken (λ id. id) id_rule None 0

-- of a configuration: its own id, then how many regimes, then each of them
abbrev pub regime_rule : Option (IdRule × ℕ) → Option ConfigurationRule
regime_rule None = None
regime_rule (Some broken) = Some (configuration.Regime broken.0 broken.1)

abbrev pub regimes_rule : List ℕ → Option ConfigurationRule
regimes_rule regimes = cond (nat_le 1 (length regimes) && nat_le (length regimes) 4) (regime_rule (ids_broken regimes)) (Some configuration.RegimeCount)

abbrev pub id_first : Option IdRule → Option ConfigurationRule → Option ConfigurationRule
id_first None later = later
id_first (Some rule) later = Some (configuration.Id rule)

abbrev pub configuration_rule : Option ℕ → Listed → Option ConfigurationRule
configuration_rule before c = id_first (id_rule before c.id) (regimes_rule c.regimes)

abbrev pub configurations_broken : List Listed → Option (ConfigurationRule × ℕ)
configurations_broken = first_broken (λ c. c.id) configuration_rule None 0

-- of a combination: what it keeps by itself, then what it keeps among others
abbrev pub precedes : Key → Key → Bool
precedes a b =
    nat_lt a.configuration b.configuration
    || (a.configuration == b.configuration && (nat_lt a.class b.class || (a.class == b.class && nat_lt a.group b.group)))

abbrev pub is_listed : ℕ → List ℕ → Bool
is_listed id [] = false
is_listed id (n ∷ ns) = n == id || is_listed id ns

abbrev pub follows : Option Combination → Combination → Bool
follows None c = true
follows (Some b) c = precedes (key_of b) (key_of c)

abbrev pub keeps_combination : CombinationRule → List ℕ → Option Combination → Combination → Bool
keeps_combination combination.ConfigurationRange ids before c = nat_le 1 c.configuration
keeps_combination combination.ClassRange ids before c = nat_le 1 c.class && nat_le c.class 16
keeps_combination combination.GroupRange ids before c = is_some (group_of c.group)
keeps_combination combination.FirstDayRange ids before c = is_day c.first
keeps_combination combination.LastDayRange ids before c = is_day c.last
keeps_combination combination.DefaultRange ids before c = nat_le (unsigned_abs c.default) 2000000000
keeps_combination combination.DayOrder ids before c = nat_le c.first c.last
keeps_combination combination.Listing ids before c = is_listed c.configuration ids
keeps_combination combination.Order ids before c = follows before c

abbrev pub field_rules : List CombinationRule
field_rules =
    combination.ConfigurationRange ∷ combination.ClassRange ∷ combination.GroupRange ∷ combination.FirstDayRange ∷ combination.LastDayRange
    ∷ combination.DefaultRange ∷ combination.DayOrder ∷ []

abbrev pub combination_rules : List CombinationRule
combination_rules = field_rules ++ (combination.Listing ∷ combination.Order ∷ [])

abbrev pub field_rule : Combination → Option CombinationRule
field_rule c = first (λ rule. not (keeps_combination rule [] None c)) field_rules

unfoldable pub combination_rule : List ℕ → Option Combination → Combination → Option CombinationRule
combination_rule ids before c = first (λ rule. not (keeps_combination rule ids before c)) combination_rules

abbrev pub combinations_broken : List ℕ → List Combination → Option (CombinationRule × ℕ)
combinations_broken ids = first_broken (λ c. c) (combination_rule ids) None 0
