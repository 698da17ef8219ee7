-- Each test of a rule decides it.
use Rattle.std.proofs.Common.{◌≡◌, ℕ, ◌≤◌, true, false, cond, not, eqb, leb, List, [], ◌∷◌, Some, None, Decides, Option, refl, ap, ◌∙◌}
use Rattle.std.specs.Option.{option_or}
use Rattle.std.specs.List.{ContainsAt as Has, AllByRecursion}
use Rattle.std.proofs.lemmas.Bool.{leb-true, le-leb, not-true, not-false}
use Rattle.std.proofs.lemmas.Bool.Decides.{Decides-and, Decides-or, Decides-by_or, Decides-ltb, Decides-eqb, not_from_Decides}
use Rattle.market.specs.Lawful.{Precedes, key_of}
use Rattle.market.specs.Rules.{KeepsId, KeepsCombination}
use Rattle.market.specs.Tests.{keeps_id, id_rule, keeps_combination, field_rule, field_rules, combination_rule, combination_rules, precedes, is_listed, follows}
use Rattle.market.specs.declared.edition.Combination.{Combination}
use Rattle.market.specs.declared.faults.CombinationRule.{CombinationRule}
use Rattle.market.specs.declared.faults.CombinationRule.TheVariants as combination
use Rattle.market.specs.declared.faults.IdRule.{IdRule}
use Rattle.market.specs.declared.faults.IdRule.TheVariants as ids
use Rattle.market.specs.declared.keys.Key.{Key}
use Rattle.market.proofs.Broken.{first_passes, first_none, first_append}

pub decides_leb : (a b : ℕ) → Decides (leb a b) (a ≤ b)
decides_leb a b = (leb-true a b, le-leb a b)

pub precedes_decides : (a b : Key) → Decides (precedes a b) (Precedes a b)
precedes_decides a b =
    Decides-or _ _ (Decides-ltb a.configuration b.configuration)
    (Decides-and _ _ (Decides-eqb a.configuration b.configuration) (Decides-or _ _ (Decides-ltb a.class b.class) (Decides-and _ _ (Decides-eqb a.class b.class) (Decides-ltb a.group b.group))))

pub listed_decides : (id : ℕ) (numbers : List ℕ) → Decides (is_listed id numbers) (Has numbers id)
listed_decides id numbers = Decides-by_or (λ n. eqb n id) (λ n. n ≡ id) (is_listed id) (λ n. Decides-eqb n id) refl (λ _ _. refl) numbers

pub id_decides : (rule : IdRule) (before : Option ℕ) (id : ℕ) → Decides (keeps_id rule before id) (KeepsId rule before id)
id_decides ids.Range before id = decides_leb 1 id
id_decides ids.Order None id = (λ _. tt, λ _. refl)
id_decides ids.Order (Some b) id = Decides-ltb b id

pub combination_decides : (rule : CombinationRule) (numbers : List ℕ) (before : Option Combination) (c : Combination) → Decides (keeps_combination rule numbers before c) (KeepsCombination rule numbers before c)
combination_decides combination.ConfigurationRange numbers before c = decides_leb 1 c.configuration
combination_decides combination.ClassRange numbers before c = Decides-and _ _ (decides_leb 1 c.class) (decides_leb c.class 16)
combination_decides combination.GroupRange numbers before c = (λ e. e, λ e. e)
combination_decides combination.FirstDayRange numbers before c = Decides-and _ _ (decides_leb 1 c.first) (decides_leb c.first 60000)
combination_decides combination.LastDayRange numbers before c = Decides-and _ _ (decides_leb 1 c.last) (decides_leb c.last 60000)
combination_decides combination.DefaultRange numbers before c = decides_leb _ 2000000000
combination_decides combination.DayOrder numbers before c = decides_leb c.first c.last
combination_decides combination.Listing numbers before c = listed_decides c.configuration numbers
combination_decides combination.Order numbers None c = (λ _. tt, λ _. refl)
combination_decides combination.Order numbers (Some b) c = precedes_decides (key_of b) (key_of c)

-- no rule is broken: each is kept
pub ids_kept : (before : Option ℕ) (id : ℕ) → id_rule before id ≡ None → (rule : IdRule) → KeepsId rule before id
ids_kept before id e rule = (id_decides rule before id).0 (not-false _ (passes rule))
  where
    all : AllByRecursion (λ r. not (keeps_id r before id) ≡ false) (ids.Range ∷ ids.Order ∷ [])
    all = first_none (λ r. not (keeps_id r before id)) (ids.Range ∷ ids.Order ∷ []) e

    passes : (r : IdRule) → not (keeps_id r before id) ≡ false
    passes ids.Range = all.0
    passes ids.Order = all.1.0

pub combinations_kept : (numbers : List ℕ) (before : Option Combination) (c : Combination) → combination_rule numbers before c ≡ None → (rule : CombinationRule) → KeepsCombination rule numbers before c
unfolding combination_rule
combinations_kept numbers before c e rule = (combination_decides rule numbers before c).0 (not-false _ (passes rule))
  where
    all : AllByRecursion (λ r. not (keeps_combination r numbers before c) ≡ false) combination_rules
    all = first_none (λ r. not (keeps_combination r numbers before c)) combination_rules e

    passes : (r : CombinationRule) → not (keeps_combination r numbers before c) ≡ false
    passes combination.ConfigurationRange = all.0
    passes combination.ClassRange = all.1.0
    passes combination.GroupRange = all.1.1.0
    passes combination.FirstDayRange = all.1.1.1.0
    passes combination.LastDayRange = all.1.1.1.1.0
    passes combination.DefaultRange = all.1.1.1.1.1.0
    passes combination.DayOrder = all.1.1.1.1.1.1.0
    passes combination.Listing = all.1.1.1.1.1.1.1.0
    passes combination.Order = all.1.1.1.1.1.1.1.1.0

-- a rule that is told is broken
pub id_broken : (before : Option ℕ) (id : ℕ) (rule : IdRule) → id_rule before id ≡ Some rule → KeepsId rule before id → ⊥
id_broken before id rule e =
    not_from_Decides _ (id_decides rule before id) (not-true _ (first_passes (λ r. not (keeps_id r before id)) (ids.Range ∷ ids.Order ∷ []) rule e))

pub combination_broken : (numbers : List ℕ) (before : Option Combination) (c : Combination) (rule : CombinationRule) → combination_rule numbers before c ≡ Some rule → KeepsCombination rule numbers before c → ⊥
unfolding combination_rule
combination_broken numbers before c rule e =
    not_from_Decides _ (combination_decides rule numbers before c) (not-true _ (first_passes (λ r. not (keeps_combination r numbers before c)) combination_rules rule e))

-- the rules of the fields are told first, then those that ask for the other entries
module _ (numbers : List ℕ) (before : Option Combination) (c : Combination) where
  among : Option CombinationRule
  among = cond (not (is_listed c.configuration numbers)) (Some combination.Listing) (cond (not (follows before c)) (Some combination.Order) None)

  rule_parts : combination_rule numbers before c ≡ option_or (field_rule c) among
  unfolding combination_rule among
  rule_parts = first_append (λ rule. not (keeps_combination rule numbers before c)) field_rules (combination.Listing ∷ combination.Order ∷ [])

  pub rule_field : (rule : CombinationRule) → field_rule c ≡ Some rule → combination_rule numbers before c ≡ Some rule
  rule_field rule e = rule_parts ∙ ap (λ o. option_or o among) e

  pub rule_unlisted : field_rule c ≡ None → is_listed c.configuration numbers ≡ false → combination_rule numbers before c ≡ Some combination.Listing
  unfolding among
  rule_unlisted e l = rule_parts ∙ ap (λ o. option_or o among) e ∙ ap (λ t. cond (not t) (Some combination.Listing) (cond (not (follows before c)) (Some combination.Order) None)) l

  pub rule_listed : field_rule c ≡ None → is_listed c.configuration numbers ≡ true → combination_rule numbers before c ≡ cond (not (follows before c)) (Some combination.Order) None
  unfolding among
  rule_listed e l = rule_parts ∙ ap (λ o. option_or o among) e ∙ ap (λ t. cond (not t) (Some combination.Listing) (cond (not (follows before c)) (Some combination.Order) None)) l
