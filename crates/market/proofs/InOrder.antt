-- What lawful lists say of the keys of their entries: each is below those behind it.
use Rattle.std.proofs.Common.{◌≡◌, ℕ, ◌<◌, true, List, map, length, get_or, None, sym, ◌∙◌, subst, arith}
use Rattle.std.specs.Ordering.{is_lt, nat_cmp}
use Rattle.std.proofs.lemmas.Grind.{common_steps}
use Rattle.std.proofs.lemmas.List.{map-id, length-map, get_or-map}
use Rattle.fields.specs.Ascent.{Ascending}
use Rattle.market.specs.Faults.{configuration_fault}
use Rattle.market.specs.Lawful.{Ascend, key_of}
use Rattle.market.specs.Lists.{listed, ids_of}
use Rattle.market.specs.Orders.{Ordered}
use Rattle.market.specs.Tests.{configurations_broken}
use Rattle.market.specs.declared.edition.Combination.{Combination}
use Rattle.market.specs.declared.edition.Configuration.{Configuration}
use Rattle.market.proofs.KeyOrder.{below, below_precedes}
use Rattle.market.proofs.LawfulTests.{configurations_clear, none_mapped}
use Rattle.market.proofs.Listing.{ids_lent}
use Rattle.market.proofs.RuleTests.{precedes_decides}

less : (a b : ℕ) → a < b → is_lt (nat_cmp a b) ≡ true
less a b h = grind (arith, common_steps)

module _ {X : Type 0} (number : X → ℕ) (xs : List X) (up : Ascending (map number xs)) where
  number_at : (k : ℕ) (d : X) → k < length xs → get_or (map number xs) k 0 ≡ number (get_or xs k d)
  number_at k d h = get_or-map number xs k d 0 h

  numbers_ascend : Ordered (λ x y. is_lt (nat_cmp (number x) (number y)) ≡ true) xs
  numbers_ascend i j d l m =
      let len : length (map number xs) ≡ length xs = length-map xs number in
      less (number (get_or xs i d)) (number (get_or xs j d)) (omega (arith, up i j l (omega arith), number_at i d (omega arith), number_at j d m))

pub ids_ascend : (ids : List ℕ) → Ascending ids → Ordered (λ x y. is_lt (nat_cmp x y) ≡ true) ids
ids_ascend ids up = numbers_ascend (λ n. n) ids (subst Ascending (sym (map-id ids)) up)

pub listed_ascend : (cs : List Configuration) → Ascending (ids_of (map listed cs)) → Ordered (λ x y. is_lt (nat_cmp x.id y.id) ≡ true) cs
listed_ascend cs up = numbers_ascend (λ (c : Configuration). c.id) cs (subst Ascending (ids_lent cs) up)

pub configurations_ascend : (cs : List Configuration) → configuration_fault (configurations_broken (map listed cs)) ≡ None → Ordered (λ x y. is_lt (nat_cmp x.id y.id) ≡ true) cs
configurations_ascend cs e = listed_ascend cs (configurations_clear (map listed cs) (none_mapped _ _ e)).1

pub combinations_ascend : (cs : List Combination) → Ascend cs → Ordered (λ x y. below (key_of x) (key_of y)) cs
combinations_ascend cs up i j d l m = below_precedes (key_of (get_or cs i d)) (key_of (get_or cs j d)) ∙ (precedes_decides (key_of (get_or cs i d)) (key_of (get_or cs j d))).1 (up i j d l m)
