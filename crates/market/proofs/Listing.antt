-- Whether a number is one of the numbers of a list's entries.
use Rattle.std.proofs.Common.{◌≡◌, ℕ, true, false, eqb, ◌||◌, cond, List, [], ◌∷◌, map, is_some, Some, None, Option, sym, refl, ap, ◌∙◌}
use Rattle.std.specs.Option.{option_map}
use Rattle.std.proofs.lemmas.List.{map-id}
use Rattle.market.specs.Lists.{listed, ids_of}
use Rattle.market.specs.Orders.{first}
use Rattle.market.specs.Tests.{is_listed}
use Rattle.market.specs.declared.edition.Configuration.{Configuration}

pub listed_first : {X : Type 0} (number : X → ℕ) (id : ℕ) (xs : List X) → is_listed id (map number xs) ≡ is_some (first (λ x. eqb (number x) id) xs)
listed_first number id [] = refl
listed_first number id (x ∷ xs) =
    elim (eqb (number x) id) as (λ t. (t || is_listed id (map number xs)) ≡ is_some (cond t (Some x) (first (λ y. eqb (number y) id) xs))) [ true ↦ refl | false ↦ listed_first number id xs ]

pub number_listed : (id : ℕ) (numbers : List ℕ) → is_listed id numbers ≡ is_some (first (λ n. eqb n id) numbers)
number_listed id numbers = ap (is_listed id) (sym (map-id numbers)) ∙ listed_first (λ n. n) id numbers

pub ids_lent : (cs : List Configuration) → ids_of (map listed cs) ≡ map (λ (c : Configuration). c.id) cs
ids_lent [] = refl
ids_lent (c ∷ cs) = ap (λ ids. c.id ∷ ids) (ids_lent cs)

pub configuration_listed : (cs : List Configuration) (id : ℕ) → is_listed id (ids_of (map listed cs)) ≡ is_some (first (λ (c : Configuration). eqb c.id id) cs)
configuration_listed cs id = ap (is_listed id) (ids_lent cs) ∙ listed_first (λ (c : Configuration). c.id) id cs

pub some_mapped : {X Y : Type 0} (f : X → Y) (o : Option X) → is_some (option_map f o) ≡ is_some o
some_mapped f None = refl
some_mapped f (Some x) = refl
