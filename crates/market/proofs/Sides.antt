-- Combinations that ascend: those of a configuration stand side by side.
use Rattle.std.proofs.Common.{◌≡◌, ℕ, zero, suc, ◌-◌, ◌<◌, ◌≤◌, Bool, true, false, eqb, ltb, leb, List, [], ◌∷◌, length, get_or, take, drop, filter, sym, ap, ◌∙◌, ⊎_elim, not-suc-le-zero, arith, Bor}
use Rattle.std.specs.Fn.{Called, ComputesKey}
use Rattle.std.specs.List.{AllWithin}
use Rattle.std.specs.List.Sorted.{IsNonDecreasingBy, IsPartitionedBy, IsPartitionPoint}
use Rattle.std.proofs.lemmas.List.{drop_all, take_all}
use Rattle.std.proofs.lemmas.Bool.{cases_lt, cond-true, cond-false, ltb-true, ltb-false, leb-true, leb-false, eq-eqb, ne_eqb}
use Rattle.std.proofs.lemmas.List.Sorted.{IsPartitionPoint-from_clause, IsPartitionedBy-ltb, IsPartitionedBy-leb}
use denote.Param.Members.{Mut}
use Rattle.market.specs.Orders.{Ordered}
use Rattle.market.specs.Lawful.{key_of}
use Rattle.market.specs.declared.edition.Combination.{Combination}
use Rattle.market.proofs.KeyOrder.{below, below_configuration}

-- an entry, of a list that has one
entry_from : {X : Type 0} (xs : List X) (k : ℕ) → k < length xs → X
entry_from [] k h = absurd (not-suc-le-zero h)
entry_from (x ∷ xs) k h = x

-- what passes a test stands between two places
pub filter_between : {X : Type 0} (test : X → Bool) (xs : List X) (a b : ℕ) → a ≤ b → b ≤ length xs → AllWithin (λ x. test x ≡ false) xs 0 a → AllWithin (λ x. test x ≡ true) xs a b → AllWithin (λ x. test x ≡ false) xs b (length xs) → take (b - a) (drop a xs) ≡ filter test xs
filter_between test [] a b o w low mid high = ap (take (b - a)) (drop_all a [] (omega arith)) ∙ take_all (b - a) [] (omega arith)
filter_between test (x ∷ xs) zero zero o w low mid high =
    filter_between test xs 0 0 (omega arith) (omega arith) (λ k d l m. absurd (omega arith)) (λ k d l m. absurd (omega arith)) (λ k d l m. high (suc k) d (omega arith) (omega arith))
    ∙ sym (cond-false _ _ _ (high 0 x (omega arith) (omega arith)))
filter_between test (x ∷ xs) zero (suc b) o w low mid high =
    let e : suc b - 0 ≡ suc (b - 0) = omega arith in
    ap (λ n. take n (x ∷ xs)) e ∙ ap (λ ys. x ∷ ys) (filter_between test xs 0 b (omega arith) (omega arith) (λ k d l m. absurd (omega arith)) (λ k d l m. mid (suc k) d (omega arith) (omega arith)) (λ k d l m. high (suc k) d (omega arith) (omega arith)))
    ∙ sym (cond-true _ _ _ (mid 0 x (omega arith) (omega arith)))
filter_between test (x ∷ xs) (suc a) zero o w low mid high = absurd (omega arith)
filter_between test (x ∷ xs) (suc a) (suc b) o w low mid high =
    let e : suc b - suc a ≡ b - a = omega arith in
    ap (λ n. take n (drop a xs)) e
    ∙ filter_between test xs a b (omega arith) (omega arith) (λ k d l m. low (suc k) d (omega arith) (omega arith)) (λ k d l m. mid (suc k) d (omega arith) (omega arith)) (λ k d l m. high (suc k) d (omega arith) (omega arith))
    ∙ sym (cond-false _ _ _ (low 0 x (omega arith) (omega arith)))

-- their configurations do not fall, so that halving finds where they reach a number, and where they pass it
pub configurations_rise : (cs : List Combination) → Ordered (λ x y. below (key_of x) (key_of y)) cs → IsNonDecreasingBy (λ c. c.configuration) cs
configurations_rise cs up i j d l m =
    ⊎_elim (λ h. below_configuration (key_of (get_or cs i d)) (key_of (get_or cs j d)) (up i j d h m)) (λ h. let e : i ≡ j = omega arith in let s = ap (λ k. (get_or cs k d).configuration) e in omega arith) (cases_lt i j)

module _ (cs : List Combination) (up : Ordered (λ x y. below (key_of x) (key_of y)) cs) (id : ℕ) {F : Type 0} {g : Mut F (Bor Combination × Unit {0}) Bool} {f : F} (i : ℕ) where
  pub reached : ((q : Combination → Bool) → ComputesKey g q f → IsPartitionedBy q cs → IsPartitionPoint (λ y. q y ≡ true) (λ y. q y ≡ false) cs i) → ((a : Bor Combination × Unit {0}) (r : Bool) (f' : F) → Called g f a r f' → (r ≡ ltb a.0.now.configuration id) × (f' ≡ f)) → IsPartitionPoint (λ c. ltb c.configuration id ≡ true) (λ c. ltb c.configuration id ≡ false) cs i
  reached clause = IsPartitionPoint-from_clause (λ c. ltb c.configuration id) cs i clause (IsPartitionedBy-ltb (λ c. c.configuration) cs id (configurations_rise cs up))

  pub passed : ((q : Combination → Bool) → ComputesKey g q f → IsPartitionedBy q cs → IsPartitionPoint (λ y. q y ≡ true) (λ y. q y ≡ false) cs i) → ((a : Bor Combination × Unit {0}) (r : Bool) (f' : F) → Called g f a r f' → (r ≡ leb a.0.now.configuration id) × (f' ≡ f)) → IsPartitionPoint (λ c. leb c.configuration id ≡ true) (λ c. leb c.configuration id ≡ false) cs i
  passed clause = IsPartitionPoint-from_clause (λ c. leb c.configuration id) cs i clause (IsPartitionedBy-leb (λ c. c.configuration) cs id (configurations_rise cs up))

module _ (cs : List Combination) (id a b : ℕ) (at_a : IsPartitionPoint (λ c. ltb c.configuration id ≡ true) (λ c. ltb c.configuration id ≡ false) cs a) (at_b : IsPartitionPoint (λ c. leb c.configuration id ≡ true) (λ c. leb c.configuration id ≡ false) cs b) (within : a ≤ length cs) where
  crossed : b < a → ⊥
  crossed h =
      let d = entry_from cs b (omega arith) in
      omega (arith, ltb-true _ id (at_a.0 b d (omega arith) h), leb-false _ id (at_b.1 b d (omega arith) (omega arith)))

  pub start_end : a ≤ b
  start_end = ⊎_elim (λ h. absurd (crossed h)) (λ h. h) (cases_lt b a)

  pub between : b ≤ length cs → take (b - a) (drop a cs) ≡ filter (λ c. eqb c.configuration id) cs
  between within_b =
      filter_between (λ (c : Combination). eqb c.configuration id) cs a b start_end within_b
      (λ k d l m. ne_eqb _ _ (λ e. omega (arith, ltb-true _ id (at_a.0 k d l m))))
      (λ k d l m. eq-eqb _ _ (omega (arith, ltb-false _ id (at_a.1 k d l (omega arith)), leb-true _ id (at_b.0 k d (omega arith) m))))
      (λ k d l m. ne_eqb _ _ (λ e. omega (arith, leb-false _ id (at_b.1 k d l m))))
