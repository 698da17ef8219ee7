-- What a search by halving finds in a list whose keys ascend: the first entry that has the key, and the only one.
use Rattle.std.proofs.Common.{◌≡◌, ℕ, zero, suc, ◌+◌, ◌<◌, Bool, true, false, List, [], ◌∷◌, length, get_or, Some, None, Result, Ok, Err, sym, refl, ap, ◌∙◌, ⊎_elim, le_of_suc-le-suc, not-suc-le-zero, arith}
use Rattle.std.specs.Cmp.{IsTotalOrder}
use Rattle.std.specs.List.Sorted.{IsNonDecreasingBy, IsBinarySearchResult, IsSearchInRange}
use Rattle.std.specs.Ordering.{is_lt, is_eq, ordering_index, ordering_reverse}
use Rattle.std.specs.Result.{result_ok}
use Rattle.std.specs.declared.cmp.Ordering.{Ordering}
use Rattle.std.specs.declared.cmp.Ordering.TheVariants.{Less, Equal, Greater}
use Rattle.std.proofs.lemmas.Bool.{cases_lt, cond-true, cond-false}
use Rattle.std.proofs.lemmas.List.Sorted.{searchable_from_sorted}
use Rattle.market.specs.Orders.{Ordered, first}

module _ {X : Type 0} (test : X → Bool) where
  pub first_fails : (xs : List X) → ((i : ℕ) (d : X) → i < length xs → test (get_or xs i d) ≡ false) → first test xs ≡ None
  first_fails [] h = refl
  first_fails (x ∷ xs) h = cond-false _ _ _ (h 0 x (omega arith)) ∙ first_fails xs (λ i d l. h (suc i) d (omega arith))

  -- an entry that passes, and none before it does
  pub first_at : (xs : List X) (k : ℕ) (d : X) → k < length xs → test (get_or xs k d) ≡ true → ((i : ℕ) → i < k → test (get_or xs i d) ≡ false) → first test xs ≡ Some (get_or xs k d)
  first_at [] k d h t front = absurd (not-suc-le-zero h)
  first_at (x ∷ xs) zero d h t front = cond-true _ _ _ t
  first_at (x ∷ xs) (suc k) d h t front =
      cond-false _ _ _ (front 0 (omega arith)) ∙ first_at xs k d (le_of_suc-le-suc h) t (λ i l. front (suc i) (omega arith))

reversed : (r : Ordering) → is_lt r ≡ true → is_lt (ordering_reverse r) ≡ false
reversed Less e = refl
reversed Equal e = cc
reversed Greater e = cc

below_is_other : (r : Ordering) → is_lt r ≡ true → is_eq r ≡ false
below_is_other Less e = refl
below_is_other Equal e = cc
below_is_other Greater e = cc

module _ {X K : Type 0} {R : K → K → Ordering} (o : IsTotalOrder R) (key : X → K) (xs : List X) (up : Ordered (λ x y. is_lt (R (key x) (key y)) ≡ true) xs) (k : K) (E : K → K → Bool) (same : (x y : K) → E x y ≡ is_eq (R x y)) where
  rises : IsNonDecreasingBy (λ y. ordering_index (R (key y) k)) xs
  rises =
      searchable_from_sorted o key xs k
      (λ n d l m. ap is_lt (o.antisymm (key (get_or xs (n + 1) d)) (key (get_or xs n d))) ∙ reversed _ (up n (n + 1) d (omega arith) m))

  before : (i j : ℕ) (d : X) → i < j → j < length xs → R (key (get_or xs j d)) k ≡ Equal → E (key (get_or xs i d)) k ≡ false
  before i j d l m e =
      let a = key (get_or xs i d) in
      let b = key (get_or xs j d) in
      same a k ∙ ap is_eq (o.antisymm a k ∙ ap ordering_reverse (sym (o.congr b k a e)) ∙ sym (o.antisymm a b)) ∙ below_is_other _ (up i j d l m)

  pub search_some : (r : Result ℕ ℕ) (i : ℕ) → Some i ≡ result_ok r → IsSearchInRange r (length xs) → IsBinarySearchResult (λ y. R (key y) k) xs r → (d : X) → first (λ x. E (key x) k) xs ≡ Some (get_or xs i d)
  search_some (Err j) i e l h d = cc
  search_some (Ok j) i e l h d =
      let s : j ≡ i = cc in
      let here = first_at (λ x. E (key x) k) xs j d l (same _ k ∙ ap is_eq (h d)) (λ a m. before a j d m l (h d)) in
      here ∙ ap (λ n. Some (get_or xs n d)) s

  pub search_none : (r : Result ℕ ℕ) → None ≡ result_ok r → IsBinarySearchResult (λ y. R (key y) k) xs r → first (λ x. E (key x) k) xs ≡ None
  search_none (Ok j) e h = cc
  search_none (Err j) e h =
      let parted = h rises in
      first_fails (λ x. E (key x) k) xs
      (λ i d l. same _ k ∙ ⊎_elim (λ low. ap is_eq (parted.0 i d (omega arith) low)) (λ high. ap is_eq (parted.1 i d high l)) (cases_lt i j))
