-- Rows in ascending order of their starts stay so.
use Rattle.std.proofs.Common.{◌≡◌, ℕ, ◌-◌, ◌<◌, List, [], ◌∷◌, ◌++◌, map, length, get_or, take, sym, ap, subst, ⊎_elim, arith}
use Rattle.std.proofs.lemmas.List.{length-take, length_push, length-map, get_or-take, get_or_append_left, get_or_push, map_push, take-map}
use Rattle.std.proofs.lemmas.Bool.{cases_lt}
use Rattle.fields.specs.Ascent.{Ascending}
use Rattle.timeline.specs.Finding.{StartsAfter}

take_ascends : (n : ℕ) (ss : List ℕ) → Ascending ss → Ascending (take n ss)
take_ascends n ss up i j l h =
    let long = length-take n ss in
    omega (arith, up i j l (omega arith), get_or-take n ss i 0 (omega arith), get_or-take n ss j 0 (omega arith))

-- every start is before one that is after the last
below : (ss : List ℕ) (s : ℕ) → Ascending ss → (0 < length ss → get_or ss (length ss - 1) 0 < s) → (i : ℕ) → i < length ss → get_or ss i 0 < s
below ss s up after i h =
    ⊎_elim
    (λ l. omega (arith, after (omega arith), up i (length ss - 1) l (omega arith)))
    (λ l. let e : i ≡ length ss - 1 = omega arith in omega (arith, after (omega arith), ap (λ k. get_or ss k 0) e))
    (cases_lt i (length ss - 1))

push_ascends : (ss : List ℕ) (s : ℕ) → Ascending ss → (0 < length ss → get_or ss (length ss - 1) 0 < s) → Ascending (ss ++ s ∷ [])
push_ascends ss s up after i j l h =
    let long = length_push ss s in
    ⊎_elim
    (λ k. omega (arith, up i j l k, get_or_append_left ss (s ∷ []) 0 i (omega arith), get_or_append_left ss (s ∷ []) 0 j k))
    (λ k. omega (arith, below ss s up after i (omega arith), get_or_append_left ss (s ∷ []) 0 i (omega arith), get_or_push ss s 0 j (omega arith)))
    (cases_lt j (length ss))

module _ {X : Type 0} (start : X → ℕ) (rows : List X) (up : Ascending (map start rows)) where
  pub rows_taken : (n : ℕ) → Ascending (map start (take n rows))
  rows_taken n = subst Ascending (take-map start n rows) (take_ascends n (map start rows) up)

  pub row_added : (row : X) → StartsAfter start row (length rows) rows → Ascending (map start (rows ++ row ∷ []))
  row_added row after =
      subst Ascending (sym (map_push start rows row))
      (push_ascends (map start rows) (start row) up (subst (λ n. 0 < n → get_or (map start rows) (n - 1) 0 < start row) (sym (length-map rows start)) after))
