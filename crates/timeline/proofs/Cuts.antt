-- The rows that a cut keeps.
use Rattle.std.proofs.Common.{rules, ◌≡◌, ℕ, zero, suc, ◌+◌, ◌<◌, ◌≤◌, Bool, true, false, not, cond, ltb, leb, List, [], ◌∷◌, map, length, get_or, take, filter, sym, refl, ap, ◌∙◌, subst, arith}
use Rattle.std.proofs.lemmas.List.{length-map}
use Rattle.std.proofs.lemmas.Bool.{cond-true, cond-false, leb-true, leb-false, le-ltb, lt-ltb}
use Rattle.std.specs.List.{prefix_len}
use Rattle.fields.specs.Ascent.{Ascending}
use Rattle.timeline.specs.Finding.{before, StartedBefore}

-- the starts before the cut day, counted from the front
one_more : (late : Bool) (m n : ℕ) → m ≡ n → cond late 0 (suc m) ≡ cond (not late) (1 + n) 0
one_more true m n h = refl
one_more false m n h = omega (arith, h)

pub before_counts : {X : Type 0} (start : X → ℕ) (cut : ℕ) (rows : List X) → before cut (map start rows) ≡ prefix_len (λ row. ltb (start row) cut) rows
before_counts start cut [] = refl
before_counts start cut (row ∷ rows) =
    let early : not (leb cut (start row)) ≡ ltb (start row) cut = search rules in
    one_more (leb cut (start row)) _ _ (before_counts start cut rows) ∙ ap (λ b. cond b (1 + prefix_len (λ row. ltb (start row) cut) rows) 0) early

cond_within : (b : Bool) (m n : ℕ) → m ≤ n → cond b 0 (suc m) ≤ suc n
cond_within true m n h = omega arith
cond_within false m n h = omega arith

within : (cut : ℕ) (starts : List ℕ) → before cut starts ≤ length starts
within cut [] = omega arith
within cut (s ∷ ss) = cond_within (leb cut s) (before cut ss) (length ss) (within cut ss)

module _ {X : Type 0} (start : X → ℕ) (cut : ℕ) where
  -- where every row starts on or after the cut day, none is kept
  none_before : (rows : List X) → ((k : ℕ) → k < length (map start rows) → cut ≤ get_or (map start rows) k 0) → filter (λ row. ltb (start row) cut) rows ≡ []
  none_before [] late = refl
  none_before (x ∷ xs) late =
      cond-false (ltb (start x) cut) (x ∷ filter (λ row. ltb (start row) cut) xs) _ (le-ltb (start x) cut (late 0 (omega arith)))
      ∙ none_before xs (λ k h. late (suc k) (omega arith))

  -- where starts ascend, every row starts on or after the cut day if the first does
  later : (s : ℕ) (ss : List ℕ) → cut ≤ s → Ascending (s ∷ ss) → (k : ℕ) → k < length (s ∷ ss) → cut ≤ get_or (s ∷ ss) k 0
  later s ss late up zero h = late
  later s ss late up (suc k) h = omega (arith, up 0 (suc k) (omega arith) h)

  step : (x : X) (xs : List X) (b : Bool) → leb cut (start x) ≡ b → Ascending (map start (x ∷ xs)) → take (before cut (map start xs)) xs ≡ filter (λ row. ltb (start row) cut) xs → take (cond b 0 (suc (before cut (map start xs)))) (x ∷ xs) ≡ filter (λ row. ltb (start row) cut) (x ∷ xs)
  step x xs true e up rest =
      let late : cut ≤ start x = leb-true cut (start x) e in
      sym (none_before (x ∷ xs) (later (start x) (map start xs) late up))
  step x xs false e up rest =
      let early : start x < cut = leb-false cut (start x) e in
      ap (λ ys. x ∷ ys) rest
      ∙ sym (cond-true (ltb (start x) cut) (x ∷ filter (λ row. ltb (start row) cut) xs) _ (lt-ltb (start x) cut early))

  law : (rows : List X) → StartedBefore start cut rows (before cut (map start rows))
  law [] up = refl
  law (x ∷ xs) up = step x xs (leb cut (start x)) refl up (law xs (λ i j l h. up (suc i) (suc j) (omega arith) (omega arith)))

  pub before_law : (rows : List X) (count : ℕ) → count ≡ before cut (map start rows) → StartedBefore start cut rows count
  before_law rows count e = subst (StartedBefore start cut rows) (sym e) (law rows)

  pub before_within : (rows : List X) (count : ℕ) → count ≡ before cut (map start rows) → count ≤ length rows
  before_within rows count e = omega (arith, within cut (map start rows), length-map rows start)
