-- The rows of a window are the first of its places.
use Rattle.std.proofs.Common.{◌≡◌, ℕ, ◌+◌, ◌-◌, ◌<◌, ◌≤◌, List, [], ◌∷◌, ◌++◌, map, length, get_or, take, set, sym, ap, ◌∙◌, subst, arith}
use Rattle.std.proofs.lemmas.List.{length-take-le, take-map, take_more_set, get_or-take}
use Rattle.fields.specs.Ascent.{Ascending}
use Rattle.timeline.specs.Finding.{StartsAfter, Follows}
use Rattle.windows.specs.Windows.{Addable}
use Rattle.windows.proofs.Ascents.{row_added}

module _ {X : Type 0} (start : X → ℕ) (row : X) (count most : ℕ) (places : List X) (long : length places ≡ most) (within : count ≤ most) where
  counted : length (take count places) ≡ count
  counted = length-take-le count places (omega arith)

  -- the row before is the same
  same_before : 0 < count → get_or (map start (take count places)) (count - 1) 0 ≡ get_or (map start places) (count - 1) 0
  same_before some = ap (λ ss. get_or ss (count - 1) 0) (sym (take-map start count places)) ∙ get_or-take count (map start places) (count - 1) 0 (omega arith)

  pub addable : Follows start row count places → Addable start most row (take count places)
  addable f = subst (λ n. (n < most) × StartsAfter start row n (take count places)) (sym counted) (omega (arith, f.0), λ some. omega (arith, f.1 some, same_before some))

  pub follows_from : Addable start most row (take count places) → Follows start row count places
  follows_from a =
      let b : (count < most) × StartsAfter start row count (take count places) = subst (λ n. (n < most) × StartsAfter start row n (take count places)) counted a in
      (omega arith, λ some. omega (arith, b.1 some, same_before some))

  pub added : Follows start row count places → take (count + 1) (set places count row) ≡ take count places ++ row ∷ []
  added f = take_more_set places count row f.0

  pub added_ascends : Follows start row count places → Ascending (map start (take count places)) → Ascending (map start (take (count + 1) (set places count row)))
  added_ascends f up = subst (λ rows. Ascending (map start rows)) (sym (added f)) (row_added start (take count places) up row (addable f).1)
