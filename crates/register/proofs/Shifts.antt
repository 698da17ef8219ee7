-- What a copy one place up makes room for.
use Rattle.std.proofs.Common.{◌≡◌, ℕ, ◌+◌, ◌-◌, ◌<◌, ◌≤◌, List, [], ◌∷◌, ◌++◌, length, get_or, take, drop, set, sym, ap, ◌∙◌, append_assoc, arith, length-drop}
use lib.Seq.{paste, take-set-lt}
use Rattle.std.specs.List.{insert}
use Rattle.std.proofs.lemmas.List.Edits.{take-paste}
use Rattle.std.proofs.lemmas.List.{take_more, take-take, length-take-le, set_at}
use Rattle.std.proofs.lemmas.Slice.{between_is}

module _ {X : Type 0} where
  pub put_front : (xs : List X) (used at : ℕ) (x : X) → used < length xs → at ≤ used → take (used + 1) (set (paste xs (at + 1) (drop at xs) (used - at)) at x) ≡ insert (take used xs) at x
  put_front xs used at x room place =
      let n = length-drop at xs in
      let whole : (at + 1) + (used - at) ≡ used + 1 = omega arith in
      let rest = take (used - at) (drop at xs) in
      let front : take (used + 1) (paste xs (at + 1) (drop at xs) (used - at)) ≡ take at xs ++ get_or xs at x ∷ rest =
      ap (λ m. take m (paste xs (at + 1) (drop at xs) (used - at))) (sym whole)
      ∙ take-paste xs (at + 1) (drop at xs) (used - at) (omega arith) (omega arith)
      ∙ ap (λ l. l ++ rest) (take_more xs at x (omega arith))
      ∙ append_assoc (take at xs) (get_or xs at x ∷ []) rest in
      take-set-lt (used + 1) (paste xs (at + 1) (drop at xs) (used - at)) at x (omega arith)
      ∙ ap (λ l. set l at x) front
      ∙ set_at (take at xs) (get_or xs at x) rest x at (length-take-le at xs (omega arith))
      ∙ ap (λ l. l ++ x ∷ rest) (sym (take-take at used xs place))
      ∙ ap (λ l. take at (take used xs) ++ x ∷ l) (between_is xs at used)
