-- What a copy within a list leaves of its front.
use Rattle.std.proofs.Common.{◌≡◌, ℕ, ◌+◌, ◌-◌, ◌≤◌, List, ◌++◌, length, take, drop, sym, ap, ◌∙◌, arith, length-drop}
use lib.Seq.{paste}
use Rattle.std.proofs.lemmas.List.Edits.{take-paste}
use Rattle.std.proofs.lemmas.List.{take-take, take-append-drop}
use Rattle.std.proofs.lemmas.Slice.{between_is}

module _ {X : Type 0} where
  pub out_front : (xs : List X) (used start end : ℕ) → used ≤ length xs → start ≤ end → end ≤ used → take (used - (end - start)) (paste xs start (drop end xs) (used - end)) ≡ take start (take used xs) ++ drop end (take used xs)
  out_front xs used start end within ends place =
      let n = length-drop end xs in
      let whole : start + (used - end) ≡ used - (end - start) = omega arith in
      ap (λ m. take m (paste xs start (drop end xs) (used - end))) (sym whole)
      ∙ take-paste xs start (drop end xs) (used - end) (omega arith) (omega arith)
      ∙ ap (λ l. l ++ take (used - end) (drop end xs)) (sym (take-take start used xs (omega arith)))
      ∙ ap (λ l. take start (take used xs) ++ l) (between_is xs end used)

  pub none_out : (xs : List X) (used start end : ℕ) → start ≤ end → end ≤ start → take (used - (end - start)) xs ≡ take start (take used xs) ++ drop end (take used xs)
  none_out xs used start end l m =
      let all : used - (end - start) ≡ used = omega arith in
      let same : start ≡ end = omega arith in
      ap (λ n. take n xs) all
      ∙ sym (take-append-drop start (take used xs))
      ∙ ap (λ n. take start (take used xs) ++ drop n (take used xs)) same
