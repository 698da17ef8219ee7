-- Rows of one kind, as rows of any kind: their starts stay, so they are cut and added alike.
use Rattle.std.proofs.Common.{◌≡◌, ℕ, suc, ◌-◌, Bool, true, false, cond, ◌&&◌, ltb, List, [], ◌∷◌, ◌++◌, map, length, get_or, take, Decides, sym, refl, ap, ◌∙◌, arith}
use Rattle.std.proofs.lemmas.List.{length-map, take-map, map_push}
use Rattle.std.proofs.lemmas.Bool.{ltb-true, lt-ltb}
use Rattle.std.proofs.lemmas.Bool.Decides.{same_from_decides, Decides-and, Decides-ltb}
use Rattle.register.specs.Folders.{kept_rows, starts_after}
use Rattle.rows.specs.Rows.{start_of_row}
use Rattle.rows.specs.declared.row.Row.{Row}
use Rattle.timeline.specs.Finding.{before, StartsAfter}
use Rattle.windows.specs.Windows.{Addable}

module _ {X : Type 0} (wrap : X → Row) (start : X → ℕ) (starts : (x : X) → start_of_row (wrap x) ≡ start x) where
  starts_same : (xs : List X) → map start_of_row (map wrap xs) ≡ map start xs
  starts_same [] = refl
  starts_same (x ∷ xs) = ap (λ s. s ∷ map start_of_row (map wrap xs)) (starts x) ∙ ap (λ ss. start x ∷ ss) (starts_same xs)

  pub kept_wrapped : (day : ℕ) (xs ys : List X) → ys ≡ take (before day (map start xs)) xs → map wrap ys ≡ kept_rows day (map wrap xs)
  kept_wrapped day xs ys e =
      ap (map wrap) e
      ∙ sym (take-map wrap (before day (map start xs)) xs)
      ∙ ap (λ ss. take (before day ss) (map wrap xs)) (sym (starts_same xs))

  after_decides : (xs : List X) (x : X) → Decides (starts_after (map wrap xs) (wrap x)) (StartsAfter start x (length xs) xs)
  after_decides [] x = (λ _ h. absurd (omega arith), λ _. refl)
  after_decides (q ∷ []) x = (λ e _. omega (arith, ltb-true _ _ e, starts q, starts x), λ h. lt-ltb _ _ (omega (arith, h (omega arith), starts q, starts x)))
  after_decides (q ∷ p ∷ xs) x =
      let d = after_decides (p ∷ xs) x in
      let back : length (q ∷ p ∷ xs) - 1 ≡ suc (length (p ∷ xs) - 1) = omega arith in
      let same : get_or (map start (q ∷ p ∷ xs)) (length (q ∷ p ∷ xs) - 1) 0 ≡ get_or (map start (p ∷ xs)) (length (p ∷ xs) - 1) 0 = ap (λ n. get_or (map start (q ∷ p ∷ xs)) n 0) back in
      (λ e _. omega (arith, same, d.0 e (omega arith)), λ h. d.1 (λ _. omega (arith, same, h (omega arith))))

  pub add_answer : (most : ℕ) (xs : List X) (x : X) (r : Bool) → Decides r (Addable start most x xs) → r ≡ (ltb (length (map wrap xs)) most && starts_after (map wrap xs) (wrap x))
  add_answer most xs x r d =
      same_from_decides r (ltb (length xs) most && starts_after (map wrap xs) (wrap x)) d (Decides-and _ _ (Decides-ltb (length xs) most) (after_decides xs x))
      ∙ ap (λ n. ltb n most && starts_after (map wrap xs) (wrap x)) (sym (length-map xs wrap))

  pub add_after : (xs ys : List X) (x : X) (r : Bool) → ys ≡ cond r (xs ++ x ∷ []) xs → map wrap ys ≡ cond r (map wrap xs ++ wrap x ∷ []) (map wrap xs)
  add_after xs ys x true e = ap (map wrap) e ∙ map_push wrap xs x
  add_after xs ys x false e = ap (map wrap) e
