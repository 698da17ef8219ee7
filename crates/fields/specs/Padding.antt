-- Four places of which the first few are used, with blanks behind them.
use Rattle.std.specs.Prelude.{◌≡◌, ℕ, ◌+◌, ◌-◌, List, length, drop, replicate, slice_set}
use Rattle.std.proofs.Common.{sym, ap, ◌∙◌, arith, length-set}
use Rattle.std.proofs.lemmas.List.{drop-drop, drop-replicate, drop-set-lt}

-- the entries behind the first `count` are blank
abbrev pub Padded : {X : Type 0} → X → ℕ → List X → Type 0
Padded blank count xs = (length xs ≡ 4) × (drop count xs ≡ replicate (4 - count) blank)

-- they are so with one entry more
pub padded_more : {X : Type 0} (blank : X) (count : ℕ) (xs : List X) (x : X) → Padded blank count xs → Padded blank (count + 1) (slice_set xs count x)
padded_more blank count xs x p =
    let left : (4 - count) - 1 ≡ 4 - (count + 1) = omega arith in (
      simp length-set p.0,
      drop-set-lt (count + 1) xs count x (omega arith)
          ∙ sym (drop-drop 1 count xs)
          ∙ ap (drop 1) p.1
          ∙ drop-replicate 1 (4 - count) blank
          ∙ ap (λ n. replicate n blank) left,
    )
