-- The sources behind a place of a list, at their places in it.
use Rattle.std.proofs.Common.{◌≡◌, ℕ, ◌+◌, ◌-◌, ◌<◌, List, length, get_or, take, drop, sym, ap, ◌∙◌, subst, arith}
use Rattle.std.proofs.lemmas.List.{get_or_default, get_or-drop, take_rest, length-drop}
use Rattle.sources.specs.declared.listed.Listed.{Listed}
use Rattle.sources.specs.declared.listed.Listed.TheVariants.{Collector}
use Rattle.sources.specs.Listings.{Clash}
use Rattle.sources.specs.Openings.{source_at, NoneBehind}

module _ (ss : List Listed) (i : ℕ) (d : Listed) (h : i < length ss) where
  abbrev rest : List Listed
  rest = take (length ss - (i + 1)) (drop (i + 1) ss)

  rest_length : length rest ≡ length ss - (i + 1)
  rest_length = ap length (take_rest ss (i + 1)) ∙ length-drop (i + 1) ss

  clash_at : (k : ℕ) → Clash (get_or ss i d) (source_at rest k) ≡ Clash (source_at ss i) (source_at ss (i + 1 + k))
  clash_at k =
      ap (λ s. Clash s (source_at rest k)) (get_or_default ss i d (Collector 0) h)
      ∙ ap (λ ts. Clash (source_at ss i) (source_at ts k)) (take_rest ss (i + 1))
      ∙ ap (Clash (source_at ss i)) (get_or-drop (i + 1) ss k (Collector 0))

  none_to : (n : ℕ) → ((k : ℕ) → k < n → Clash (get_or ss i d) (source_at rest k) → ⊥) → NoneBehind ss i (i + 1 + n)
  none_to n none j l m c =
      let at : i + 1 + (j - (i + 1)) ≡ j = omega arith in
      none (j - (i + 1)) (omega arith) (subst (λ (T : Type 0). T) (sym (clash_at (j - (i + 1)))) (subst (λ (b : ℕ). Clash (source_at ss i) (source_at ss b)) (sym at) c))

  pub none_behind : ((k : ℕ) → k < length rest → Clash (get_or ss i d) (source_at rest k) → ⊥) → NoneBehind ss i (length ss)
  none_behind none =
      let end : i + 1 + length rest ≡ length ss = omega (arith, rest_length) in
      subst (NoneBehind ss i) end (none_to (length rest) none)

  pub first_behind : (k : ℕ) → (k < length rest) × Clash (get_or ss i d) (source_at rest k) × ((j : ℕ) → j < k → Clash (get_or ss i d) (source_at rest j) → ⊥) → (i < i + 1 + k) × (i + 1 + k < length ss) × Clash (source_at ss i) (source_at ss (i + 1 + k)) × NoneBehind ss i (i + 1 + k)
  first_behind k f = (omega arith, omega (arith, rest_length), subst (λ (T : Type 0). T) (clash_at k) f.1, none_to k f.2)
