-- Walks over spans that stop at the first of which something holds.
use Rattle.std.proofs.Common.{◌≡◌, ℕ, ◌+◌, ◌-◌, ◌<◌, ◌≤◌, min, max, Bool, true, false, List, [], ◌∷◌, map, length, get_or, take, drop, Decides, sym, refl, ap, ◌∙◌, subst, arith, below_more}
use Rattle.std.proofs.lemmas.List.{get_or-map, length-map, length-drop, get_or-drop}
use Rattle.std.proofs.lemmas.Bool.{false≢true}
use Rattle.std.specs.Bool.{MatchBool}
use Rattle.std.specs.List.{HoldsAt, AllWithin}
use Rattle.timeline.specs.Finding.{Term}
use Rattle.timeline.specs.Spans.{Meet, Somewhere, Overlap}
use Rattle.timeline.proofs.Walks.{mapped_here, mapped_rest}

-- spans that both start by the earlier of their last days meet on the later of their starts
pub meet_on : (s t : Term) → s.0 ≤ min s.1 t.1 → t.0 ≤ min s.1 t.1 → Meet s t
meet_on s t p q = (max s.0 t.0, (omega arith, omega arith), (omega arith, omega arith))

pub meet_by : (s t : Term) → Meet s t → (s.0 ≤ min s.1 t.1) × (t.0 ≤ min s.1 t.1)
meet_by s t (day, p, q) = (omega arith, omega arith)

meet_at : (s s' t t' : Term) → s ≡ s' → t ≡ t' → Meet s t → Meet s' t'
meet_at s s' t t' p q m = subst (Meet s') q (subst (λ u. Meet u t) p m)

module _ {X : Type 0} (f : X → Term) (P : Term → Type 0) where
  at_span : (xs : List X) (x : X) (k : ℕ) → k < length xs → P (f (get_or xs k x)) → P (get_or (map f xs) k (0, 0))
  at_span xs x k h = subst P (sym (get_or-map f xs k x (0, 0) h))

  at_row : (xs : List X) (x : X) (k : ℕ) → k < length xs → P (get_or (map f xs) k (0, 0)) → P (f (get_or xs k x))
  at_row xs x k h = subst P (get_or-map f xs k x (0, 0) h)

  -- what `any` answers, where each call decides P of the span of its row
  pub somewhere : (xs : List X) (r : Bool) → MatchBool r ((k : ℕ) × (k < length xs) × HoldsAt (λ x. P (f x)) xs k) (AllWithin (λ x. P (f x) → ⊥) xs 0 (length xs)) → Decides r (Somewhere P (map f xs))
  somewhere [] true h = absurd (omega (arith, h.1))
  somewhere [] false h = (λ e. absurd (false≢true e), λ s. absurd (omega (arith, s.1)))
  somewhere (x ∷ xs) true h = (λ _. (h.0, omega (arith, h.1, length-map (x ∷ xs) f), at_span (x ∷ xs) x h.0 h.1 (h.2 x)), λ _. refl)
  somewhere (x ∷ xs) false h = (
    λ e. absurd (false≢true e),
    λ s.
        let l : s.0 < length (x ∷ xs) = omega (arith, s.1, length-map (x ∷ xs) f) in
        absurd (h s.0 x (omega arith) l (at_row (x ∷ xs) x s.0 l s.2)),
  )

module _ {X : Type 0} (f : X → Term) (xs : List X) (i : ℕ) where
  -- no span that was passed meets a later one
  abbrev pub Apart : Type 0
  Apart = (k : ℕ) → k < i → (j : ℕ) → k < j → j < length (map f xs) → Meet (get_or (map f xs) k (0, 0)) (get_or (map f xs) j (0, 0)) → ⊥

  pub apart_all : length xs ≤ i → Apart → Decides false (Overlap (map f xs))
  apart_all h apart = (λ e. absurd (false≢true e), λ r. absurd (apart r.0 (omega (arith, r.2, r.3, length-map xs f)) r.1 r.2 r.3 r.4))

  module _ (x : X) (h : i < length xs) (e : x ≡ get_or xs i x) where
    abbrev Later : Type 0
    Later = Somewhere (Meet (f x)) (map f (take (length xs - (i + 1)) (drop (i + 1) xs)))

    -- a later span is one of those behind the place
    to_later : (j : ℕ) → i < j → j < length (map f xs) → Meet (get_or (map f xs) i (0, 0)) (get_or (map f xs) j (0, 0)) → Later
    to_later j l within m =
        let here = mapped_here f xs i x (0, 0) h e in
        let at : get_or (map f xs) j (0, 0) ≡ get_or (drop (i + 1) (map f xs)) (j - (i + 1)) (0, 0) =
        ap (λ n. get_or (map f xs) n (0, 0)) (omega arith) ∙ sym (get_or-drop (i + 1) (map f xs) (j - (i + 1)) (0, 0)) in
        subst (Somewhere (Meet (f x))) (sym (mapped_rest f xs (i + 1)))
        (j - (i + 1), omega (arith, length-drop (i + 1) (map f xs)), meet_at _ _ _ _ here at m)

    from_later : Later → Overlap (map f xs)
    from_later r =
        let here = mapped_here f xs i x (0, 0) h e in
        let s : Somewhere (Meet (f x)) (drop (i + 1) (map f xs)) = subst (Somewhere (Meet (f x))) (mapped_rest f xs (i + 1)) r in
        (i, (i + 1) + s.0, omega arith, omega (arith, s.1, length-drop (i + 1) (map f xs)), meet_at _ _ _ _ (sym here) (get_or-drop (i + 1) (map f xs) s.0 (0, 0)) s.2)

    pub apart_more : Apart → Decides false Later → (k : ℕ) → k < i + 1 → (j : ℕ) → k < j → j < length (map f xs) → Meet (get_or (map f xs) k (0, 0)) (get_or (map f xs) j (0, 0)) → ⊥
    apart_more apart d = below_more _ i apart (λ j l within m. false≢true (d.1 (to_later j l within m)))

    pub overlap_here : Decides true Later → Decides true (Overlap (map f xs))
    overlap_here d = (λ _. from_later (d.0 refl), λ _. refl)
