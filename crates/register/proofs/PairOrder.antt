-- The order of pairs is strict and total.
use Rattle.std.proofs.Common.{◌≡◌, Bool, true, false, ◌||◌, Decides, sym, refl, ap, ◌∙◌, subst, inl, inr, ⊎_elim, arith}
use Rattle.std.proofs.lemmas.Bool.{cases_order, or_cases, or_parts, or_left}
use Rattle.std.proofs.lemmas.Bool.Decides.{Decides-and, Decides-or, Decides-eqb, Decides-ltb, not_from_Decides}
use Rattle.register.specs.declared.pairs.Pair.{Pair}
use Rattle.register.specs.Folders.{Below, below, same}

pub below_decides : (p q : Pair) → Decides (below p q) (Below p q)
below_decides p q = Decides-or _ _ (Decides-ltb p.system q.system) (Decides-and _ _ (Decides-eqb p.system q.system) (Decides-ltb p.view q.view))

same_decides : (p q : Pair) → Decides (same p q) ((p.system ≡ q.system) × (p.view ≡ q.view))
same_decides p q = Decides-and _ _ (Decides-eqb p.system q.system) (Decides-eqb p.view q.view)

pub same_is : (p q : Pair) → same p q ≡ true → p ≡ q
same_is p q e = let h = (same_decides p q).0 e in λ i. record { system = h.0 i; view = h.1 i }

pub is_same : (p q : Pair) → p ≡ q → same p q ≡ true
is_same p q e = (same_decides p q).1 (λ i. (e i).system, λ i. (e i).view)

trans : (p q r : Pair) → Below p q → Below q r → Below p r
trans p q r (inl h) (inl k) = inl (omega arith)
trans p q r (inl h) (inr k) = inl (omega (arith, k.0))
trans p q r (inr h) (inl k) = inl (omega (arith, h.0))
trans p q r (inr h) (inr k) = inr (h.0 ∙ k.0, omega (arith, h.1, k.1))

irreflexive : (p : Pair) → Below p p → ⊥
irreflexive p (inl h) = omega arith
irreflexive p (inr h) = omega (arith, h.1)

pub below_trans : (p q r : Pair) → below p q ≡ true → below q r ≡ true → below p r ≡ true
below_trans p q r e f = (below_decides p r).1 (trans p q r ((below_decides p q).0 e) ((below_decides q r).0 f))

-- a test that cannot be true is false
pub refuted : (b : Bool) → (b ≡ true → ⊥) → b ≡ false
refuted true h = absurd (h refl)
refuted false h = refl

pub never_below : (p : Pair) → below p p ≡ true → ⊥
never_below p e = irreflexive p ((below_decides p p).0 e)

pub not_below_itself : (p : Pair) → below p p ≡ false
not_below_itself p = refuted (below p p) (never_below p)

-- a pair above another is not the same, and not below it
pub above_not_below : (p q : Pair) → below p q ≡ true → below q p ≡ false
above_not_below p q e = refuted (below q p) (λ f. never_below p (below_trans p q p e f))

pub below_not_same : (p q : Pair) → below p q ≡ true → same p q ≡ false
below_not_same p q e =
    refuted (same p q) (λ f. let h = (same_decides p q).0 f in ⊎_elim (λ l. omega (arith, h.0)) (λ l. omega (arith, h.1, l.1)) ((below_decides p q).0 e))

pub above_not_same : (p q : Pair) → below q p ≡ true → same p q ≡ false
above_not_same p q e =
    refuted (same p q) (λ f. let h = (same_decides p q).0 f in ⊎_elim (λ l. omega (arith, h.0)) (λ l. omega (arith, h.1, l.1)) ((below_decides q p).0 e))

-- of two pairs that are not the same, one is below the other
pub else_above : (p q : Pair) → same p q ≡ false → below p q ≡ false → below q p ≡ true
else_above p q e f =
    ⊎_elim
    (λ a. ⊎_elim (λ b. absurd (not_from_Decides _ (same_decides p q) e (a, b))) (⊎_elim (λ b. absurd (not_from_Decides _ (below_decides p q) f (inr (a, b)))) (λ b. (below_decides q p).1 (inr (sym a, b)))) (cases_order p.view q.view))
    (⊎_elim (λ a. absurd (not_from_Decides _ (below_decides p q) f (inl a))) (λ a. (below_decides q p).1 (inl a)))
    (cases_order p.system q.system)

-- a pair is not above another: what `<=` tests
abbrev pub upto : Pair → Pair → Bool
upto k p = below p k || same p k

pub upto_not_above : (k p : Pair) → upto k p ≡ true → below k p ≡ false
upto_not_above k p t =
    ⊎_elim (λ b. above_not_below p k b) (λ s. ap (below k) (same_is p k s) ∙ not_below_itself k) (or_cases (below p k) (same p k) t)

pub past_above : (k p : Pair) → upto k p ≡ false → below k p ≡ true
past_above k p n = let t = or_parts (below p k) (same p k) n in else_above p k t.1 t.0

pub upto_lower : (k p q : Pair) → below p q ≡ true → upto k q ≡ true → upto k p ≡ true
upto_lower k p q l t =
    or_left (below p k) (same p k)
    (⊎_elim (below_trans p q k l) (λ s. subst (λ (r : Pair). below p r ≡ true) (same_is q k s) l) (or_cases (below q k) (same q k) t))
