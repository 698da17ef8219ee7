-- The next pair is the first of those that are to come.
use Rattle.std.proofs.Common.{◌≡◌, ℕ, ◌<◌, true, false, cond, List, [], ◌∷◌, length, get_or, Some, None, Option, sym, refl, ap, ◌∙◌, subst, inl, arith}
use Rattle.std.specs.Iterator.{Drains}
use Rattle.std.proofs.ByRecursion.{all_from_every}
use Rattle.std.proofs.lemmas.List.{length-map}
use Rattle.std.proofs.lemmas.Bool.{cond-true, cond-false}
use Rattle.register.specs.declared.pairs.Pair.{Pair}
use Rattle.register.specs.Folders.{Folder, lowest, below, next_pair, Systems}
use Rattle.register.specs.Walks.{above, pairs_of, taken}
use Rattle.register.proofs.PairOrder.{below_decides, above_not_below, not_below_itself}
use Rattle.register.proofs.Rising.{Under, Rising, under_lower}

pub above_all : (p : Pair) (fs : List Folder) → Under p fs → above p fs ≡ fs
above_all p [] u = refl
above_all p (f ∷ fs) u = cond-true (below p f.pair) _ _ u.0 ∙ ap (λ gs. f ∷ gs) (above_all p fs u.1)

-- a pair that is told as the next is one of the list's
next_under : (p q r : Pair) (fs : List Folder) → Under r fs → next_pair p fs ≡ Some q → below r q ≡ true
next_under p q r [] u e = let z : ◌≡◌ {A = ℕ} 0 1 = cc in absurd (omega arith)
next_under p q r (f ∷ fs) u e =
    elim (below p f.pair) as (λ b. cond b (Some f.pair) (next_pair p fs) ≡ Some q → below r q ≡ true) [
      | true ↦ λ g. let s : f.pair ≡ q = cc in subst (λ (x : Pair). below r x ≡ true) s u.0
      | false ↦ λ g. next_under p q r fs u.1 g
    ] e

pub next_none : (p : Pair) (fs : List Folder) → next_pair p fs ≡ None → above p fs ≡ []
next_none p [] e = refl
next_none p (f ∷ fs) e =
    elim (below p f.pair) as (λ b. cond b (Some f.pair) (next_pair p fs) ≡ None → cond b (f ∷ above p fs) (above p fs) ≡ []) [
      | true ↦ λ g. let z : ◌≡◌ {A = ℕ} 0 1 = cc in absurd (omega arith)
      | false ↦ λ g. next_none p fs g
    ] e

-- above the next pair are the same but for its own
pub next_some : (p q : Pair) (fs : List Folder) → Rising fs → next_pair p fs ≡ Some q → pairs_of (above p fs) ≡ q ∷ pairs_of (above q fs)
next_some p q [] r e = let z : ◌≡◌ {A = ℕ} 0 1 = cc in absurd (omega arith)
next_some p q (f ∷ fs) r e =
    elim (below p f.pair) as (λ b. below p f.pair ≡ b → cond b (Some f.pair) (next_pair p fs) ≡ Some q → pairs_of (cond b (f ∷ above p fs) (above p fs)) ≡ q ∷ pairs_of (above q (f ∷ fs))) [
      | true ↦ λ t g.
          let s : f.pair ≡ q = cc in
          let mine : above p fs ≡ fs = above_all p fs (under_lower p f.pair fs t r.0) in
          let rest : above f.pair (f ∷ fs) ≡ fs = cond-false _ _ _ (not_below_itself f.pair) ∙ above_all f.pair fs r.0 in
          ap (λ gs. f.pair ∷ pairs_of gs) (mine ∙ sym rest) ∙ ap (λ x. x ∷ pairs_of (above x (f ∷ fs))) s
      | false ↦ λ t g.
          let past : below q f.pair ≡ false = above_not_below f.pair q (next_under p q f.pair fs r.0 g) in
          next_some p q fs r.1 g ∙ ap (λ gs. q ∷ pairs_of gs) (sym (cond-false (below q f.pair) _ _ past))
    ] refl e

pub fewer : (p q : Pair) (fs : List Folder) → pairs_of (above p fs) ≡ q ∷ pairs_of (above q fs) → length (above q fs) < length (above p fs)
fewer p q fs e = omega (arith, ap length e, length-map (above p fs) (λ f. f.pair), length-map (above q fs) (λ f. f.pair))

-- a walk begins below every metering system
pub above_start : (fs : List Folder) → Systems fs → above lowest fs ≡ fs
above_start fs h =
    above_all lowest fs
    (all_from_every (λ f. below lowest f.pair ≡ true) fs (λ i d _ l. (below_decides lowest (get_or fs i d).pair).1 (inl (h i d l).0)))

-- an iterator that takes from what it shows gives all of that
pub drained : {S A : Type 0} (steps : S → Option A → S → Type 0) (shown : S → List A) → ((s : S) (r : Option A) (t : S) → steps s r t → shown s ≡ taken r (shown t)) → (s : S) (xs : List A) → Drains steps s xs → xs ≡ shown s
drained steps shown on s [] d = sym (ap shown d.1.1 ∙ on d.1.0 None d.0 d.1.2)
drained steps shown on s (x ∷ xs) d =
    let (next, step, rest) = d.1.1 in
    ap (λ ys. x ∷ ys) (drained steps shown on next xs (d.0, (d.1.0, rest, d.1.2))) ∙ sym (on s (Some x) next step)
