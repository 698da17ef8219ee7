-- Folders that ascend by pair, each against all that follow it.
use Rattle.std.proofs.Common.{◌≡◌, zero, suc, true, false, cond, ◌||◌, List, [], ◌∷◌, get_or, sym, refl, ap, ◌∙◌, arith}
use Rattle.std.specs.List.{AllByRecursion}
use Rattle.std.proofs.ByRecursion.{All-weaker, All-get_or, All-from_get_or}
use Rattle.std.proofs.lemmas.Bool.{cond_both, both_ways}
use Rattle.register.specs.declared.pairs.Pair.{Pair}
use Rattle.register.specs.Folders.{Folder, below, same, no_rows, holds, made, PairsAscend}
use Rattle.register.proofs.PairOrder.{below_decides, below_trans, below_not_same}

-- a pair is below all of these folders
abbrev pub Under : Pair → List Folder → Type 0
Under p fs = AllByRecursion (λ f. below p f.pair ≡ true) fs

-- each folder's pair is below all that follow
abbrev pub Rising : List Folder → Type 0
Rising [] = Unit {0}
Rising (f ∷ fs) = Under f.pair fs × Rising fs

-- a lower pair is below them too
pub under_lower : (p q : Pair) (fs : List Folder) → below p q ≡ true → Under q fs → Under p fs
under_lower p q fs l = All-weaker (λ f. below q f.pair ≡ true) (λ f. below p f.pair ≡ true) (λ f u. below_trans p q f.pair l u) fs

pub rising_ascends : (fs : List Folder) → Rising fs → PairsAscend fs
rising_ascends [] r i j d l h = absurd (omega arith)
rising_ascends (f ∷ fs) r i zero d l h = absurd (omega arith)
rising_ascends (f ∷ fs) r zero (suc j) d l h =
    (below_decides f.pair (get_or fs j d).pair).0 (All-get_or (λ g. below f.pair g.pair ≡ true) fs j d (omega arith) r.0)
rising_ascends (f ∷ fs) r (suc i) (suc j) d l h = rising_ascends fs r.1 i j d (omega arith) (omega arith)

pub rising_from_ascend : (fs : List Folder) → PairsAscend fs → Rising fs
rising_from_ascend [] h = tt
rising_from_ascend (f ∷ fs) h = (
  All-from_get_or (λ g. below f.pair g.pair ≡ true) fs f (λ j l. (below_decides f.pair (get_or fs j f).pair).1 (h 0 (suc j) f (omega arith) (omega arith))),
  rising_from_ascend fs (λ i j d l m. h (suc i) (suc j) d (omega arith) (omega arith)),
)

-- a pair below all folders is not held
pub under_unheld : (p : Pair) (fs : List Folder) → Under p fs → holds p fs ≡ false
under_unheld p [] u = refl
under_unheld p (f ∷ fs) u = ap (λ b. b || holds p fs) (below_not_same p f.pair u.0) ∙ under_unheld p fs u.1

-- a folder that is held is made without a change
pub made_held : (p : Pair) (fs : List Folder) → Rising fs → holds p fs ≡ true → made p fs ≡ fs
made_held p [] r h = absurd (both_ways false refl h)
made_held p (f ∷ fs) r h =
    cond_both (same p f.pair) (f ∷ fs) (cond (below p f.pair) (record { pair = p; rows = no_rows } ∷ f ∷ fs) (f ∷ made p fs)) (λ l. l ≡ f ∷ fs)
    (λ _. refl)
    (λ n.
    let held : holds p fs ≡ true = sym (ap (λ b. b || holds p fs) n) ∙ h in
    cond_both (below p f.pair) (record { pair = p; rows = no_rows } ∷ f ∷ fs) (f ∷ made p fs) (λ l. l ≡ f ∷ fs)
    (λ b. absurd (both_ways (holds p fs) (under_unheld p fs (under_lower p f.pair fs b r.0)) held))
    (λ _. ap (λ l. f ∷ l) (made_held p fs r.1 held)))
