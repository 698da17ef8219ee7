-- Folders that are filed ascend, whatever they are, and each is one of them.
use Rattle.std.specs.Prelude.{◌≡◌, ℕ, zero, suc, ◌≤◌, true, List, [], ◌∷◌, length}
use Rattle.std.proofs.Common.{sym, subst, arith}
use Rattle.std.specs.List.{AllByRecursion}
use Rattle.std.proofs.lemmas.Bool.{cond_both}
use Rattle.register.specs.declared.pairs.Pair.{Pair}
use Rattle.register.specs.Folders.{Folder, below, same}
use Rattle.register.proofs.PairOrder.{same_is, else_above}
use Rattle.register.proofs.Rising.{Under, Rising, under_lower}
use Rattle.hashed.specs.Filing.{filed, gathered}

-- what holds of a folder and of others holds of all of them, filed
all_filed : (P : Folder → Type 0) (f : Folder) (gs : List Folder) → P f → AllByRecursion P gs → AllByRecursion P (filed f gs)
all_filed P f [] h a = (h, tt)
all_filed P f (g ∷ gs) h a =
    cond_both (same f.pair g.pair) _ _ (AllByRecursion P) (λ e. (h, a.1))
    (λ e. cond_both (below f.pair g.pair) _ _ (AllByRecursion P) (λ l. (h, a)) (λ l. (a.0, all_filed P f gs h a.1)))

pub all_gathered : (P : Folder → Type 0) (f : ℕ → Folder) (n : ℕ) → ((i : ℕ) → P (f i)) → AllByRecursion P (gathered f n)
all_gathered P f zero h = tt
all_gathered P f (suc n) h = all_filed P (f n) (gathered f n) (h n) (all_gathered P f n h)

few_filed : (f : Folder) (gs : List Folder) → length (filed f gs) ≤ suc (length gs)
few_filed f [] = omega arith
few_filed f (g ∷ gs) =
    cond_both (same f.pair g.pair) _ _ (λ l. length l ≤ suc (suc (length gs))) (λ e. omega arith)
    (λ e. cond_both (below f.pair g.pair) _ _ (λ l. length l ≤ suc (suc (length gs))) (λ l. omega arith) (λ l. omega (arith, few_filed f gs)))

pub few_gathered : (f : ℕ → Folder) (n : ℕ) → length (gathered f n) ≤ n
few_gathered f zero = omega arith
few_gathered f (suc n) = omega (arith, few_filed (f n) (gathered f n), few_gathered f n)

rising_filed : (f : Folder) (gs : List Folder) → Rising gs → Rising (filed f gs)
rising_filed f [] up = (tt, tt)
rising_filed f (g ∷ gs) up =
    cond_both (same f.pair g.pair) _ _ Rising
    (λ e. (subst (λ (p : Pair). Under p gs) (sym (same_is f.pair g.pair e)) up.0, up.1))
    (λ e.
    cond_both (below f.pair g.pair) _ _ Rising
    (λ l. ((l, under_lower f.pair g.pair gs l up.0), up))
    (λ l. (all_filed (λ h. below g.pair h.pair ≡ true) f gs (else_above f.pair g.pair e l) up.0, rising_filed f gs up.1)))

pub rising_gathered : (f : ℕ → Folder) (n : ℕ) → Rising (gathered f n)
rising_gathered f zero = tt
rising_gathered f (suc n) = rising_filed (f n) (gathered f n) (rising_gathered f n)
