-- Pairs in order, and one turn of a search among them by halving.
use Rattle.std.proofs.Common.{◌≡◌, ℕ, zero, suc, ◌+◌, ◌<◌, ◌≤◌, Bool, true, false, not, refl, List, [], ◌∷◌, map, length, get_or, take, drop, Some, None, sym, ap, ◌∙◌, subst, ⊎_elim, add-one, arith}
use Rattle.std.specs.List.{AllByRecursion}
use Rattle.std.specs.List.Sorted.{IsPartitionedBy, IsPartitionPoint}
use Rattle.std.proofs.ByRecursion.{All-get_or, All-from_get_or, All-weaker}
use Rattle.std.proofs.lemmas.List.{length-take-le, get_or-take, get_or_default, get_or-map, length-map, take_all, drop_all}
use Rattle.std.proofs.lemmas.Bool.{cases_Bool, cases_lt, both_ways, not-true, not-false, not_from_false}
use Rattle.register.specs.declared.pairs.Pair.{Pair}
use Rattle.register.specs.Folders.{Folder, below, next_pair, lowest}
use Rattle.register.specs.Walks.{pairs_of}
use Rattle.register.proofs.PairOrder.{below_trans}
use Rattle.register.proofs.Rising.{Under, Rising}
use Rattle.hashed.specs.Rising.{rising_gathered}
use Rattle.hashed.specs.Table.{folder_at, pair_at, held_in, Ordered}
use Rattle.hashed.proofs.Filings.{next_none, next_some}

-- each pair is below all that follow
abbrev Rises : List Pair → Type 0
Rises [] = Unit {0}
Rises (p ∷ ps) = AllByRecursion (λ q. below p q ≡ true) ps × Rises ps

under_pairs : (p : Pair) (fs : List Folder) → Under p fs → AllByRecursion (λ q. below p q ≡ true) (pairs_of fs)
under_pairs p [] u = tt
under_pairs p (f ∷ fs) u = (u.0, under_pairs p fs u.1)

up_rises : (fs : List Folder) → Rising fs → Rises (pairs_of fs)
up_rises [] up = tt
up_rises (f ∷ fs) up = (under_pairs f.pair fs up.0, up_rises fs up.1)

-- a pair that is not below one is not below a lower one
not_below : (k p q : Pair) → below p q ≡ true → below k q ≡ false → below k p ≡ false
not_below k p q h e = ⊎_elim (λ b. absurd (both_ways (below k q) e (below_trans k p q b h))) (λ b. b) (cases_Bool (below k p))

rise_up : (k : Pair) (ps : List Pair) (mid : ℕ) → Rises ps → mid < length ps → below k (get_or ps mid lowest) ≡ false → AllByRecursion (λ q. below k q ≡ false) (take (suc mid) ps)
rise_up k [] mid r l h = absurd (omega arith)
rise_up k (p ∷ ps) zero r l h = (h, tt)
rise_up k (p ∷ ps) (suc m) r l h =
    let a : below p (get_or ps m lowest) ≡ true = All-get_or (λ q. below p q ≡ true) ps m lowest (omega arith) r.0 in
    (not_below k p (get_or ps m lowest) a h, rise_up k ps m r.1 (omega arith) h)

rise_down : (k : Pair) (ps : List Pair) (mid : ℕ) → Rises ps → mid < length ps → below k (get_or ps mid lowest) ≡ true → AllByRecursion (λ q. below k q ≡ true) (drop mid ps)
rise_down k [] mid r l h = absurd (omega arith)
rise_down k (p ∷ ps) zero r l h = (h, All-weaker (λ q. below p q ≡ true) (λ q. below k q ≡ true) (λ q a. below_trans k p q h a) ps r.0)
rise_down k (p ∷ ps) (suc m) r l h = rise_down k ps m r.1 (omega arith) h

-- the pairs as the order has them
abbrev pub keys : List Folder → List ℕ → ℕ → List Pair
keys fs order count = map (pair_at fs) (take count order)

module _ (fs : List Folder) (order : List ℕ) (count : ℕ) (listed : count ≤ length order) (ordered : Ordered fs order count) where
  pub long : length (keys fs order count) ≡ count
  long = length-map (take count order) (pair_at fs) ∙ length-take-le count order listed

  rises : Rises (keys fs order count)
  rises = subst Rises (sym ordered.keyed) (up_rises (held_in fs count) (rising_gathered (folder_at fs) count))

  pub inside_all : AllByRecursion (λ b. b < count) (take count order)
  inside_all =
      All-from_get_or (λ b. b < count) (take count order) 0
      (λ i l. let h : i < count = omega (arith, length-take-le count order listed) in subst (λ (b : ℕ). b < count) (sym (get_or-take count order i 0 h)) (ordered.inside i h))

  key_of : (mid : ℕ) → mid < count → get_or (keys fs order count) mid lowest ≡ pair_at fs (get_or order mid 0)
  key_of mid l = get_or-map (pair_at fs) (take count order) mid 0 lowest (omega (arith, length-take-le count order listed)) ∙ ap (pair_at fs) (get_or-take count order mid 0 l)

  pub up : (k : Pair) (mid : ℕ) → mid < count → below k (pair_at fs (get_or order mid 0)) ≡ false → AllByRecursion (λ q. below k q ≡ false) (take (mid + 1) (keys fs order count))
  up k mid l h =
      subst (λ (n : ℕ). AllByRecursion (λ q. below k q ≡ false) (take n (keys fs order count))) (sym (add-one mid))
      (rise_up k (keys fs order count) mid rises (omega (arith, long)) (ap (below k) (key_of mid l) ∙ h))

  pub down : (k : Pair) (mid : ℕ) → mid < count → below k (pair_at fs (get_or order mid 0)) ≡ true → AllByRecursion (λ q. below k q ≡ true) (drop mid (keys fs order count))
  down k mid l h = rise_down k (keys fs order count) mid rises (omega (arith, long)) (ap (below k) (key_of mid l) ∙ h)

  -- the test by which the order is parted
  abbrev pub up_to : Pair → ℕ → Bool
  up_to k b = not (below k (pair_at fs b))

  within : (mid : ℕ) (d : ℕ) → mid < length (take count order) → (mid < count) × (get_or (take count order) mid d ≡ get_or order mid 0)
  within mid d l =
      let h : mid < count = omega (arith, length-take-le count order listed) in
      (h, get_or-take count order mid d h ∙ get_or_default order mid d 0 (omega (arith, listed)))

  pub parted : (k : Pair) → IsPartitionedBy (up_to k) (take count order)
  parted k i j d l h t =
      let v = within j d h in
      let w = within i d (omega arith) in
      let above : below k (pair_at fs (get_or order j 0)) ≡ false = ap (λ b. below k (pair_at fs b)) (sym v.1) ∙ not-true _ t in
      let a = up k j v.0 above in
      let e : get_or (take (j + 1) (keys fs order count)) i lowest ≡ pair_at fs (get_or order i 0) = get_or-take (j + 1) (keys fs order count) i lowest (omega arith) ∙ key_of i w.0 in
      let b : below k (get_or (take (j + 1) (keys fs order count)) i lowest) ≡ false = All-get_or (λ q. below k q ≡ false) (take (j + 1) (keys fs order count)) i lowest (omega (arith, length-take-le (j + 1) (keys fs order count) (omega (arith, long)))) a in
      not_from_false _ (ap (λ b. below k (pair_at fs b)) w.1 ∙ ap (below k) (sym e) ∙ b)

  module _ (k : Pair) (at : ℕ) (bound : at ≤ length (take count order)) (point : IsPartitionPoint (λ b. up_to k b ≡ true) (λ b. up_to k b ≡ false) (take count order) at) where
    front_to : (n : ℕ) → n ≡ at → AllByRecursion (λ q. below k q ≡ false) (take n (keys fs order count))
    front_to zero e = tt
    front_to (suc m) e =
        let w = within m 0 (omega arith) in
        let last : below k (pair_at fs (get_or order m 0)) ≡ false = ap (λ b. below k (pair_at fs b)) (sym w.1) ∙ not-true _ (point.0 m 0 (omega arith) (omega arith)) in
        subst (λ (n : ℕ). AllByRecursion (λ q. below k q ≡ false) (take n (keys fs order count))) (add-one m) (up k m w.0 last)

    pub front : AllByRecursion (λ q. below k q ≡ false) (take at (keys fs order count))
    front = front_to at refl

    pub behind : AllByRecursion (λ q. below k q ≡ true) (drop at (keys fs order count))
    behind =
        ⊎_elim
        (λ l.
        let w = within at 0 l in
        down k at w.0 (ap (λ b. below k (pair_at fs b)) (sym w.1) ∙ not-false _ (point.1 at 0 (omega arith) l)))
        (λ l. subst (AllByRecursion (λ q. below k q ≡ true)) (sym (drop_all at (keys fs order count) (omega (arith, long, length-take-le count order listed)))) tt)
        (cases_lt at (length (take count order)))

  pub past_all : (k : Pair) (at : ℕ) → count ≤ at → AllByRecursion (λ q. below k q ≡ false) (take at (keys fs order count)) → next_pair k (held_in fs count) ≡ None
  past_all k at l a =
      next_none k (held_in fs count) (subst (AllByRecursion (λ q. below k q ≡ false)) (take_all at (keys fs order count) (omega (arith, long)) ∙ ordered.keyed) a)

  pub next_at : (k : Pair) (at : ℕ) → at < count → AllByRecursion (λ q. below k q ≡ false) (take at (keys fs order count)) → AllByRecursion (λ q. below k q ≡ true) (drop at (keys fs order count)) → next_pair k (held_in fs count) ≡ Some (pair_at fs (get_or order at 0))
  next_at k at l a b =
      let e = ap (λ ps. get_or ps at lowest) ordered.keyed in
      let here : below k (get_or (keys fs order count) at lowest) ≡ true = first_of (keys fs order count) at (omega (arith, long)) b in
      next_some k (held_in fs count) at (omega (arith, long, ap length ordered.keyed)) (subst (λ (ps : List Pair). AllByRecursion (λ q. below k q ≡ false) (take at ps)) ordered.keyed a) (ap (below k) (sym e) ∙ here)
      ∙ ap Some (sym e ∙ key_of at l)
    where
      first_of : (ps : List Pair) (i : ℕ) → i < length ps → AllByRecursion (λ q. below k q ≡ true) (drop i ps) → below k (get_or ps i lowest) ≡ true
      first_of [] i l a = absurd (omega arith)
      first_of (p ∷ ps) zero l a = a.0
      first_of (p ∷ ps) (suc i) l a = first_of ps i (omega arith) a
