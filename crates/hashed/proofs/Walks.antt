-- The chains of blocks, and what a walk along one finds.
use Rattle.std.proofs.Common.{◌≡◌, ℕ, zero, suc, ◌<◌, ◌≤◌, true, false, eqb, List, length, get_or, Some, None, Option, IfSome, sym, refl, ap, ◌∙◌, subst, arith}
use Rattle.std.proofs.lemmas.Bool.{eqb-true, eqb-false, cond-true, cond-false, cond_both}
use Rattle.register.specs.declared.pairs.Pair.{Pair}
use Rattle.register.specs.Folders.{Folder, same}
use Rattle.register.proofs.PairOrder.{same_is, refuted}
use Rattle.hashed.specs.Table.{pair_at, home_of, last, seek, Linked}

-- how many blocks there are up to a place and with it
abbrev pub up_to : Option ℕ → ℕ
up_to None = 0
up_to (Some b) = suc b

module _ (f : ℕ → Pair) (size : ℕ) where
  last_le : (h n : ℕ) → up_to (last f size h n) ≤ n
  last_le h zero = omega arith
  last_le h (suc n) = cond_both (eqb (home_of (f n) size) h) _ _ (λ x. up_to x ≤ suc n) (λ e. omega arith) (λ e. omega (arith, last_le h n))

  -- what a chain comes to belongs to it
  last_own : (h n : ℕ) → IfSome (last f size h n) (λ b. home_of (f b) size ≡ h)
  last_own h zero = tt
  last_own h (suc n) =
      cond_both (eqb (home_of (f n) size) h) (Some n) (last f size h n) (λ x. IfSome x (λ b. home_of (f b) size ≡ h))
      (λ e. eqb-true _ _ e)
      (λ e. last_own h n)

  -- a pair is not sought where a block belongs to another chain
  other_chain : (k : Pair) (n : ℕ) → eqb (home_of (f n) size) (home_of k size) ≡ false → same k (f n) ≡ false
  other_chain k n e = refuted (same k (f n)) (λ s. eqb-false _ _ e (ap (λ p. home_of p size) (sym (same_is k (f n) s))))

  -- the walk may go on at the chain's last: what lies above is of other chains
  seek_last : (k : Pair) (n : ℕ) → seek f k (up_to (last f size (home_of k size) n)) ≡ seek f k n
  seek_last k zero = refl
  seek_last k (suc n) =
      cond_both (eqb (home_of (f n) size) (home_of k size)) (Some n) (last f size (home_of k size) n) (λ x. seek f k (up_to x) ≡ seek f k (suc n)) (λ e. refl)
      (λ e. seek_last k n ∙ sym (cond-false _ _ _ (other_chain k n e)))

pub seek_here : (f : ℕ → Pair) (k : Pair) (b : ℕ) → same k (f b) ≡ true → seek f k (suc b) ≡ Some b
seek_here f k b e = cond-true _ _ _ e

-- where a walk for a pair stands: on its chain, with all that it looks for still before it
pub record Walk (f : ℕ → Pair) (size : ℕ) (k : Pair) (count : ℕ) (at : Option ℕ) : Type 0 where
  pub within : up_to at ≤ count
  pub own : IfSome at (λ b. home_of (f b) size ≡ home_of k size)
  pub rest : seek f k (up_to at) ≡ seek f k count

module _ (heads : List (Option ℕ)) (fs : List Folder) (links : List (Option ℕ)) (count : ℕ) (k : Pair) (linked : Linked heads fs links count) where
  walk_from : (n : ℕ) (at : Option ℕ) → n ≤ count → at ≡ last (pair_at fs) (length heads) (home_of k (length heads)) n → seek (pair_at fs) k n ≡ seek (pair_at fs) k count → Walk (pair_at fs) (length heads) k count at
  walk_from n at l e s =
      subst (Walk (pair_at fs) (length heads) k count) (sym e)
      (record {
        within = omega (arith, last_le (pair_at fs) (length heads) (home_of k (length heads)) n);
        own = last_own (pair_at fs) (length heads) (home_of k (length heads)) n;
        rest = seek_last (pair_at fs) (length heads) k n ∙ s;
      })

  pub walk_start : (h : ℕ) → h ≡ home_of k (length heads) → h < length heads → Walk (pair_at fs) (length heads) k count (get_or heads h None)
  walk_start h e l = walk_from count (get_or heads h None) (omega arith) (linked.heading h l ∙ ap (λ x. last (pair_at fs) (length heads) x count) e) refl

  pub walk_on : (b : ℕ) → Walk (pair_at fs) (length heads) k count (Some b) → same k (pair_at fs b) ≡ false → Walk (pair_at fs) (length heads) k count (get_or links b None)
  walk_on b w e =
      let l : b < count = omega (arith, w.within) in
      walk_from b _ (omega arith) (linked.linking b l ∙ ap (λ x. last (pair_at fs) (length heads) x b) w.own)
      (sym (cond-false _ _ _ e) ∙ w.rest)

  pub walk_falls : (b : ℕ) → b < count → up_to (get_or links b None) < suc b
  walk_falls b l = omega (arith, ap up_to (linked.linking b l), last_le (pair_at fs) (length heads) (home_of (pair_at fs b) (length heads)) b)
