-- What the tests of the order say. These lemmas stand here because a register's own promise rests on them.
use Rattle.std.specs.Prelude.{◌≡◌, ℕ, ◌<◌, Bool, true, ◌&&◌, ◌||◌, ◌⊎◌, List, ◌∷◌, get_or, Some, None, Option, nat_lt, slice_index_or, refl}
use Rattle.std.proofs.Common.{sym, ap, ◌∙◌, inl, inr, ⊎_elim, arith}
use Rattle.std.proofs.lemmas.Bool.{lt-ltb, ltb-true, eq-eqb, eqb-true, and_parts, and_from, or_left, or_right, or_cases}
use Rattle.register.specs.declared.pairs.Pair.{Pair}
use Rattle.register.specs.Folders.{below, same, same_kind}
use Rattle.register.proofs.PairOrder.{never_below, same_is}
use Rattle.rows.specs.Kinds.{rank_of, kinds}
use Rattle.rows.specs.declared.kinds.Kind.{Kind}
use Rattle.rows.specs.declared.kinds.Kind.TheVariants.{Registration, Appointment, Collector, Profile, Measurement, Energisation, LineLoss, Group, Advance, Estimate}
use Rattle.rows.specs.declared.row.Row.{Row}
use Rattle.ordered.specs.declared.entries.Entry.{Entry}
use Rattle.ordered.specs.declared.entries.Key.{Key}
use Rattle.ordered.specs.Keys.{level_of, start_in, key_of, earlier, inner, lower}
use Rattle.ordered.specs.Entries.{is_folder, follows, in_order_from}

pub earlier_less : (m n : ℕ) (b : Bool) → m < n → earlier m n b ≡ true
earlier_less m n b h = or_left _ _ (lt-ltb m n h)

pub earlier_same : (m n : ℕ) (b : Bool) → m ≡ n → b ≡ true → earlier m n b ≡ true
earlier_same m n b e h = or_right _ _ (and_from _ _ (eq-eqb m n e) h)

pub earlier_read : (m n : ℕ) (b : Bool) → earlier m n b ≡ true → (m < n) ⊎ ((m ≡ n) × (b ≡ true))
earlier_read m n b h =
    ⊎_elim (λ l. inl (ltb-true m n l)) (λ r. let p = and_parts _ _ r in inr (eqb-true m n p.0, p.1)) (or_cases _ _ h)

pub earlier_onward : (a b c : ℕ) (t u w : Bool) → (t ≡ true → u ≡ true → w ≡ true) → earlier a b t ≡ true → earlier b c u ≡ true → earlier a c w ≡ true
earlier_onward a b c t u w on h k =
    ⊎_elim
    (λ l. ⊎_elim (λ m. earlier_less a c w (omega arith)) (λ m. earlier_less a c w (omega (arith, m.0))) (earlier_read b c u k))
    (λ l. ⊎_elim (λ m. earlier_less a c w (omega (arith, l.0))) (λ m. earlier_same a c w (l.0 ∙ m.0) (on l.1 m.1)) (earlier_read b c u k))
    (earlier_read a b t h)

ltb_onward : (a b c : ℕ) → nat_lt a b ≡ true → nat_lt b c ≡ true → nat_lt a c ≡ true
ltb_onward a b c h k = lt-ltb a c (omega (arith, ltb-true a b h, ltb-true b c k))

pub inner_onward : (a s b t c u : ℕ) → inner a s b t ≡ true → inner b t c u ≡ true → inner a s c u ≡ true
inner_onward a s b t c u = earlier_onward a b c _ _ _ (ltb_onward s t u)

-- one key before another: by the pair, or within it
pub lower_read : (k l : Key) → lower k l ≡ true → (below k.pair l.pair ≡ true) ⊎ ((k.pair ≡ l.pair) × (inner k.level k.start l.level l.start ≡ true))
lower_read k l h =
    ⊎_elim inl (λ r. let t = and_parts (same k.pair l.pair) (inner k.level k.start l.level l.start) r in inr (same_is k.pair l.pair t.0, t.1))
    (or_cases (below k.pair l.pair) (same k.pair l.pair && inner k.level k.start l.level l.start) h)

-- a kind is known by its rank
pub rank_back : (k : Kind) → slice_index_or kinds (rank_of k) Registration ≡ k
rank_back Registration = refl
rank_back Appointment = refl
rank_back Collector = refl
rank_back Profile = refl
rank_back Measurement = refl
rank_back Energisation = refl
rank_back LineLoss = refl
rank_back Group = refl
rank_back Advance = refl
rank_back Estimate = refl

pub same_kind_lem : (k l : Kind) → same_kind k l ≡ true → k ≡ l
same_kind_lem k l t = sym (rank_back k) ∙ ap (λ n. get_or kinds n Registration) (eqb-true (rank_of k) (rank_of l) t) ∙ rank_back l

-- an entry by its parts
abbrev pub entry : Pair → Option Row → Entry
entry pair o = record { pair = pair; row = o }

-- what stands behind an entry: a folder of a higher pair, or a row of the same pair, further within it
module _ (e x : Entry) (xs : List Entry) (h : in_order_from e (x ∷ xs) ≡ true) where
  head : follows e x ≡ true
  head = (and_parts (follows e x) (in_order_from x xs) h).0

  pub behind_rest : in_order_from x xs ≡ true
  behind_rest = (and_parts (follows e x) (in_order_from x xs) h).1

  pub behind_lower : lower (key_of e) (key_of x) ≡ true
  behind_lower = (and_parts (lower (key_of e) (key_of x)) (is_folder x.row || same x.pair e.pair) head).0

  pub behind_pair : (is_folder x.row || same x.pair e.pair) ≡ true
  behind_pair = (and_parts (lower (key_of e) (key_of x)) (is_folder x.row || same x.pair e.pair) head).1

pub folder_above : (e : Entry) (pair : Pair) → lower (key_of e) (key_of (entry pair None)) ≡ true → below e.pair pair ≡ true
folder_above e pair h =
    ⊎_elim (λ b. b)
    (λ r. ⊎_elim (λ l. absurd (omega arith)) (λ l. absurd (omega (arith, ltb-true (start_in e.row) 0 l.1))) (earlier_read (level_of e.row) 0 (nat_lt (start_in e.row) 0) r.1))
    (lower_read (key_of e) (key_of (entry pair None)) h)

pub behind_folder : (e : Entry) (pair : Pair) (xs : List Entry) → in_order_from e (entry pair None ∷ xs) ≡ true → below e.pair pair ≡ true
behind_folder e pair xs h = folder_above e pair (behind_lower e (entry pair None) xs h)

pub behind_row : (e : Entry) (pair : Pair) (r : Row) (xs : List Entry) → in_order_from e (entry pair (Some r) ∷ xs) ≡ true → pair ≡ e.pair
behind_row e pair r xs h = same_is pair e.pair (behind_pair e (entry pair (Some r)) xs h)

pub behind_inner : (e : Entry) (pair : Pair) (r : Row) (xs : List Entry) → in_order_from e (entry pair (Some r) ∷ xs) ≡ true → inner (level_of e.row) (start_in e.row) (level_of (Some r)) (start_in (Some r)) ≡ true
behind_inner e pair r xs h =
    ⊎_elim (λ b. absurd (never_below e.pair (ap (below e.pair) (sym (behind_row e pair r xs h)) ∙ b))) (λ t. t.1)
    (lower_read (key_of e) (key_of (entry pair (Some r))) (behind_lower e (entry pair (Some r)) xs h))
