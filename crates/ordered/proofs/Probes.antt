-- What it says of an entry to stand before a key, or not.
use Rattle.std.proofs.Common.{◌≡◌, ℕ, suc, ◌<◌, ◌≤◌, Bool, true, false, ◌&&◌, ltb, ◌⊎◌, Some, None, Option, sym, refl, ap, ◌∙◌, subst, inl, inr, ⊎_elim, arith}
use Rattle.std.proofs.lemmas.Bool.{cases_Bool, cases_lt, both_ways, and_parts, and_from, or_left, or_right, lt-ltb, ltb-true, eq-eqb, eqb-true}
use Rattle.register.specs.declared.pairs.Pair.{Pair}
use Rattle.register.specs.Folders.{below, same, same_kind}
use Rattle.register.proofs.PairOrder.{else_above, upto, upto_lower, never_below, below_trans, same_is, is_same}
use Rattle.rows.specs.Kinds.{rank_of}
use Rattle.rows.specs.Rows.{kind_of_row}
use Rattle.rows.specs.declared.kinds.Kind.{Kind}
use Rattle.rows.specs.declared.kinds.Kind.TheVariants.{Registration, Appointment, Collector, Profile, Measurement, Energisation, LineLoss, Group, Advance, Estimate}
use Rattle.rows.specs.declared.row.Row.{Row}
use Rattle.ordered.specs.declared.entries.Entry.{Entry}
use Rattle.ordered.specs.declared.entries.Key.{Key}
use Rattle.ordered.specs.Keys.{level_of, start_in, key_of, inner, lower, key_at, Before, NotBefore}
use Rattle.ordered.specs.Order.{inner_onward, earlier_read, earlier_less, earlier_same, lower_read}

cases_pair : (p q : Pair) → (p ≡ q) ⊎ ((below p q ≡ true) ⊎ (below q p ≡ true))
cases_pair p q =
    ⊎_elim (λ t. inl (same_is p q t)) (λ n. inr (⊎_elim inl (λ m. inr (else_above p q n m)) (cases_Bool (below p q)))) (cases_Bool (same p q))

pub lower_below : (k l : Key) → below k.pair l.pair ≡ true → lower k l ≡ true
lower_below k l h = or_left (below k.pair l.pair) (same k.pair l.pair && inner k.level k.start l.level l.start) h

pub lower_inner : (k l : Key) → k.pair ≡ l.pair → inner k.level k.start l.level l.start ≡ true → lower k l ≡ true
lower_inner k l e h =
    or_right (below k.pair l.pair) (same k.pair l.pair && inner k.level k.start l.level l.start)
    (and_from (same k.pair l.pair) (inner k.level k.start l.level l.start) (is_same k.pair l.pair e) h)

pub lower_onward : (k l m : Key) → lower k l ≡ true → lower l m ≡ true → lower k m ≡ true
lower_onward k l m h g =
    ⊎_elim
    (λ a.
    lower_below k m
    (⊎_elim (below_trans k.pair l.pair m.pair a) (λ b. subst (λ (p : Pair). below k.pair p ≡ true) b.0 a) (lower_read l m g)))
    (λ a.
    ⊎_elim (λ b. lower_below k m (subst (λ (p : Pair). below p m.pair ≡ true) (sym a.0) b))
    (λ b. lower_inner k m (a.0 ∙ b.0) (inner_onward k.level k.start l.level l.start m.level m.start a.1 b.1))
    (lower_read l m g))
    (lower_read k l h)

-- an entry is a row of a pair and a kind
abbrev pub of_kind : Kind → Option Row → Bool
of_kind k None = false
of_kind k (Some r) = same_kind k (kind_of_row r)

abbrev pub in_part : Pair → Kind → Entry → Bool
in_part p k e = same p e.pair && of_kind k e.row

pub rank_most : (k : Kind) → rank_of k ≤ 9
rank_most Registration = omega arith
rank_most Appointment = omega arith
rank_most Collector = omega arith
rank_most Profile = omega arith
rank_most Measurement = omega arith
rank_most Energisation = omega arith
rank_most LineLoss = omega arith
rank_most Group = omega arith
rank_most Advance = omega arith
rank_most Estimate = omega arith

level_of_lem : (k : Kind) (o : Option Row) → of_kind k o ≡ true → level_of o ≡ suc (rank_of k)
level_of_lem k None h = absurd (both_ways false refl h)
level_of_lem k (Some r) h = ap suc (sym (eqb-true (rank_of k) (rank_of (kind_of_row r)) h))

of_level : (k : Kind) (o : Option Row) → level_of o ≡ suc (rank_of k) → of_kind k o ≡ true
of_level k None e = absurd (omega arith)
of_level k (Some r) e = eq-eqb (rank_of k) (rank_of (kind_of_row r)) (omega arith)

-- within a pair
module _ (level start level' start' : ℕ) where
  inner_true : inner level start level' start' ≡ true → (level < level') ⊎ ((level ≡ level') × (start < start'))
  inner_true h = ⊎_elim inl (λ r. inr (r.0, ltb-true start start' r.1)) (earlier_read level level' (ltb start start') h)

  inner_less : level < level' → inner level start level' start' ≡ true
  inner_less h = earlier_less level level' (ltb start start') h

  inner_same : level ≡ level' → start < start' → inner level start level' start' ≡ true
  inner_same e h = earlier_same level level' (ltb start start') e (lt-ltb start start' h)

module _ (p : Pair) (level start : ℕ) (e : Entry) where
  -- before the key: of a lower pair, or of the pair and within it before
  pub stands_before : Before (key_at p level start) e → (below e.pair p ≡ true) ⊎ ((e.pair ≡ p) × ((level_of e.row < level) ⊎ ((level_of e.row ≡ level) × (start_in e.row < start))))
  stands_before h = ⊎_elim inl (λ r. inr (r.0, inner_true (level_of e.row) (start_in e.row) level start r.1)) (lower_read (key_of e) (key_at p level start) h)

  -- not before it: of a higher pair, or of the pair and within it not before
  pub stands_behind : NotBefore (key_at p level start) e → (below p e.pair ≡ true) ⊎ ((e.pair ≡ p) × (level ≤ level_of e.row) × (level_of e.row ≡ level → start ≤ start_in e.row))
  stands_behind h =
      ⊎_elim
      (λ q.
      let inside : inner (level_of e.row) (start_in e.row) level start ≡ true → ⊥ = λ t. both_ways (lower (key_of e) (key_at p level start)) h (lower_inner (key_of e) (key_at p level start) q t) in
      inr (
        q,
        ⊎_elim (λ l. absurd (inside (inner_less (level_of e.row) (start_in e.row) level start l))) (λ l. l) (cases_lt (level_of e.row) level),
        (λ d. ⊎_elim (λ l. absurd (inside (inner_same (level_of e.row) (start_in e.row) level start d l))) (λ l. l) (cases_lt (start_in e.row) start)),
      ))
      (⊎_elim (λ b. absurd (both_ways (lower (key_of e) (key_at p level start)) h (lower_below (key_of e) (key_at p level start) b))) inl)
      (cases_pair e.pair p)

-- the part of a kind among entries: from the key of its level on, before the key of the next
module _ (p : Pair) (k : Kind) (e : Entry) where
  pub in_part_lem : in_part p k e ≡ true → (e.pair ≡ p) × (level_of e.row ≡ suc (rank_of k))
  in_part_lem h = let t = and_parts (same p e.pair) (of_kind k e.row) h in (sym (same_is p e.pair t.0), level_of_lem k e.row t.1)

  apart : (e.pair ≡ p → level_of e.row ≡ suc (rank_of k) → ⊥) → in_part p k e ≡ false
  apart n = ⊎_elim (λ t. let h = in_part_lem t in absurd (n h.0 h.1)) (λ f. f) (cases_Bool (in_part p k e))

  -- a pair is not below itself
  no_below : below e.pair p ≡ true → e.pair ≡ p → ⊥
  no_below b q = never_below p (subst (λ (r : Pair). below r p ≡ true) q b)

  no_above : below p e.pair ≡ true → e.pair ≡ p → ⊥
  no_above b q = never_below p (subst (λ (r : Pair). below p r ≡ true) q b)

  pub before_part : Before (key_at p (suc (rank_of k)) 0) e → in_part p k e ≡ false
  before_part h =
      apart
      (λ q l.
      ⊎_elim (λ b. no_below b q) (λ r. ⊎_elim (λ m. omega arith) (λ m. omega (arith, m.1)) r.1)
      (stands_before p (suc (rank_of k)) 0 e h))

  pub behind_part : NotBefore (key_at p (suc (suc (rank_of k))) 0) e → in_part p k e ≡ false
  behind_part h = apart (λ q l. ⊎_elim (λ b. no_above b q) (λ r. omega (arith, r.1)) (stands_behind p (suc (suc (rank_of k))) 0 e h))

  pub within_part : (day : ℕ) → NotBefore (key_at p (suc (rank_of k)) day) e → Before (key_at p (suc (suc (rank_of k))) 0) e → (in_part p k e ≡ true) × (day ≤ start_in e.row)
  within_part day g h =
      ⊎_elim
      (λ b. ⊎_elim (λ c. absurd (never_below p (below_trans p e.pair p c b))) (λ r. absurd (no_below b r.0)) (stands_behind p (suc (rank_of k)) day e g))
      (λ r.
      ⊎_elim (λ c. absurd (no_above c r.0))
      (λ t.
      let l : level_of e.row ≡ suc (rank_of k) = ⊎_elim (λ m. omega (arith, t.1)) (λ m. absurd (omega (arith, m.1))) r.1 in
      (and_from (same p e.pair) (of_kind k e.row) (is_same p e.pair (sym r.0)) (of_level k e.row l), t.2 l))
      (stands_behind p (suc (rank_of k)) day e g))
      (stands_before p (suc (suc (rank_of k))) 0 e h)

  pub early_part : (day : ℕ) → Before (key_at p (suc (rank_of k)) day) e → in_part p k e ≡ true → start_in e.row < day
  early_part day h t =
      let s = in_part_lem t in
      ⊎_elim (λ b. absurd (no_below b s.0)) (λ r. ⊎_elim (λ m. absurd (omega (arith, s.1))) (λ m. m.1) r.1) (stands_before p (suc (rank_of k)) day e h)

-- tests that no entry passes behind one that fails them
pub key_front : (key : Key) (e x : Entry) → lower (key_of e) (key_of x) ≡ true → Before key x → Before key e
key_front key e x l t = lower_onward (key_of e) (key_of x) key l t

module _ (p : Pair) (e x : Entry) (l : lower (key_of e) (key_of x) ≡ true) where
  pub pair_front : below x.pair p ≡ true → below e.pair p ≡ true
  pair_front t = ⊎_elim (λ b. below_trans e.pair x.pair p b t) (λ r. subst (λ (q : Pair). below q p ≡ true) (sym r.0) t) (lower_read (key_of e) (key_of x) l)

  pub upto_front : upto p x.pair ≡ true → upto p e.pair ≡ true
  upto_front t = ⊎_elim (λ b. upto_lower p e.pair x.pair b t) (λ r. subst (λ (q : Pair). upto p q ≡ true) (sym r.0) t) (lower_read (key_of e) (key_of x) l)
