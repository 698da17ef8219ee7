-- A row more, behind those of its kind.
use Rattle.std.proofs.Common.{◌≡◌, ℕ, zero, suc, ◌+◌, ◌-◌, ◌<◌, ◌≤◌, Bool, true, false, cond, ◌&&◌, ◌||◌, eqb, ltb, ◌⊎◌, List, [], ◌∷◌, ◌++◌, length, get_or, take, drop, Some, None, Option, sym, refl, ap, ◌∙◌, subst, inl, inr, ⊎_elim, arith, take-add}
use Rattle.std.specs.List.{insert, AllByRecursion}
use Rattle.std.proofs.ByRecursion.{All-weaker, All-append, All-get_or}
use Rattle.std.proofs.lemmas.List.{append-nil, take-append-drop, drop-drop, get_or-take, get_or-drop, length-take-le, length-drop, length_push}
use Rattle.std.proofs.lemmas.Bool.{cases_Bool, both_ways, or_cases, and_parts, and_from, and_left, and_right, lt-ltb, le-ltb, eq-eqb, ltb-true}
use Rattle.register.specs.declared.pairs.Pair.{Pair}
use Rattle.register.specs.Folders.{Rows, Folder, below, same, same_kind, rows_of, holds, with_kind, addable, added_folders, starts_after}
use Rattle.register.specs.Walks.{pairs_of}
use Rattle.register.proofs.PairOrder.{below_trans, never_below, not_below_itself, same_is, is_same}
use Rattle.rows.specs.Kinds.{rank_of, maximum_of}
use Rattle.rows.specs.Rows.{kind_of_row, start_of_row}
use Rattle.rows.specs.declared.kinds.Kind.{Kind}
use Rattle.rows.specs.declared.row.Row.{Row}
use Rattle.ordered.specs.declared.entries.Entry.{Entry}
use Rattle.ordered.specs.declared.entries.Key.{Key}
use Rattle.ordered.specs.Keys.{level_of, start_in, key_of, earlier, inner, lower, key_at, Before, NotBefore}
use Rattle.ordered.specs.Entries.{folders_of, is_folder, in_order_from, in_order, Part, Put, Few}
use Rattle.ordered.specs.Order.{earlier_less, entry, behind_rest, behind_folder, behind_row}
use Rattle.ordered.proofs.Meanings.{counted, rows_in, rows_are, held_are}
use Rattle.ordered.proofs.Parts.{rows_in_append, rows_mid, none_behind_part, part_all, all_in_length, count_is}
use Rattle.ordered.proofs.Probes.{lower_onward, of_kind, in_part, lower_below, lower_inner, stands_before, stands_behind, in_part_lem}
use Rattle.ordered.proofs.Changes.{pinned, pairs_append, pairs_changed, kind_rows_lem, few_kind}
use Rattle.ordered.proofs.Inserts.{last_of, last_at, insert_row}
use Rattle.ordered.proofs.Makes.{has_pair_at}

-- behind a key within a pair there is no folder of the pair
unheld_step : (p : Pair) (l : ℕ) (pair : Pair) (o : Option Row) (xs : List Entry) → NotBefore (key_at p (suc l) 0) (entry pair o) → holds p (folders_of xs) ≡ false → holds p (folders_of (entry pair o ∷ xs)) ≡ false
unheld_step p l pair None xs n h =
    ⊎_elim
    (λ t.
    let q : pair ≡ p = sym (same_is p pair t) in
    absurd (⊎_elim (λ b. never_below p (subst (λ (r : Pair). below p r ≡ true) q b)) (λ r. omega (arith, r.1)) (stands_behind p (suc l) 0 (entry pair None) n)))
    (λ f. ap (λ b. b || holds p (folders_of xs)) f ∙ h)
    (cases_Bool (same p pair))
unheld_step p l pair (Some r) xs n h = h

unheld_behind : (p : Pair) (l : ℕ) (xs : List Entry) → AllByRecursion (NotBefore (key_at p (suc l) 0)) xs → holds p (folders_of xs) ≡ false
unheld_behind p l [] a = refl
unheld_behind p l (x ∷ xs) a = unheld_step p l x.pair x.row xs a.0 (unheld_behind p l xs a.1)

-- where the folder is held, what stands right before such a key is of the pair
held_on : (p : Pair) (l : ℕ) (e : Entry) (pair : Pair) (o : Option Row) (xs : List Entry) → in_order_from e (entry pair o ∷ xs) ≡ true → Before (key_at p (suc l) 0) (entry pair o) → (e.pair ≡ p) ⊎ (holds p (folders_of (entry pair o ∷ xs)) ≡ true) → (pair ≡ p) ⊎ (holds p (folders_of xs) ≡ true)
held_on p l e pair None xs h u (inl q) =
    absurd
    (let b : below p pair ≡ true = subst (λ (r : Pair). below r pair ≡ true) q (behind_folder e pair xs h) in
    ⊎_elim (λ c. never_below p (below_trans p pair p b c)) (λ r. never_below p (subst (λ (t : Pair). below p t ≡ true) r.0 b)) (stands_before p (suc l) 0 (entry pair None) u))
held_on p l e pair None xs h u (inr t) = ⊎_elim (λ a. inl (sym (same_is p pair a))) inr (or_cases (same p pair) (holds p (folders_of xs)) t)
held_on p l e pair (Some r) xs h u (inl q) = inl (behind_row e pair r xs h ∙ q)
held_on p l e pair (Some r) xs h u (inr t) = inr t

held_last_from : (p : Pair) (l : ℕ) (e : Entry) (xs ys : List Entry) → in_order_from e (xs ++ ys) ≡ true → AllByRecursion (Before (key_at p (suc l) 0)) xs → AllByRecursion (NotBefore (key_at p (suc l) 0)) ys → (e.pair ≡ p) ⊎ (holds p (folders_of (xs ++ ys)) ≡ true) → (last_of e xs).pair ≡ p
held_last_from p l e [] ys h a b (inl q) = q
held_last_from p l e [] ys h a b (inr t) = absurd (both_ways (holds p (folders_of ys)) (unheld_behind p l ys b) t)
held_last_from p l e (x ∷ xs) ys h a b t =
    held_last_from p l x xs ys (behind_rest e x (xs ++ ys) h) a.1 b (held_on p l e x.pair x.row (xs ++ ys) h a.0 t)

held_first : (p : Pair) (pair : Pair) (o : Option Row) (xs : List Entry) → holds p (folders_of (entry pair o ∷ xs)) ≡ true → (pair ≡ p) ⊎ (holds p (folders_of xs) ≡ true)
held_first p pair None xs t = ⊎_elim (λ a. inl (sym (same_is p pair a))) inr (or_cases (same p pair) (holds p (folders_of xs)) t)
held_first p pair (Some r) xs t = inr t

held_last : (p : Pair) (l : ℕ) (xs : List Entry) (at : ℕ) (d : Entry) → in_order xs ≡ true → AllByRecursion (Before (key_at p (suc l) 0)) (take at xs) → AllByRecursion (NotBefore (key_at p (suc l) 0)) (drop at xs) → at ≤ length xs → holds p (folders_of xs) ≡ true → (0 < at) × ((get_or xs (at - 1) d).pair ≡ p)
held_last p l [] at d h a b w t = absurd (both_ways false refl t)
held_last p l (e ∷ es) zero d h a b w t = absurd (both_ways (holds p (folders_of (e ∷ es))) (unheld_behind p l (e ∷ es) b) t)
held_last p l (e ∷ es) (suc n) d h a b w t =
    let whole = take-append-drop n es in
    let q : (last_of e (take n es)).pair ≡ p =
    held_last_from p l e (take n es) (drop n es)
    (ap (in_order_from e) whole ∙ (and_parts (is_folder e.row) (in_order_from e es) h).1) a.1 b
    (subst (λ (xs : List Entry). (e.pair ≡ p) ⊎ (holds p (folders_of xs) ≡ true)) (sym whole) (held_first p e.pair e.row es t)) in
    let same-n : suc n - 1 ≡ n = omega arith in
    (omega arith, ap (λ i. (get_or (e ∷ es) i d).pair) same-n ∙ ap (λ e. e.pair) (sym (last_at (λ x. x ≡ get_or (e ∷ es) n d) e es n d (omega arith) refl)) ∙ q)

-- the start of the last row is that of the last entry of the part
one_row : (here : Bool) (k : Kind) (o : Option Row) (r : Row) → (here && of_kind k o) ≡ true → starts_after (counted here k o []) r ≡ ltb (start_in o) (start_of_row r)
one_row here k None r h = absurd (both_ways false refl (and_parts here false h).1)
one_row here k (Some q) r h = ap (λ b. starts_after (cond b (q ∷ []) []) r) h

after_more : (q : Row) (rs : List Row) (r : Row) → 0 < length rs → starts_after (q ∷ rs) r ≡ starts_after rs r
after_more q [] r l = absurd (omega arith)
after_more q (p ∷ rs) r l = refl

more_rows : (here : Bool) (k : Kind) (o : Option Row) (rs : List Row) (r : Row) → (here && of_kind k o) ≡ true → 0 < length rs → starts_after (counted here k o rs) r ≡ starts_after rs r
more_rows here k None rs r h l = refl
more_rows here k (Some q) rs r h l = ap (λ b. starts_after (cond b (q ∷ rs) rs) r) h ∙ after_more q rs r l

starts_last : (p : Pair) (k : Kind) (ds : List Entry) (n : ℕ) (r : Row) (d : Entry) → n < length ds → AllByRecursion (λ e. in_part p k e ≡ true) (take (suc n) ds) → starts_after (rows_in p k (take (suc n) ds)) r ≡ ltb (start_in (get_or ds n d).row) (start_of_row r)
starts_last p k [] n r d l a = absurd (omega arith)
starts_last p k (y ∷ ys) zero r d l a = one_row (same p y.pair) k y.row r a.0
starts_last p k (y ∷ ys) (suc n) r d l a =
    let m : length (rows_in p k (take (suc n) ys)) ≡ suc n = all_in_length p k (take (suc n) ys) a.1 ∙ length-take-le (suc n) ys (omega arith) in
    more_rows (same p y.pair) k y.row (rows_in p k (take (suc n) ys)) r a.0 (omega arith) ∙ starts_last p k ys n r d (omega arith) a.1

earlier_is : (m n : ℕ) (b : Bool) → m ≡ n → earlier m n b ≡ b
earlier_is m n b e = ap (λ t. t || (eqb m n && b)) (le-ltb m n (omega arith)) ∙ ap (λ t. t && b) (eq-eqb m n e)

module _ (pair : Pair) (r : Row) where
  abbrev x : Entry
  x = entry pair (Some r)

  abbrev k : Kind
  k = kind_of_row r

  abbrev hi : Key
  hi = key_at pair (suc (suc (rank_of (kind_of_row r)))) 0

  level_is : (last : Entry) → last.pair ≡ pair → level_of last.row ≡ suc (rank_of k) → lower (key_of last) (key_of x) ≡ ltb (start_in last.row) (start_of_row r)
  level_is last p l =
      ap (λ q. below q pair || (same q pair && inner (level_of last.row) (start_in last.row) (suc (rank_of k)) (start_of_row r))) p
      ∙ ap (λ t. t || (same pair pair && inner (level_of last.row) (start_in last.row) (suc (rank_of k)) (start_of_row r))) (not_below_itself pair)
      ∙ ap (λ t. t && inner (level_of last.row) (start_in last.row) (suc (rank_of k)) (start_of_row r)) (is_same pair pair refl)
      ∙ earlier_is (level_of last.row) (suc (rank_of k)) (ltb (start_in last.row) (start_of_row r)) l

  level_less : (last : Entry) → last.pair ≡ pair → level_of last.row < suc (rank_of k) → lower (key_of last) (key_of x) ≡ true
  level_less last p l = lower_inner (key_of last) (key_of x) p (earlier_less (level_of last.row) (suc (rank_of k)) (ltb (start_in last.row) (start_of_row r)) l)

  -- the test of the last entry before the place is the test of the last row
  starts_by : (xs : List Entry) (from count : ℕ) → Part pair k 0 xs from count → (last : Entry) → last ≡ get_or xs (from + count - 1) last → 0 < from + count → last.pair ≡ pair → starts_after (rows_in pair k (take count (drop from xs))) r ≡ lower (key_of last) (key_of x)
  starts_by xs from zero part last is some p =
      let i : from + 0 - 1 ≡ from - 1 = omega arith in
      let n : length (take from xs) ≡ from = length-take-le from xs (omega (arith, part.within)) in
      let at : get_or (take from xs) (from - 1) last ≡ last = get_or-take from xs (from - 1) last (omega arith) ∙ ap (λ j. get_or xs j last) (sym i) ∙ sym is in
      let u : Before (key_at pair (suc (rank_of k)) 0) last = subst (Before (key_at pair (suc (rank_of k)) 0)) at (All-get_or (Before (key_at pair (suc (rank_of k)) 0)) (take from xs) (from - 1) last (omega arith) part.before) in
      sym
      (⊎_elim (λ b. absurd (never_below pair (subst (λ (q : Pair). below q pair ≡ true) p b)))
      (λ t. ⊎_elim (λ l. level_less last p l) (λ l. absurd (omega (arith, l.1))) t.1)
      (stands_before pair (suc (rank_of k)) 0 last u))
  starts_by xs from (suc n) part last is some p =
      let i : from + suc n - 1 ≡ from + n = omega arith in
      let m = length-drop from xs in
      let l : n < length (drop from xs) = omega (arith, part.within) in
      let at : get_or (drop from xs) n last ≡ last = get_or-drop from xs n last ∙ ap (λ j. get_or xs j last) (sym i) ∙ sym is in
      let all = part_all pair k 0 xs from (suc n) part in
      let inside : in_part pair k last ≡ true = subst (λ (e : Entry). in_part pair k e ≡ true) (get_or-take (suc n) (drop from xs) n last (omega arith) ∙ at) (All-get_or (λ e. in_part pair k e ≡ true) (take (suc n) (drop from xs)) n last (omega (arith, length-take-le (suc n) (drop from xs) (omega arith))) all) in
      starts_last pair k (drop from xs) n r last l all
      ∙ ap (λ e. ltb (start_in e.row) (start_of_row r)) at
      ∙ sym (level_is last p (in_part_lem pair k last inside).1)

  over_row : (y : Entry) → NotBefore hi y → lower (key_of x) (key_of y) ≡ true
  over_row y n =
      ⊎_elim (λ b. lower_below (key_of x) (key_of y) b)
      (λ t. lower_inner (key_of x) (key_of y) (sym t.0) (earlier_less (suc (rank_of k)) (level_of y.row) (ltb (start_of_row r) (start_in y.row)) (omega (arith, t.1))))
      (stands_behind pair (suc (suc (rank_of k))) 0 y n)

  put_order : (xs : List Entry) (at : ℕ) (d : Entry) → 0 < at → at ≤ length xs → (get_or xs (at - 1) d).pair ≡ pair → lower (key_of (get_or xs (at - 1) d)) (key_of x) ≡ true → AllByRecursion (λ y. lower (key_of x) (key_of y) ≡ true) (drop at xs) → in_order xs ≡ true → in_order (insert xs at x) ≡ true
  put_order xs zero d some w p l a h = absurd (omega arith)
  put_order [] (suc n) d some w p l a h = absurd (omega arith)
  put_order (e ∷ es) (suc n) d some w p l a h =
      let i : suc n - 1 ≡ n = omega arith in
      let P : Entry → Type 0 = λ (y : Entry). (y.pair ≡ pair) × (lower (key_of y) (key_of x) ≡ true) in
      insert_row pair r e (take n es) (drop n es) (last_at P e es n d (omega arith) (subst (λ (j : ℕ). P (get_or (e ∷ es) j d)) i (p, l))) a (ap (λ t. in_order (e ∷ t)) (take-append-drop n es) ∙ h)

  module _ (xs : List Entry) (from count : ℕ) (part : Part pair k 0 xs from count) (h : in_order xs ≡ true) where
    abbrev at : ℕ
    at = from + count

    abbrev ys : List Entry
    ys = insert xs (from + count) x

    front : AllByRecursion (Before hi) (take (from + count) xs)
    front =
        subst (AllByRecursion (Before hi)) (sym (take-add from count xs))
        (All-append (Before hi) (take from xs) (take count (drop from xs))
        (All-weaker (Before (key_at pair (suc (rank_of k)) 0)) (Before hi)
        (λ e u. lower_onward (key_of e) (key_at pair (suc (rank_of k)) 0) hi u (lower_inner (key_at pair (suc (rank_of k)) 0) hi refl (earlier_less (suc (rank_of k)) (suc (suc (rank_of k))) (ltb 0 0) (omega arith)))) (take from xs) part.before)
        part.upto)

    back : AllByRecursion (NotBefore hi) (drop (from + count) xs)
    back = subst (AllByRecursion (NotBefore hi)) (drop-drop count from xs) part.behind

    pub unheld_at_0 : from + count ≡ 0 → holds pair (folders_of xs) ≡ false
    unheld_at_0 e = ⊎_elim (λ t. absurd (omega (arith, (held_last pair (suc (rank_of k)) xs (from + count) x h front back part.within t).0))) (λ f. f) (cases_Bool (holds pair (folders_of xs)))

    pub starts_is : (last : Entry) → last ≡ get_or xs (from + count - 1) last → 0 < from + count → same pair last.pair ≡ true → starts_after (rows_of pair (folders_of xs) k) r ≡ lower (key_of last) (key_of x)
    starts_is last is some of = ap (λ rs. starts_after rs r) (rows_are pair k xs h ∙ rows_mid pair k xs from count part) ∙ starts_by xs from count part last is some (sym (same_is pair last.pair of))

    module _ (last : Entry) (is : last ≡ get_or xs (from + count - 1) last) where
      pub unheld_other : same pair last.pair ≡ false → holds pair (folders_of xs) ≡ false
      unheld_other n =
          ⊎_elim
          (λ t.
          let q : last.pair ≡ pair = ap (λ e. e.pair) is ∙ (held_last pair (suc (rank_of k)) xs (from + count) last h front back part.within t).1 in
          absurd (both_ways (same pair last.pair) n (is_same pair last.pair (sym q))))
          (λ f. f) (cases_Bool (holds pair (folders_of xs)))

      pub held_by : 0 < from + count → same pair last.pair ≡ true → holds pair (folders_of xs) ≡ true
      held_by some t = held_are pair xs h ∙ has_pair_at pair xs (from + count - 1) last (omega (arith, part.within)) (subst (λ (e : Entry). same pair e.pair ≡ true) is t)

      add_order : 0 < from + count → same pair last.pair ≡ true → lower (key_of last) (key_of x) ≡ true → in_order ys ≡ true
      add_order some t l =
          put_order xs (from + count) last some part.within
          (sym (ap (λ e. e.pair) is) ∙ sym (same_is pair last.pair t)) (ap (λ e. lower (key_of e) (key_of x)) (sym is) ∙ l)
          (All-weaker (NotBefore hi) (λ y. lower (key_of x) (key_of y) ≡ true) over_row (drop (from + count) xs) back) h

    abbrev change : Rows → Rows
    change = with_kind k (λ rs. rs ++ r ∷ [])

    add_pairs : pairs_of (added_folders pair r (folders_of xs)) ≡ pairs_of (folders_of ys)
    add_pairs =
        pairs_changed pair change (folders_of xs)
        ∙ ap (λ l. pairs_of (folders_of l)) (sym (take-append-drop (from + count) xs))
        ∙ pairs_append (take (from + count) xs) (drop (from + count) xs)
        ∙ sym (pairs_append (take (from + count) xs) (x ∷ drop (from + count) xs))

    parts : (q : Pair) (k' : Kind) → rows_in q k' xs ≡ rows_in q k' (take (from + count) xs) ++ rows_in q k' (drop (from + count) xs)
    parts q k' = ap (rows_in q k') (sym (take-append-drop (from + count) xs)) ∙ rows_in_append q k' (take (from + count) xs) (drop (from + count) xs)

    grown : (q : Pair) (k' : Kind) (b : Bool) → (same q pair && same_kind k' k) ≡ b → rows_in q k' ys ≡ rows_in q k' (take (from + count) xs) ++ cond b (r ∷ rows_in q k' (drop (from + count) xs)) (rows_in q k' (drop (from + count) xs))
    grown q k' b e =
        rows_in_append q k' (take (from + count) xs) (x ∷ drop (from + count) xs)
        ∙ ap (λ t. rows_in q k' (take (from + count) xs) ++ cond t (r ∷ rows_in q k' (drop (from + count) xs)) (rows_in q k' (drop (from + count) xs))) e

    other_rows : (q : Pair) (k' : Kind) → (same q pair && same_kind k' k) ≡ false → rows_of q (folders_of xs) k' ≡ rows_in q k' ys
    other_rows q k' n = rows_are q k' xs h ∙ parts q k' ∙ sym (grown q k' false n)

    own_rows : rows_of pair (folders_of xs) k ++ r ∷ [] ≡ rows_in pair k ys
    own_rows =
        let none : rows_in pair k (drop (from + count) xs) ≡ [] = ap (rows_in pair k) (sym (drop-drop count from xs)) ∙ none_behind_part pair k 0 xs from count part in
        let all : rows_of pair (folders_of xs) k ≡ rows_in pair k (take (from + count) xs) = rows_are pair k xs h ∙ parts pair k ∙ ap (λ l. rows_in pair k (take (from + count) xs) ++ l) none ∙ append-nil (rows_in pair k (take (from + count) xs)) in
        ap (λ l. l ++ r ∷ []) all
        ∙ sym (grown pair k true (and_from (same pair pair) (same_kind k k) (is_same pair pair refl) (eq-eqb (rank_of k) (rank_of k) refl)) ∙ ap (λ l. rows_in pair k (take (from + count) xs) ++ r ∷ l) none)

    module _ (held : holds pair (folders_of xs) ≡ true) where
      pub put_row : (last : Entry) → last ≡ get_or xs (from + count - 1) last → 0 < from + count → same pair last.pair ≡ true → lower (key_of last) (key_of x) ≡ true → Put x xs (from + count) (added_folders pair r (folders_of xs))
      put_row last is some t l =
          let order = add_order last is some t l in
          record {
            within = part.within;
            order = order;
            folders = pinned (added_folders pair r (folders_of xs)) ys order add_pairs
                (kind_rows_lem pair k (λ rs. rs ++ r ∷ []) (folders_of xs) (λ n. absurd (both_ways (holds pair (folders_of xs)) n held)) ys own_rows other_rows);
          }

-- what the tests of the code answer
module _ (pair : Pair) (r : Row) (xs : List Entry) (kind : Kind) (is-kind : kind ≡ kind_of_row r) (from count : ℕ) (found : Part pair kind 0 xs from count) (h : in_order xs ≡ true) where
  part : Part pair (kind_of_row r) 0 xs from count
  part = subst (λ (l : Kind). Part pair l 0 xs from count) is-kind found

  abbrev rows : List Row
  rows = rows_of pair (folders_of xs) (kind_of_row r)

  many : count ≡ length rows
  many = count_is pair (kind_of_row r) xs from count part h

  unheld : holds pair (folders_of xs) ≡ false → addable pair r (folders_of xs) ≡ false
  unheld n = and_left (holds pair (folders_of xs)) (ltb (length rows) (maximum_of (kind_of_row r)) && starts_after rows r) n

  pub refuse_full : (most : ℕ) → most ≡ maximum_of kind → most ≤ count → addable pair r (folders_of xs) ≡ false
  refuse_full most e l =
      let m : most ≡ maximum_of (kind_of_row r) = e ∙ ap maximum_of is-kind in
      and_right (holds pair (folders_of xs)) (ltb (length rows) (maximum_of (kind_of_row r)) && starts_after rows r)
      (and_left (ltb (length rows) (maximum_of (kind_of_row r))) (starts_after rows r) (le-ltb (length rows) (maximum_of (kind_of_row r)) (omega (arith, many))))

  module _ (end : ℕ) (whole : from + count ≡ end) where
    up_to_end : length (take end xs) ≡ end
    up_to_end = length-take-le end xs (omega (arith, part.within))

    pub refuse_none : length (take end xs) ≤ 0 → addable pair r (folders_of xs) ≡ false
    refuse_none l = let none : from + count ≡ 0 = omega (arith, up_to_end) in unheld (unheld_at_0 pair r xs from count part h none)

    -- the last entry before the place
    module _ (last : Entry) (some : 0 < length (take end xs)) (last-is : last ≡ get_or (take end xs) (length (take end xs) - 1) last) where
      before_end : 0 < from + count
      before_end = omega (arith, up_to_end)

      is : last ≡ get_or xs (from + count - 1) last
      is =
          let i : length (take end xs) - 1 ≡ from + count - 1 = omega (arith, up_to_end) in
          last-is ∙ ap (λ n. get_or (take end xs) n last) i ∙ get_or-take end xs (from + count - 1) last (omega (arith, before_end))

      pub refuse_other : same pair last.pair ≡ false → addable pair r (folders_of xs) ≡ false
      refuse_other n = unheld (unheld_other pair r xs from count part h last is n)

      module _ (of : same pair last.pair ≡ true) where
        starts : starts_after rows r ≡ lower (key_of last) (key_of (entry pair (Some r)))
        starts = starts_is pair r xs from count part h last is before_end of

        pub refuse_early : lower (key_of last) (key_of (entry pair (Some r))) ≡ false → addable pair r (folders_of xs) ≡ false
        refuse_early n =
            and_right (holds pair (folders_of xs)) (ltb (length rows) (maximum_of (kind_of_row r)) && starts_after rows r)
            (and_right (ltb (length rows) (maximum_of (kind_of_row r))) (starts_after rows r) (starts ∙ n))

        pub accept : (most : ℕ) → most ≡ maximum_of kind → count < most → lower (key_of last) (key_of (entry pair (Some r))) ≡ true → (addable pair r (folders_of xs) ≡ true) × Put (entry pair (Some r)) xs end (added_folders pair r (folders_of xs))
        accept most e l t =
            let m : most ≡ maximum_of (kind_of_row r) = e ∙ ap maximum_of is-kind in
            let held = held_by pair r xs from count part h last is before_end of in (
              and_from (holds pair (folders_of xs)) (ltb (length rows) (maximum_of (kind_of_row r)) && starts_after rows r) held
                  (and_from (ltb (length rows) (maximum_of (kind_of_row r))) (starts_after rows r) (lt-ltb (length rows) (maximum_of (kind_of_row r)) (omega (arith, many))) (starts ∙ t)),
              subst (λ (n : ℕ). Put (entry pair (Some r)) xs n (added_folders pair r (folders_of xs))) whole (put_row pair r xs from count part h held last is before_end of t),
            )

-- few rows stay few where one is added to fewer than the most
pub few_added : (p : Pair) (r : Row) (xs ys : List Entry) → addable p r (folders_of xs) ≡ true → folders_of ys ≡ added_folders p r (folders_of xs) → Few xs → Few ys
few_added p r xs ys ok e few q l =
    let fs = folders_of xs in
    let k = kind_of_row r in
    let rows = rows_of p fs k in
    let parts = and_parts (holds p fs) (ltb (length rows) (maximum_of k) && starts_after rows r) ok in
    let room : length rows < maximum_of k = ltb-true (length rows) (maximum_of k) (and_parts (ltb (length rows) (maximum_of k)) (starts_after rows r) parts.1).0 in
    subst (λ (gs : List Folder). length (rows_of q gs l) ≤ maximum_of l) (sym e)
    (few_kind p k (λ rs. rs ++ r ∷ []) fs (λ n. absurd (both_ways (holds p fs) n parts.0)) (omega (arith, length_push rows r)) few q l)
