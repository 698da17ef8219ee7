-- The rows of a kind from a day on, taken out.
use Rattle.std.proofs.Common.{◌≡◌, ℕ, suc, ◌<◌, ◌≤◌, Bool, true, false, cond, ◌&&◌, List, [], ◌∷◌, ◌++◌, map, length, take, drop, Some, None, Option, sym, refl, ap, ◌∙◌, subst, ⊎_elim, arith}
use Rattle.std.specs.List.{AllByRecursion}
use Rattle.std.proofs.ByRecursion.{All-weaker}
use Rattle.std.proofs.lemmas.List.{append-nil, length-take}
use Rattle.std.proofs.lemmas.Bool.{cases_Bool, both_ways, and_parts, and_from, cond_both, le-leb, lt-leb, eq-eqb}
use Rattle.register.specs.declared.pairs.Pair.{Pair}
use Rattle.register.specs.Folders.{Folder, same, same_kind, rows_of, with_kind, kept_rows, cut_folders, no_rows}
use Rattle.register.specs.Walks.{pairs_of}
use Rattle.register.proofs.PairOrder.{is_same}
use Rattle.timeline.specs.Finding.{before}
use Rattle.rows.specs.Kinds.{rank_of, maximum_of}
use Rattle.rows.specs.Rows.{kind_of_row, start_of_row}
use Rattle.rows.specs.declared.kinds.Kind.{Kind}
use Rattle.rows.specs.declared.row.Row.{Row}
use Rattle.ordered.specs.declared.entries.Entry.{Entry}
use Rattle.ordered.specs.Keys.{start_in, key_at, Before}
use Rattle.ordered.specs.Entries.{folders_of, is_folder, in_order, Part, Few}
use Rattle.ordered.specs.Order.{entry}
use Rattle.ordered.proofs.Meanings.{counted, rows_in, rows_are}
use Rattle.ordered.proofs.Parts.{rows_in_append, none_in, part_all, part_late, none_behind_part, thirds, rows_split}
use Rattle.ordered.proofs.Probes.{of_kind, in_part, in_part_lem, early_part}
use Rattle.ordered.proofs.Changes.{pinned, pairs_append, pairs_changed, kind_rows_lem, few_kind}
use Rattle.ordered.proofs.Inserts.{remove_rows}

-- what holds of the starts of a part's entries holds of the starts of its rows
counted_all : (P : ℕ → Type 0) (here : Bool) (k : Kind) (o : Option Row) (rs : List Row) → ((here && of_kind k o) ≡ true → P (start_in o)) → AllByRecursion (λ r. P (start_of_row r)) rs → AllByRecursion (λ r. P (start_of_row r)) (counted here k o rs)
counted_all P here k None rs h a = a
counted_all P here k (Some r) rs h a = cond_both (here && same_kind k (kind_of_row r)) (r ∷ rs) rs (AllByRecursion (λ q. P (start_of_row q))) (λ t. (h t, a)) (λ _. a)

rows_in_all : (P : ℕ → Type 0) (p : Pair) (k : Kind) (xs : List Entry) → AllByRecursion (λ e. in_part p k e ≡ true → P (start_in e.row)) xs → AllByRecursion (λ r. P (start_of_row r)) (rows_in p k xs)
rows_in_all P p k [] a = tt
rows_in_all P p k (x ∷ xs) a = counted_all P (same p x.pair) k x.row (rows_in p k xs) a.0 (rows_in_all P p k xs a.1)

-- the rows that start before the day, in front of those that do not
kept_front : (day : ℕ) (rs qs : List Row) → AllByRecursion (λ r. start_of_row r < day) rs → AllByRecursion (λ r. day ≤ start_of_row r) qs → kept_rows day (rs ++ qs) ≡ rs
kept_front day [] [] a b = refl
kept_front day [] (q ∷ qs) a b = ap (λ t. take (cond t 0 (suc (before day (map start_of_row qs)))) (q ∷ qs)) (le-leb day (start_of_row q) b.0)
kept_front day (r ∷ rs) qs a b =
    ap (λ t. take (cond t 0 (suc (before day (map start_of_row (rs ++ qs))))) (r ∷ rs ++ qs)) (lt-leb day (start_of_row r) a.0)
    ∙ ap (λ l. r ∷ l) (kept_front day rs qs a.1 b)

part_row : (here : Bool) (k : Kind) (o : Option Row) → (here && of_kind k o) ≡ true → is_folder o ≡ false
part_row here k None h = absurd (both_ways false refl (and_parts here false h).1)
part_row here k (Some r) h = refl

no_folders : (pair : Pair) (o : Option Row) (xs : List Entry) → is_folder o ≡ false → folders_of xs ≡ [] → folders_of (entry pair o ∷ xs) ≡ []
no_folders pair None xs n e = absurd (both_ways true n refl)
no_folders pair (Some r) xs n e = e

rows_only : (xs : List Entry) → AllByRecursion (λ m. is_folder m.row ≡ false) xs → folders_of xs ≡ []
rows_only [] a = refl
rows_only (x ∷ xs) a = no_folders x.pair x.row xs a.0 (rows_only xs a.1)

-- what is in one part is in no other
other_part : (p q : Pair) (k l : Kind) (e : Entry) → (same q p && same_kind l k) ≡ false → in_part p k e ≡ true → in_part q l e ≡ false
other_part p q k l e n h =
    ⊎_elim
    (λ t.
    let a = in_part_lem p k e h in
    let b = in_part_lem q l e t in
    let same-pair : q ≡ p = sym b.0 ∙ a.0 in
    let same_rank : rank_of l ≡ rank_of k = omega (arith, a.1, b.1) in
    absurd (both_ways (same q p && same_kind l k) n (and_from (same q p) (same_kind l k) (is_same q p same-pair) (eq-eqb (rank_of l) (rank_of k) same_rank))))
    (λ f. f) (cases_Bool (in_part q l e))

-- of no rows none are kept
none_kept : (k : Kind) (day : ℕ) (l : Kind) → [] ≡ with_kind k (kept_rows day) no_rows l
none_kept k day l = elim (same_kind l k) as (λ b. [] ≡ cond b (kept_rows day []) []) [ true ↦ refl | false ↦ refl ]

module _ (p : Pair) (k : Kind) (day : ℕ) (xs : List Entry) (from count : ℕ) (part : Part p k day xs from count) (h : in_order xs ≡ true) where
  abbrev front : List Entry
  front = take from xs

  abbrev mid : List Entry
  mid = take count (drop from xs)

  abbrev back : List Entry
  back = drop count (drop from xs)

  mid_rows : AllByRecursion (λ m. is_folder m.row ≡ false) mid
  mid_rows = All-weaker (λ e. in_part p k e ≡ true) (λ m. is_folder m.row ≡ false) (λ e t. part_row (same p e.pair) k e.row t) mid (part_all p k day xs from count part)

  pub cut_order : in_order (front ++ back) ≡ true
  cut_order = remove_rows front mid back mid_rows (ap in_order (thirds p k day xs from count part) ∙ h)

  cut_pairs : pairs_of (cut_folders p k day (folders_of xs)) ≡ pairs_of (folders_of (front ++ back))
  cut_pairs =
      pairs_changed p (with_kind k (kept_rows day)) (folders_of xs)
      ∙ ap (λ l. pairs_of (folders_of l)) (sym (thirds p k day xs from count part))
      ∙ pairs_append front (mid ++ back)
      ∙ ap (λ l. pairs_of (folders_of front) ++ l) (pairs_append mid back ∙ ap (λ l. pairs_of l ++ pairs_of (folders_of back)) (rows_only mid mid_rows))
      ∙ sym (pairs_append front back)

  other_rows : (q : Pair) (l : Kind) → (same q p && same_kind l k) ≡ false → rows_of q (folders_of xs) l ≡ rows_in q l (front ++ back)
  other_rows q l n =
      rows_are q l xs h
      ∙ ap (rows_in q l) (sym (thirds p k day xs from count part))
      ∙ rows_in_append q l front (mid ++ back)
      ∙ ap (λ rs. rows_in q l front ++ rs) (rows_in_append q l mid back ∙ ap (λ rs. rs ++ rows_in q l back) (none_in q l mid (All-weaker (λ e. in_part p k e ≡ true) (λ e. in_part q l e ≡ false) (λ e t. other_part p q k l e n t) mid (part_all p k day xs from count part))))
      ∙ sym (rows_in_append q l front back)

  own_rows : kept_rows day (rows_of p (folders_of xs) k) ≡ rows_in p k (front ++ back)
  own_rows =
      ap (kept_rows day) (rows_are p k xs h ∙ rows_split p k day xs from count part)
      ∙ kept_front day (rows_in p k front) (rows_in p k mid)
      (rows_in_all (λ n. n < day) p k front (All-weaker (Before (key_at p (suc (rank_of k)) day)) (λ e. in_part p k e ≡ true → start_in e.row < day) (λ e u t. early_part p k e day u t) front part.before))
      (rows_in_all (λ n. day ≤ n) p k mid (All-weaker (λ e. day ≤ start_in e.row) (λ e. in_part p k e ≡ true → day ≤ start_in e.row) (λ e l _. l) mid (part_late p k day xs from count part)))
      ∙ sym (rows_in_append p k front back ∙ ap (λ rs. rows_in p k front ++ rs) (none_behind_part p k day xs from count part) ∙ append-nil (rows_in p k front))

  pub cut_folders_lem : folders_of (front ++ back) ≡ cut_folders p k day (folders_of xs)
  cut_folders_lem = pinned (cut_folders p k day (folders_of xs)) (front ++ back) cut_order cut_pairs
      (kind_rows_lem p k (kept_rows day) (folders_of xs) (λ _. none_kept k day) (front ++ back) own_rows other_rows)

-- few rows stay few
pub few_cut : (p : Pair) (k : Kind) (day : ℕ) (xs ys : List Entry) → folders_of ys ≡ cut_folders p k day (folders_of xs) → Few xs → Few ys
few_cut p k day xs ys e few q l =
    let fs = folders_of xs in
    subst (λ (gs : List Folder). length (rows_of q gs l) ≤ maximum_of l) (sym e)
    (few_kind p k (kept_rows day) fs (λ _. none_kept k day) (omega (arith, length-take (before day (map start_of_row (rows_of p fs k))) (rows_of p fs k), few p k)) few q l)
