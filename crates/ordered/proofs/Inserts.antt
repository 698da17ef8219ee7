-- Entries stay in order when one is put in at its place, and when rows are taken out.
use Rattle.std.proofs.Common.{◌≡◌, ℕ, zero, suc, ◌<◌, true, false, ◌||◌, List, [], ◌∷◌, ◌++◌, length, get_or, take, Some, None, sym, refl, ap, ◌∙◌, subst, ⊎_elim, arith}
use Rattle.std.specs.List.{AllByRecursion}
use Rattle.std.proofs.lemmas.Bool.{both_ways, and_parts, and_from, or_cases, or_left}
use Rattle.register.specs.declared.pairs.Pair.{Pair}
use Rattle.register.specs.Folders.{below, same}
use Rattle.register.proofs.PairOrder.{below_trans, never_below, same_is, is_same}
use Rattle.rows.specs.declared.row.Row.{Row}
use Rattle.ordered.specs.declared.entries.Entry.{Entry}
use Rattle.ordered.specs.Keys.{key_of, lower}
use Rattle.ordered.specs.Entries.{is_folder, follows, in_order_from, in_order}
use Rattle.ordered.specs.Order.{entry, behind_rest, behind_lower, behind_pair}
use Rattle.ordered.proofs.Probes.{lower_onward, lower_below}

-- the last of some entries
abbrev pub last_of : Entry → List Entry → Entry
last_of e [] = e
last_of e (x ∷ xs) = last_of x xs

all_last : (P : Entry → Type 0) (e : Entry) (xs : List Entry) → AllByRecursion P (e ∷ xs) → P (last_of e xs)
all_last P e [] a = a.0
all_last P e (x ∷ xs) a = all_last P x xs a.1

pub last_at : (P : Entry → Type 0) (e : Entry) (xs : List Entry) (n : ℕ) (d : Entry) → n < length (e ∷ xs) → P (get_or (e ∷ xs) n d) → P (last_of e (take n xs))
last_at P e xs zero d l p = p
last_at P e [] (suc n) d l p = absurd (omega arith)
last_at P e (x ∷ xs) (suc n) d l p = last_at P x xs n d (omega arith) p

-- it may follow: it is above, and a folder or of the same pair
may_follow : (e x : Entry) (xs : List Entry) → lower (key_of e) (key_of x) ≡ true → (is_folder x.row || same x.pair e.pair) ≡ true → in_order_from x xs ≡ true → in_order_from e (x ∷ xs) ≡ true
may_follow e x xs l p h = and_from (follows e x) (in_order_from x xs) (and_from (lower (key_of e) (key_of x)) (is_folder x.row || same x.pair e.pair) l p) h

insert_from : (x : Entry) (ys : List Entry) (P : Entry → Type 0) → ((e : Entry) → P e → in_order_from e ys ≡ true → in_order_from e (x ∷ ys) ≡ true) → (e : Entry) (xs : List Entry) → P (last_of e xs) → in_order_from e (xs ++ ys) ≡ true → in_order_from e (xs ++ x ∷ ys) ≡ true
insert_from x ys P step e [] p h = step e p h
insert_from x ys P step e (a ∷ xs) p h =
    may_follow e a (xs ++ x ∷ ys) (behind_lower e a (xs ++ ys) h) (behind_pair e a (xs ++ ys) h)
    (insert_from x ys P step a xs p (behind_rest e a (xs ++ ys) h))

-- a folder between lower and higher pairs
module _ (pair : Pair) where
  folder_then : (e y : Entry) (ys : List Entry) → below e.pair pair ≡ true → below pair y.pair ≡ true → (is_folder y.row || same y.pair e.pair) ≡ true → is_folder y.row ≡ true
  folder_then e y ys b c h =
      ⊎_elim (λ t. t) (λ t. absurd (never_below pair (below_trans pair e.pair pair (ap (below pair) (sym (same_is y.pair e.pair t)) ∙ c) b)))
      (or_cases (is_folder y.row) (same y.pair e.pair) h)

  folder_before : (ys : List Entry) → AllByRecursion (λ y. below pair y.pair ≡ true) ys → in_order ys ≡ true → in_order_from (entry pair None) ys ≡ true
  folder_before [] a h = refl
  folder_before (y ∷ ys) a h =
      let t = and_parts (is_folder y.row) (in_order_from y ys) h in
      may_follow (entry pair None) y ys (lower_below (key_of (entry pair None)) (key_of y) a.0) (or_left (is_folder y.row) (same y.pair pair) t.0) t.1

  folder_step : (ys : List Entry) → AllByRecursion (λ y. below pair y.pair ≡ true) ys → (e : Entry) → below e.pair pair ≡ true → in_order_from e ys ≡ true → in_order_from e (entry pair None ∷ ys) ≡ true
  folder_step [] a e b h = may_follow e (entry pair None) [] (lower_below (key_of e) (key_of (entry pair None)) b) refl refl
  folder_step (y ∷ ys) a e b h =
      let f : is_folder y.row ≡ true = folder_then e y ys b a.0 (behind_pair e y ys h) in
      may_follow e (entry pair None) (y ∷ ys) (lower_below (key_of e) (key_of (entry pair None)) b) refl
      (folder_before (y ∷ ys) a (and_from (is_folder y.row) (in_order_from y ys) f (behind_rest e y ys h)))

  pub insert_folder : (xs ys : List Entry) → AllByRecursion (λ x. below x.pair pair ≡ true) xs → AllByRecursion (λ y. below pair y.pair ≡ true) ys → in_order (xs ++ ys) ≡ true → in_order (xs ++ entry pair None ∷ ys) ≡ true
  insert_folder [] ys a b h = folder_before ys b h
  insert_folder (e ∷ xs) ys a b h =
      let t = and_parts (is_folder e.row) (in_order_from e (xs ++ ys)) h in
      and_from (is_folder e.row) (in_order_from e (xs ++ entry pair None ∷ ys)) t.0
      (insert_from (entry pair None) ys (λ x. below x.pair pair ≡ true) (folder_step ys b) e xs (all_last (λ x. below x.pair pair ≡ true) e xs a) t.1)

-- a row behind an entry of its pair
module _ (pair : Pair) (r : Row) where
  abbrev Leads : Entry → Type 0
  Leads e = (e.pair ≡ pair) × (lower (key_of e) (key_of (entry pair (Some r))) ≡ true)

  row_before : (e : Entry) (ys : List Entry) → e.pair ≡ pair → AllByRecursion (λ y. lower (key_of (entry pair (Some r))) (key_of y) ≡ true) ys → in_order_from e ys ≡ true → in_order_from (entry pair (Some r)) ys ≡ true
  row_before e [] p a h = refl
  row_before e (y ∷ ys) p a h =
      may_follow (entry pair (Some r)) y ys a.0 (subst (λ (q : Pair). (is_folder y.row || same y.pair q) ≡ true) p (behind_pair e y ys h)) (behind_rest e y ys h)

  row_step : (ys : List Entry) → AllByRecursion (λ y. lower (key_of (entry pair (Some r))) (key_of y) ≡ true) ys → (e : Entry) → Leads e → in_order_from e ys ≡ true → in_order_from e (entry pair (Some r) ∷ ys) ≡ true
  row_step ys a e b h = may_follow e (entry pair (Some r)) ys b.1 (is_same pair e.pair (sym b.0)) (row_before e ys b.0 a h)

  pub insert_row : (e : Entry) (xs ys : List Entry) → Leads (last_of e xs) → AllByRecursion (λ y. lower (key_of (entry pair (Some r))) (key_of y) ≡ true) ys → in_order (e ∷ xs ++ ys) ≡ true → in_order (e ∷ xs ++ entry pair (Some r) ∷ ys) ≡ true
  insert_row e xs ys b a h =
      let t = and_parts (is_folder e.row) (in_order_from e (xs ++ ys)) h in
      and_from (is_folder e.row) (in_order_from e (xs ++ entry pair (Some r) ∷ ys)) t.0
      (insert_from (entry pair (Some r)) ys Leads (row_step ys a) e xs b t.1)

-- rows taken out
row_out : (e m : Entry) (ys : List Entry) → is_folder m.row ≡ false → in_order_from e (m ∷ ys) ≡ true → in_order_from e ys ≡ true
row_out e m [] n h = refl
row_out e m (y ∷ ys) n h =
    let rest = behind_rest e m (y ∷ ys) h in
    let of : m.pair ≡ e.pair = same_is m.pair e.pair (sym (ap (λ b. b || same m.pair e.pair) n) ∙ behind_pair e m (y ∷ ys) h) in
    may_follow e y ys
    (lower_onward (key_of e) (key_of m) (key_of y) (behind_lower e m (y ∷ ys) h) (behind_lower m y ys rest))
    (subst (λ (q : Pair). (is_folder y.row || same y.pair q) ≡ true) of (behind_pair m y ys rest))
    (behind_rest m y ys rest)

rows_out : (e : Entry) (ms ys : List Entry) → AllByRecursion (λ m. is_folder m.row ≡ false) ms → in_order_from e (ms ++ ys) ≡ true → in_order_from e ys ≡ true
rows_out e [] ys a h = h
rows_out e (m ∷ ms) ys a h = rows_out e ms ys a.1 (row_out e m (ms ++ ys) a.0 h)

remove_from : (e : Entry) (xs ms ys : List Entry) → AllByRecursion (λ m. is_folder m.row ≡ false) ms → in_order_from e (xs ++ (ms ++ ys)) ≡ true → in_order_from e (xs ++ ys) ≡ true
remove_from e [] ms ys a h = rows_out e ms ys a h
remove_from e (x ∷ xs) ms ys a h =
    may_follow e x (xs ++ ys) (behind_lower e x (xs ++ (ms ++ ys)) h) (behind_pair e x (xs ++ (ms ++ ys)) h)
    (remove_from x xs ms ys a (behind_rest e x (xs ++ (ms ++ ys)) h))

pub remove_rows : (xs ms ys : List Entry) → AllByRecursion (λ m. is_folder m.row ≡ false) ms → in_order (xs ++ (ms ++ ys)) ≡ true → in_order (xs ++ ys) ≡ true
remove_rows [] [] ys a h = h
remove_rows [] (m ∷ ms) ys a h = absurd (both_ways (is_folder m.row) a.0 (and_parts (is_folder m.row) (in_order_from m (ms ++ ys)) h).0)
remove_rows (e ∷ xs) ms ys a h =
    let t = and_parts (is_folder e.row) (in_order_from e (xs ++ (ms ++ ys))) h in
    and_from (is_folder e.row) (in_order_from e (xs ++ ys)) t.0 (remove_from e xs ms ys a t.1)
