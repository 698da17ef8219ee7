-- Entries in order are folders in form: the lemmas of a register's own promise.
use Rattle.std.specs.Prelude.{◌≡◌, ℕ, zero, suc, ◌<◌, ◌≤◌, Bool, true, cond, List, [], ◌∷◌, map, length, Some, None, Option, nat_lt, refl}
use Rattle.std.proofs.Common.{sym, ap, subst, ◌∙◌, ⊎_elim, arith}
use Rattle.std.specs.List.{AllByRecursion}
use Rattle.std.proofs.ByRecursion.{All-weaker, All-get_or}
use Rattle.std.proofs.lemmas.List.{length-map, get_or-map}
use Rattle.std.proofs.lemmas.Bool.{cond_both, cases_Bool, and_parts, eqb-true, ltb-true}
use Rattle.register.specs.declared.pairs.Pair.{Pair}
use Rattle.register.specs.Folders.{Rows, Folder, same, same_kind, rows_of, FolderInForm, Systems, InForm}
use Rattle.register.proofs.Keeping.{all_systems}
use Rattle.register.proofs.PairOrder.{below_not_same, same_is, is_same}
use Rattle.register.proofs.Rising.{Under, Rising, under_lower, rising_ascends}
use Rattle.fields.specs.Ascent.{Ascending}
use Rattle.rows.specs.Kinds.{rank_of, maximum_of}
use Rattle.rows.specs.Rows.{kind_of_row, start_of_row}
use Rattle.rows.specs.declared.kinds.Kind.{Kind}
use Rattle.rows.specs.declared.row.Row.{Row}
use Rattle.ordered.specs.declared.entries.Entry.{Entry}
use Rattle.ordered.specs.Keys.{level_of, start_in, inner}
use Rattle.ordered.specs.Entries.{led, leading, folders_of, is_folder, in_order_from, in_order, Few}
use Rattle.ordered.specs.Order.{inner_onward, earlier_read, same_kind_lem, entry, behind_rest, behind_folder, behind_row, behind_inner}

-- the folders' pairs ascend
above_step : (e : Entry) (pair : Pair) (o : Option Row) (xs : List Entry) → in_order_from e (entry pair o ∷ xs) ≡ true → Under pair (folders_of xs) → Under e.pair (folders_of (entry pair o ∷ xs))
above_step e pair None xs h rest = let b = behind_folder e pair xs h in (b, under_lower e.pair pair (folders_of xs) b rest)
above_step e pair (Some r) xs h rest = subst (λ (p : Pair). Under p (folders_of xs)) (behind_row e pair r xs h) rest

pub pairs_above : (e : Entry) (xs : List Entry) → in_order_from e xs ≡ true → Under e.pair (folders_of xs)
pairs_above e [] h = tt
pairs_above e (x ∷ xs) h = above_step e x.pair x.row xs h (pairs_above x xs (behind_rest e x xs h))

rising_step : (pair : Pair) (o : Option Row) (xs : List Entry) → Under pair (folders_of xs) → Rising (folders_of xs) → Rising (folders_of (entry pair o ∷ xs))
rising_step pair None xs a r = (a, r)
rising_step pair (Some q) xs a r = r

pub rising_from : (e : Entry) (xs : List Entry) → in_order_from e xs ≡ true → Rising (folders_of xs)
rising_from e [] h = tt
rising_from e (x ∷ xs) h = let b = behind_rest e x xs h in rising_step x.pair x.row xs (pairs_above x xs b) (rising_from x xs b)

pub rising : (xs : List Entry) → in_order xs ≡ true → Rising (folders_of xs)
rising [] h = tt
rising (e ∷ es) h = let b = (and_parts (is_folder e.row) (in_order_from e es) h).1 in rising_step e.pair e.row es (pairs_above e es b) (rising_from e es b)

-- the rows of a kind are of that kind
kinds_step : (k : Kind) (o : Option Row) (rows : Rows) → AllByRecursion (λ r. kind_of_row r ≡ k) (rows k) → AllByRecursion (λ r. kind_of_row r ≡ k) (led o rows k)
kinds_step k None rows h = tt
kinds_step k (Some r) rows h =
    cond_both (same_kind k (kind_of_row r)) (r ∷ rows k) (rows k) (AllByRecursion (λ q. kind_of_row q ≡ k))
    (λ e. (sym (same_kind_lem k (kind_of_row r) e), h)) (λ _. h)

kinds_in : (k : Kind) (xs : List Entry) → AllByRecursion (λ r. kind_of_row r ≡ k) (leading xs k)
kinds_in k [] = tt
kinds_in k (x ∷ xs) = kinds_step k x.row (leading xs) (kinds_in k xs)

-- they are further within the folder than what stands before them
abbrev Further : ℕ → ℕ → Kind → List Row → Type 0
Further level start k rs = AllByRecursion (λ r. inner level start (suc (rank_of k)) (start_of_row r) ≡ true) rs

further_onward : (a s b t : ℕ) (k : Kind) (rs : List Row) → inner a s b t ≡ true → Further b t k rs → Further a s k rs
further_onward a s b t k rs h =
    All-weaker (λ r. inner b t (suc (rank_of k)) (start_of_row r) ≡ true) (λ r. inner a s (suc (rank_of k)) (start_of_row r) ≡ true)
    (λ r g. inner_onward a s b t (suc (rank_of k)) (start_of_row r) h g) rs

further_step : (a s : ℕ) (k : Kind) (o : Option Row) (rows : Rows) → inner a s (level_of o) (start_in o) ≡ true → Further (level_of o) (start_in o) k (rows k) → Further a s k (led o rows k)
further_step a s k None rows h rest = tt
further_step a s k (Some r) rows h rest =
    let on = further_onward a s (level_of (Some r)) (start_of_row r) k (rows k) h rest in
    cond_both (same_kind k (kind_of_row r)) (r ∷ rows k) (rows k) (Further a s k)
    (λ e. (subst (λ (n : ℕ). inner a s (suc n) (start_of_row r) ≡ true) (sym (eqb-true (rank_of k) (rank_of (kind_of_row r)) e)) h, on)) (λ _. on)

further_row : (e : Entry) (pair : Pair) (k : Kind) (o : Option Row) (xs : List Entry) → in_order_from e (entry pair o ∷ xs) ≡ true → Further (level_of o) (start_in o) k (leading xs k) → Further (level_of e.row) (start_in e.row) k (leading (entry pair o ∷ xs) k)
further_row e pair k None xs h rest = tt
further_row e pair k (Some r) xs h rest = further_step (level_of e.row) (start_in e.row) k (Some r) (leading xs) (behind_inner e pair r xs h) rest

further_in : (e : Entry) (k : Kind) (xs : List Entry) → in_order_from e xs ≡ true → Further (level_of e.row) (start_in e.row) k (leading xs k)
further_in e k [] h = tt
further_in e k (x ∷ xs) h = further_row e x.pair k x.row xs h (further_in x k xs (behind_rest e x xs h))

-- so their starts ascend
abbrev Up : List Row → Type 0
Up [] = Unit {0}
Up (r ∷ rs) = AllByRecursion (λ q. start_of_row r < start_of_row q) rs × Up rs

later : (a b s t : ℕ) → a ≡ b → inner (suc b) s (suc a) t ≡ true → s < t
later a b s t e h = ⊎_elim (λ l. absurd (omega arith)) (λ r. ltb-true s t r.1) (earlier_read (suc b) (suc a) (nat_lt s t) h)

up_step : (k : Kind) (o : Option Row) (rows : Rows) → Further (level_of o) (start_in o) k (rows k) → Up (rows k) → Up (led o rows k)
up_step k None rows f u = tt
up_step k (Some r) rows f u =
    cond_both (same_kind k (kind_of_row r)) (r ∷ rows k) (rows k) Up
    (λ e.
    let same = eqb-true (rank_of k) (rank_of (kind_of_row r)) e in (
      All-weaker (λ q. inner (suc (rank_of (kind_of_row r))) (start_of_row r) (suc (rank_of k)) (start_of_row q) ≡ true) (λ q. start_of_row r < start_of_row q)
          (λ q g. later (rank_of k) (rank_of (kind_of_row r)) (start_of_row r) (start_of_row q) same g) (rows k) f,
      u,
    ))
    (λ _. u)

up_in : (e : Entry) (k : Kind) (xs : List Entry) → in_order_from e xs ≡ true → Up (leading xs k)
up_in e k [] h = tt
up_in e k (x ∷ xs) h = let b = behind_rest e x xs h in up_step k x.row (leading xs) (further_in x k xs b) (up_in x k xs b)

starts : (rs : List Row) → Up rs → Ascending (map start_of_row rs)
starts [] u i j l m = absurd (omega arith)
starts (r ∷ rs) u i zero l m = absurd (omega arith)
starts (r ∷ rs) u zero (suc j) l m =
    let h : j < length rs = omega (arith, length-map rs start_of_row) in
    subst (λ (n : ℕ). start_of_row r < n) (sym (get_or-map start_of_row rs j r 0 h)) (All-get_or (λ q. start_of_row r < start_of_row q) rs j r h u.0)
starts (r ∷ rs) u (suc i) (suc j) l m = starts rs u.1 i j (omega arith) (omega arith)

-- a pair below all folders has no rows
pub rows_above : (p : Pair) (k : Kind) (fs : List Folder) → Under p fs → rows_of p fs k ≡ []
rows_above p k [] a = refl
rows_above p k (f ∷ fs) a =
    ap (λ b. cond b f.rows (rows_of p fs) k) (below_not_same p f.pair a.0) ∙ rows_above p k fs a.1

-- the rows of a pair are those of its folder, so few rows of each pair are few in each folder
abbrev pub FewIn : Folder → Type 0
FewIn f = (k : Kind) → length (f.rows k) ≤ maximum_of k

pub few_each : (fs : List Folder) → Rising fs → ((p : Pair) (k : Kind) → length (rows_of p fs k) ≤ maximum_of k) → AllByRecursion FewIn fs
few_each [] r h = tt
few_each (f ∷ fs) r h = (
  λ k. subst (λ (b : Bool). length (cond b f.rows (rows_of f.pair fs) k) ≤ maximum_of k) (is_same f.pair f.pair refl) (h f.pair k),
  few_each fs r.1
      (λ p k.
      ⊎_elim
      (λ t. omega (arith, ap (λ q. length (rows_of q fs k)) (same_is p f.pair t), ap length (rows_above f.pair k fs r.0)))
      (λ t. subst (λ (b : Bool). length (cond b f.rows (rows_of p fs) k) ≤ maximum_of k) t (h p k))
      (cases_Bool (same p f.pair))),
)

form_step : (pair : Pair) (o : Option Row) (xs : List Entry) → in_order_from (entry pair o) xs ≡ true → AllByRecursion FewIn (folders_of (entry pair o ∷ xs)) → (AllByRecursion FewIn (folders_of xs) → AllByRecursion FolderInForm (folders_of xs)) → AllByRecursion FolderInForm (folders_of (entry pair o ∷ xs))
form_step pair None xs h few on = (
  λ k. record { kinds = kinds_in k xs; starts = starts (leading xs k) (up_in (entry pair None) k xs h); few = few.0 k },
  on few.1,
)
form_step pair (Some r) xs h few on = on few

form_from : (e : Entry) (xs : List Entry) → in_order_from e xs ≡ true → AllByRecursion FewIn (folders_of xs) → AllByRecursion FolderInForm (folders_of xs)
form_from e [] h few = tt
form_from e (x ∷ xs) h few = let b = behind_rest e x xs h in form_step x.pair x.row xs b few (form_from x xs b)

form_in : (xs : List Entry) → in_order xs ≡ true → AllByRecursion FewIn (folders_of xs) → AllByRecursion FolderInForm (folders_of xs)
form_in [] h few = tt
form_in (e ∷ es) h few = let b = (and_parts (is_folder e.row) (in_order_from e es) h).1 in form_step e.pair e.row es b few (form_from e es b)

pub in_form_lem : (places : ℕ) (xs : List Entry) → in_order xs ≡ true → Systems (folders_of xs) → Few xs → length (folders_of xs) ≤ places → InForm places (folders_of xs)
in_form_lem places xs h systems few room =
    let up = rising xs h in
    record { ascend = rising_ascends (folders_of xs) up; systems = all_systems _ systems; folders = form_in xs h (few_each (folders_of xs) up few); room = room }

pub held_within : {held places n : ℕ} → held ≡ n → held ≤ places → n ≤ places
held_within e h = omega arith
