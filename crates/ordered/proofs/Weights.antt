-- How many entries some folders take.
use Rattle.std.proofs.Common.{◌≡◌, ℕ, zero, suc, ◌+◌, ◌*◌, ◌<◌, ◌≤◌, Bool, true, false, cond, ◌&&◌, ◌||◌, List, [], ◌∷◌, length, get_or, Some, None, sum_by, Option, sym, refl, ap, ◌∙◌, subst, ⊎_elim, arith}
use Rattle.std.specs.List.{AllByRecursion}
use Rattle.std.proofs.lemmas.List.Sums.{sum_by-cons}
use Rattle.std.proofs.lemmas.Bool.{both_ways, cases_Bool}
use Rattle.register.specs.declared.pairs.Pair.{Pair}
use Rattle.register.specs.Folders.{Rows, Folder, same, rows_of, holds}
use Rattle.rows.specs.Kinds.{kinds, rank_of, maximum_of}
use Rattle.rows.specs.declared.kinds.Kind.{Kind}
use Rattle.rows.specs.declared.kinds.Kind.TheVariants.{Registration}
use Rattle.rows.specs.declared.row.Row.{Row}
use Rattle.rows.specs.declared.row.Row.TheVariants as row
use Rattle.ordered.specs.declared.entries.Entry.{Entry}
use Rattle.ordered.specs.Entries.{with_row, leading, folders_of, is_folder, in_order_from, in_order, Few, per_folder}
use Rattle.ordered.specs.Order.{rank_back, entry}
use Rattle.ordered.proofs.Probes.{rank_most}
use Rattle.ordered.specs.Form.{FewIn, rising, few_each}

-- how many rows there are
abbrev size : Rows → ℕ
size rows = sum_by (λ k. length (rows k)) kinds

abbrev weight : List Folder → ℕ
weight [] = 0
weight (f ∷ fs) = suc (size f.rows) + weight fs

size_more : (r : Row) (rows : Rows) → size (with_row r rows) ≡ suc (size rows)
size_more (row.Registration q) rows = omega arith
size_more (row.Appointment q) rows = omega arith
size_more (row.Collector q) rows = omega arith
size_more (row.Profile q) rows = omega arith
size_more (row.Measurement q) rows = omega arith
size_more (row.Energisation q) rows = omega arith
size_more (row.LineLoss q) rows = omega arith
size_more (row.Group q) rows = omega arith
size_more (row.Advance q) rows = omega arith
size_more (row.Estimate q) rows = omega arith

weigh_step : (pair : Pair) (o : Option Row) (xs : List Entry) → length xs ≡ size (leading xs) + weight (folders_of xs) → suc (length xs) ≡ size (leading (entry pair o ∷ xs)) + weight (folders_of (entry pair o ∷ xs))
weigh_step pair None xs e = omega arith
weigh_step pair (Some r) xs e = omega (arith, size_more r (leading xs))

weigh : (xs : List Entry) → length xs ≡ size (leading xs) + weight (folders_of xs)
weigh [] = refl
weigh (x ∷ xs) = weigh_step x.pair x.row xs (weigh xs)

none_leads : (pair : Pair) (o : Option Row) (xs : List Entry) → (is_folder o && in_order_from (entry pair o) xs) ≡ true → size (leading (entry pair o ∷ xs)) ≡ 0
none_leads pair None xs h = refl
none_leads pair (Some r) xs h = absurd (both_ways false refl h)

weighs : (xs : List Entry) → in_order xs ≡ true → length xs ≡ weight (folders_of xs)
weighs [] h = refl
weighs (e ∷ es) h = omega (arith, weigh (e ∷ es), none_leads e.pair e.row es h)

-- a folder is no heavier than a full one, and lighter where one kind is not full
module _ (f : Folder) (few : FewIn f) where
  abbrev many : Kind → ℕ
  many k = length (f.rows k)

  sum_most : (ks : List Kind) → sum_by many ks ≤ sum_by maximum_of ks
  sum_most [] = omega arith
  sum_most (k ∷ ks) = omega (arith, few k, sum_most ks, sum_by-cons many k ks, sum_by-cons maximum_of k ks)

  sum_less : (ks : List Kind) (i : ℕ) (d : Kind) → i < length ks → many (get_or ks i d) < maximum_of (get_or ks i d) → sum_by many ks < sum_by maximum_of ks
  sum_less [] i d l h = absurd (omega arith)
  sum_less (k ∷ ks) zero d l h = omega (arith, sum_most ks, sum_by-cons many k ks, sum_by-cons maximum_of k ks)
  sum_less (k ∷ ks) (suc i) d l h = omega (arith, few k, sum_less ks i d (omega arith) h, sum_by-cons many k ks, sum_by-cons maximum_of k ks)

  size_most : suc (size f.rows) ≤ per_folder
  size_most = omega (arith, sum_most kinds)

  size_less : (k : Kind) → length (f.rows k) < maximum_of k → suc (size f.rows) < per_folder
  size_less k h =
      let less = sum_less kinds (rank_of k) Registration (omega (arith, rank_most k)) (subst (λ (l : Kind). length (f.rows l) < maximum_of l) (sym (rank_back k)) h) in
      omega (arith, less)

weight_most : (fs : List Folder) → AllByRecursion FewIn fs → weight fs ≤ per_folder * length fs
weight_most [] few = omega arith
weight_most (f ∷ fs) few = omega (arith, size_most f few.0, weight_most fs few.1)

weight_less : (p : Pair) (k : Kind) (fs : List Folder) → AllByRecursion FewIn fs → holds p fs ≡ true → length (rows_of p fs k) < maximum_of k → weight fs < per_folder * length fs
weight_less p k [] few h l = absurd (both_ways false refl h)
weight_less p k (f ∷ fs) few h l =
    ⊎_elim
    (λ t.
    let own : length (f.rows k) < maximum_of k = subst (λ (b : Bool). length (cond b f.rows (rows_of p fs) k) < maximum_of k) t l in
    omega (arith, size_less f few.0 k own, weight_most fs few.1))
    (λ n.
    let rest : length (rows_of p fs k) < maximum_of k = subst (λ (b : Bool). length (cond b f.rows (rows_of p fs) k) < maximum_of k) n l in
    omega (arith, size_most f few.0, weight_less p k fs few.1 (sym (ap (λ b. b || holds p fs) n) ∙ h) rest))
    (cases_Bool (same p f.pair))

module _ (xs : List Entry) (h : in_order xs ≡ true) (few : Few xs) where
  each : AllByRecursion FewIn (folders_of xs)
  each = few_each (folders_of xs) (rising xs h) few

  pub length_most : length xs ≤ per_folder * length (folders_of xs)
  length_most = omega (arith, weighs xs h, weight_most (folders_of xs) each)

  pub length_less : (p : Pair) (k : Kind) → holds p (folders_of xs) ≡ true → length (rows_of p (folders_of xs) k) < maximum_of k → length xs < per_folder * length (folders_of xs)
  length_less p k held l = omega (arith, weighs xs h, weight_less p k (folders_of xs) each held l)
