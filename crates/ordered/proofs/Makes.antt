-- A folder more, at its place.
use Rattle.std.proofs.Common.{◌≡◌, ℕ, zero, suc, ◌+◌, ◌<◌, ◌≤◌, true, false, ◌||◌, List, [], ◌∷◌, ◌++◌, length, get_or, take, drop, Some, None, Option, sym, refl, ap, ◌∙◌, subst, ⊎_elim, arith}
use Rattle.std.specs.List.{insert, AllByRecursion}
use Rattle.std.proofs.ByRecursion.{All-weaker, All-append}
use Rattle.std.proofs.lemmas.List.{take-append-drop, drop_all, drop_more}
use Rattle.std.proofs.lemmas.Bool.{or_left, or_right}
use Rattle.register.specs.declared.pairs.Pair.{Pair}
use Rattle.register.specs.Folders.{below, same, rows_of, holds, made}
use Rattle.register.specs.Walks.{pairs_of}
use Rattle.register.proofs.PairOrder.{below_trans, below_not_same, else_above, same_is, is_same, above_not_same}
use Rattle.rows.specs.Kinds.{maximum_of}
use Rattle.rows.specs.declared.kinds.Kind.{Kind}
use Rattle.rows.specs.declared.row.Row.{Row}
use Rattle.ordered.specs.declared.entries.Entry.{Entry}
use Rattle.ordered.specs.Keys.{key_of, lower}
use Rattle.ordered.specs.Entries.{folders_of, in_order, Put, Few}
use Rattle.ordered.specs.Order.{lower_read, entry}
use Rattle.ordered.proofs.Points.{Over, Ascends, ascends, ascends_drop}
use Rattle.ordered.proofs.Meanings.{rows_in, has_pair, rows_are, held_are}
use Rattle.ordered.proofs.Parts.{rows_in_append}
use Rattle.ordered.proofs.Changes.{pinned, pairs_append, rows_made, pairs_made}
use Rattle.ordered.proofs.Inserts.{insert_folder}

has_pair_none : (p : Pair) (xs : List Entry) → AllByRecursion (λ e. same p e.pair ≡ false) xs → has_pair p xs ≡ false
has_pair_none p [] a = refl
has_pair_none p (x ∷ xs) a = ap (λ b. b || has_pair p xs) a.0 ∙ has_pair_none p xs a.1

pub has_pair_at : (p : Pair) (xs : List Entry) (i : ℕ) (d : Entry) → i < length xs → same p ((get_or xs i d).pair) ≡ true → has_pair p xs ≡ true
has_pair_at p [] i d l t = absurd (omega arith)
has_pair_at p (x ∷ xs) zero d l t = or_left (same p x.pair) (has_pair p xs) t
has_pair_at p (x ∷ xs) (suc i) d l t = or_right (same p x.pair) (has_pair p xs) (has_pair_at p xs i d (omega arith) t)

-- what is said of the pairs of entries is said of the pairs of folders
pairs_all_step : (P : Pair → Type 0) (pair : Pair) (o : Option Row) (xs : List Entry) → P pair → AllByRecursion P (pairs_of (folders_of xs)) → AllByRecursion P (pairs_of (folders_of (entry pair o ∷ xs)))
pairs_all_step P pair None xs p a = (p, a)
pairs_all_step P pair (Some r) xs p a = a

pairs_all : (P : Pair → Type 0) (xs : List Entry) → AllByRecursion (λ e. P e.pair) xs → AllByRecursion P (pairs_of (folders_of xs))
pairs_all P [] a = tt
pairs_all P (x ∷ xs) a = pairs_all_step P x.pair x.row xs a.0 (pairs_all P xs a.1)

module _ (pair : Pair) (xs : List Entry) (at : ℕ) (h : in_order xs ≡ true) (within : at ≤ length xs) (before : AllByRecursion (λ e. below e.pair pair ≡ true) (take at xs)) (behind : AllByRecursion (λ e. below pair e.pair ≡ true) (drop at xs)) where
  abbrev ys : List Entry
  ys = insert xs at (entry pair None)

  pub unheld : holds pair (folders_of xs) ≡ false
  unheld =
      held_are pair xs h
      ∙ ap (has_pair pair) (sym (take-append-drop at xs))
      ∙ has_pair_none pair (take at xs ++ drop at xs)
      (All-append (λ e. same pair e.pair ≡ false) (take at xs) (drop at xs)
      (All-weaker (λ e. below e.pair pair ≡ true) (λ e. same pair e.pair ≡ false) (λ e b. above_not_same pair e.pair b) (take at xs) before)
      (All-weaker (λ e. below pair e.pair ≡ true) (λ e. same pair e.pair ≡ false) (λ e b. below_not_same pair e.pair b) (drop at xs) behind))

  order : in_order ys ≡ true
  order = insert_folder pair (take at xs) (drop at xs) before behind (ap in_order (take-append-drop at xs) ∙ h)

  make_pairs : pairs_of (made pair (folders_of xs)) ≡ pairs_of (folders_of ys)
  make_pairs =
      pairs_made pair (pairs_of (folders_of (take at xs))) (pairs_of (folders_of (drop at xs))) (folders_of xs)
      (ap (λ l. pairs_of (folders_of l)) (sym (take-append-drop at xs)) ∙ pairs_append (take at xs) (drop at xs))
      (pairs_all (λ q. below q pair ≡ true) (take at xs) before)
      (pairs_all (λ q. below pair q ≡ true) (drop at xs) behind)
      ∙ sym (pairs_append (take at xs) (entry pair None ∷ drop at xs))

  make_rows : (q : Pair) (k : Kind) → rows_of q (made pair (folders_of xs)) k ≡ rows_in q k ys
  make_rows q k =
      rows_made q pair k (folders_of xs) unheld
      ∙ rows_are q k xs h
      ∙ ap (rows_in q k) (sym (take-append-drop at xs))
      ∙ rows_in_append q k (take at xs) (drop at xs)
      ∙ sym (rows_in_append q k (take at xs) (entry pair None ∷ drop at xs))

  pub put_folder : Put (entry pair None) xs at (made pair (folders_of xs))
  put_folder = record { within = within; order = order; folders = pinned (made pair (folders_of xs)) ys order make_pairs make_rows }

-- few rows stay few
pub few_made : (p : Pair) (xs after : List Entry) → holds p (folders_of xs) ≡ false → folders_of after ≡ made p (folders_of xs) → Few xs → Few after
few_made p xs after n e few q k = subst (λ (rs : List Row). length rs ≤ maximum_of k) (sym (ap (λ fs. rows_of q fs k) e ∙ rows_made q p k (folders_of xs) n)) (few q k)

-- what a search for the folder's place tells
above_rest : (p : Pair) (y : Entry) (ys : List Entry) → below p y.pair ≡ true → Over y ys → AllByRecursion (λ e. below p e.pair ≡ true) ys
above_rest p y ys b a =
    All-weaker (λ e. lower (key_of y) (key_of e) ≡ true) (λ e. below p e.pair ≡ true)
    (λ e l. ⊎_elim (λ c. below_trans p y.pair e.pair b c) (λ t. subst (λ (q : Pair). below p q ≡ true) t.0 b) (lower_read (key_of y) (key_of e) l))
    ys a

module _ (pair : Pair) (xs : List Entry) (at : ℕ) (h : in_order xs ≡ true) where
  pub no_pairs : length xs ≤ at → AllByRecursion (λ e. below pair e.pair ≡ true) (drop at xs)
  no_pairs l = subst (AllByRecursion (λ e. below pair e.pair ≡ true)) (sym (drop_all at xs l)) tt

  module _ (l : at < length xs) (e : Entry) (is : e ≡ get_or xs at e) where
    pub higher_pairs : AllByRecursion (λ e. below e.pair pair ≡ false) (drop at xs) → same e.pair pair ≡ false → AllByRecursion (λ e. below pair e.pair ≡ true) (drop at xs)
    higher_pairs behind n =
        let split : drop at xs ≡ e ∷ drop (at + 1) xs = drop_more xs at e l ∙ ap (λ x. x ∷ drop (at + 1) xs) (sym is) in
        let first : below pair e.pair ≡ true = else_above e.pair pair n (subst (AllByRecursion (λ e. below e.pair pair ≡ false)) split behind).0 in
        let over : Over e (drop (at + 1) xs) = (subst Ascends split (ascends_drop at xs (ascends xs h))).0 in
        subst (AllByRecursion (λ x. below pair x.pair ≡ true)) (sym split) (first, above_rest pair e (drop (at + 1) xs) first over)

    pub held_there : same e.pair pair ≡ true → holds pair (folders_of xs) ≡ true
    held_there t = held_are pair xs h ∙ has_pair_at pair xs at e l (subst (λ (x : Entry). same pair x.pair ≡ true) is (is_same pair e.pair (sym (same_is e.pair pair t))))
