-- Which pair is the first above a given one.
use Rattle.std.proofs.Common.{◌≡◌, ℕ, ◌+◌, ◌<◌, ◌≤◌, true, false, cond, List, [], ◌∷◌, ◌++◌, length, get_or, take, drop, Some, None, Option, sym, refl, ap, ◌∙◌, subst, ⊎_elim}
use Rattle.std.specs.List.{AllByRecursion}
use Rattle.std.proofs.ByRecursion.{All-weaker}
use Rattle.std.proofs.lemmas.List.{take-append-drop, drop_all, drop_more}
use Rattle.std.proofs.lemmas.Bool.{both_ways, and_parts, or_cases}
use Rattle.register.specs.declared.pairs.Pair.{Pair}
use Rattle.register.specs.Folders.{below, same, next_pair}
use Rattle.register.proofs.PairOrder.{same_is, upto, upto_not_above, past_above}
use Rattle.rows.specs.declared.row.Row.{Row}
use Rattle.ordered.specs.declared.entries.Entry.{Entry}
use Rattle.ordered.specs.Entries.{folders_of, is_folder, in_order_from, in_order}
use Rattle.ordered.specs.Order.{entry, behind_rest, behind_pair}

skip : (p : Pair) (pair : Pair) (o : Option Row) (xs : List Entry) → below p pair ≡ false → next_pair p (folders_of (entry pair o ∷ xs)) ≡ next_pair p (folders_of xs)
skip p pair None xs h = ap (λ b. cond b (Some pair) (next_pair p (folders_of xs))) h
skip p pair (Some r) xs h = refl

skips : (p : Pair) (xs ys : List Entry) → AllByRecursion (λ e. below p e.pair ≡ false) xs → next_pair p (folders_of (xs ++ ys)) ≡ next_pair p (folders_of ys)
skips p [] ys h = refl
skips p (x ∷ xs) ys h = skip p x.pair x.row (xs ++ ys) h.0 ∙ skips p xs ys h.1

-- the first entry above the pair is a folder's own
folder_from : (p : Pair) (a : Entry) (fs : List Entry) (e : Entry) (bs : List Entry) → below p a.pair ≡ false → AllByRecursion (λ x. below p x.pair ≡ false) fs → below p e.pair ≡ true → in_order_from a (fs ++ e ∷ bs) ≡ true → is_folder e.row ≡ true
folder_from p a [] e bs n all b h =
    ⊎_elim (λ t. t) (λ t. absurd (both_ways (below p a.pair) n (ap (below p) (sym (same_is e.pair a.pair t)) ∙ b)))
    (or_cases (is_folder e.row) (same e.pair a.pair) (behind_pair a e bs h))
folder_from p a (x ∷ fs) e bs n all b h = folder_from p x fs e bs all.0 all.1 b (behind_rest a x (fs ++ e ∷ bs) h)

folder_first : (p : Pair) (fs : List Entry) (e : Entry) (bs : List Entry) → AllByRecursion (λ x. below p x.pair ≡ false) fs → below p e.pair ≡ true → in_order (fs ++ e ∷ bs) ≡ true → is_folder e.row ≡ true
folder_first p [] e bs all b h = (and_parts (is_folder e.row) (in_order_from e bs) h).0
folder_first p (a ∷ fs) e bs all b h = folder_from p a fs e bs all.0 all.1 b (and_parts (is_folder a.row) (in_order_from a (fs ++ e ∷ bs)) h).1

here : (p : Pair) (pair : Pair) (o : Option Row) (xs : List Entry) → is_folder o ≡ true → below p pair ≡ true → Some pair ≡ next_pair p (folders_of (entry pair o ∷ xs))
here p pair None xs f b = sym (ap (λ t. cond t (Some pair) (next_pair p (folders_of xs))) b)
here p pair (Some r) xs f b = absurd (both_ways false refl f)

module _ (p : Pair) (xs : List Entry) (at : ℕ) (h : in_order xs ≡ true) (before : AllByRecursion (λ e. upto p e.pair ≡ true) (take at xs)) (behind : AllByRecursion (λ e. upto p e.pair ≡ false) (drop at xs)) where
  not_above : AllByRecursion (λ e. below p e.pair ≡ false) (take at xs)
  not_above = All-weaker (λ e. upto p e.pair ≡ true) (λ e. below p e.pair ≡ false) (λ e t. upto_not_above p e.pair t) (take at xs) before

  past : next_pair p (folders_of xs) ≡ next_pair p (folders_of (drop at xs))
  past = ap (λ l. next_pair p (folders_of l)) (sym (take-append-drop at xs)) ∙ skips p (take at xs) (drop at xs) not_above

  pub next_none : length xs ≤ at → None ≡ next_pair p (folders_of xs)
  next_none l = sym (past ∙ ap (λ r. next_pair p (folders_of r)) (drop_all at xs l))

  pub next_some : at < length xs → (e : Entry) → e ≡ get_or xs at e → Some e.pair ≡ next_pair p (folders_of xs)
  next_some l e is =
      let split : drop at xs ≡ e ∷ drop (at + 1) xs = drop_more xs at e l ∙ ap (λ x. x ∷ drop (at + 1) xs) (sym is) in
      let above : below p e.pair ≡ true = past_above p e.pair (subst (AllByRecursion (λ x. upto p x.pair ≡ false)) split behind).0 in
      let own : is_folder e.row ≡ true = folder_first p (take at xs) e (drop (at + 1) xs) not_above above (ap in_order (ap (λ r. take at xs ++ r) (sym split) ∙ take-append-drop at xs) ∙ h) in
      here p e.pair e.row (drop (at + 1) xs) own above
      ∙ sym (past ∙ ap (λ r. next_pair p (folders_of r)) split)
