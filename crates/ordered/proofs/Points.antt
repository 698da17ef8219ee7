-- Where a test turns that no entry passes behind one that fails it.
use Rattle.std.proofs.Common.{◌≡◌, ℕ, zero, suc, ◌+◌, ◌<◌, ◌≤◌, Bool, true, false, List, [], ◌∷◌, length, get_or, take, drop, sym, subst, ⊎_elim, arith}
use denote.Param.Members.{Mut}
use denote.Ref.{Bor}
use Rattle.std.specs.Fn.{Called, ComputesKey}
use Rattle.std.specs.List.{AllByRecursion}
use Rattle.std.specs.List.Sorted.{IsPartitionedBy, IsPartitionPoint}
use Rattle.std.proofs.ByRecursion.{All-weaker, All-get_or, all_from_every}
use Rattle.std.proofs.lemmas.List.{get_or-take, get_or-drop, length-take-le, length-drop}
use Rattle.std.proofs.lemmas.List.Sorted.{IsPartitionPoint-from_clause}
use Rattle.std.proofs.lemmas.Bool.{and_parts, cases_lt}
use Rattle.ordered.specs.declared.entries.Entry.{Entry}
use Rattle.ordered.specs.Keys.{key_of, lower}
use Rattle.ordered.specs.Entries.{is_folder, in_order_from, in_order}
use Rattle.ordered.proofs.Probes.{lower_onward}
use Rattle.ordered.specs.Order.{behind_rest, behind_lower}

-- of any two entries the later is above
abbrev pub Over : Entry → List Entry → Type 0
Over e xs = AllByRecursion (λ x. lower (key_of e) (key_of x) ≡ true) xs

abbrev pub Ascends : List Entry → Type 0
Ascends [] = Unit {0}
Ascends (x ∷ xs) = Over x xs × Ascends xs

over_onward : (e x : Entry) (xs : List Entry) → lower (key_of e) (key_of x) ≡ true → Over x xs → Over e xs
over_onward e x xs h = All-weaker (λ y. lower (key_of x) (key_of y) ≡ true) (λ y. lower (key_of e) (key_of y) ≡ true) (λ y g. lower_onward (key_of e) (key_of x) (key_of y) h g) xs

over_from : (e : Entry) (xs : List Entry) → in_order_from e xs ≡ true → Over e xs
over_from e [] h = tt
over_from e (x ∷ xs) h = let l = behind_lower e x xs h in (l, over_onward e x xs l (over_from x xs (behind_rest e x xs h)))

ascends_from : (e : Entry) (xs : List Entry) → in_order_from e xs ≡ true → Ascends xs
ascends_from e [] h = tt
ascends_from e (x ∷ xs) h = let b = behind_rest e x xs h in (over_from x xs b, ascends_from x xs b)

pub ascends : (xs : List Entry) → in_order xs ≡ true → Ascends xs
ascends [] h = tt
ascends (e ∷ es) h = let b = (and_parts (is_folder e.row) (in_order_from e es) h).1 in (over_from e es b, ascends_from e es b)

pub ascends_drop : (n : ℕ) (xs : List Entry) → Ascends xs → Ascends (drop n xs)
ascends_drop zero xs a = a
ascends_drop (suc n) [] a = tt
ascends_drop (suc n) (x ∷ xs) a = ascends_drop n xs a.1

ascends_at : (xs : List Entry) → Ascends xs → (i j : ℕ) (d : Entry) → i < j → j < length xs → lower (key_of (get_or xs i d)) (key_of (get_or xs j d)) ≡ true
ascends_at [] a i j d h l = absurd (omega arith)
ascends_at (x ∷ xs) a i zero d h l = absurd (omega arith)
ascends_at (x ∷ xs) a zero (suc j) d h l = All-get_or (λ y. lower (key_of x) (key_of y) ≡ true) xs j d (omega arith) a.0
ascends_at (x ∷ xs) a (suc i) (suc j) d h l = ascends_at xs a.1 i j d (omega arith) (omega arith)

-- the entries that `partition_point` finds to pass a test, in front, and the rest
module _ (xs : List Entry) (h : Ascends xs) (test : Entry → Bool) (front : (e x : Entry) → lower (key_of e) (key_of x) ≡ true → test x ≡ true → test e ≡ true) where
  partitioned : IsPartitionedBy test xs
  partitioned i j d le l t =
      ⊎_elim (λ lt. front (get_or xs i d) (get_or xs j d) (ascends_at xs h i j d lt l) t)
      (λ ge. let e : j ≡ i = omega arith in subst (λ (k : ℕ). test (get_or xs k d) ≡ true) e t)
      (cases_lt i j)

  pub split : (at : ℕ) → at ≤ length xs → {F : Type 0} {g : Mut F (Bor Entry × Unit {0}) Bool} {f : F} → ((q : Entry → Bool) → ComputesKey g q f → IsPartitionedBy q xs → IsPartitionPoint (λ y. q y ≡ true) (λ y. q y ≡ false) xs at) → ((a : Bor Entry × Unit {0}) (r : Bool) (f' : F) → Called g f a r f' → (r ≡ test a.0.now) × (f' ≡ f)) → AllByRecursion (λ e. test e ≡ true) (take at xs) × AllByRecursion (λ e. test e ≡ false) (drop at xs)
  split at within clause calls =
      let point = IsPartitionPoint-from_clause test xs at clause partitioned calls in (
        all_from_every (λ e. test e ≡ true) (take at xs)
            (λ i d _ l. let m : i < at = omega (arith, length-take-le at xs within) in subst (λ (e : Entry). test e ≡ true) (sym (get_or-take at xs i d m)) (point.0 i d (omega arith) m)),
        all_from_every (λ e. test e ≡ false) (drop at xs)
            (λ i d _ l. subst (λ (e : Entry). test e ≡ false) (sym (get_or-drop at xs i d)) (point.1 (at + i) d (omega arith) (omega (arith, length-drop at xs)))),
      )
