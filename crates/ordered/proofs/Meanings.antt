-- The rows of a pair and a kind among entries in order are those of its folder.
use Rattle.std.proofs.Common.{◌≡◌, Bool, true, false, cond, ◌&&◌, ◌||◌, List, [], ◌∷◌, Some, None, Option, sym, refl, ap, ◌∙◌, subst, ⊎_elim}
use mathlib.Core.Path.{fun_ext}
use Rattle.std.proofs.lemmas.Bool.{cases_Bool, both_ways, or_left}
use Rattle.register.specs.declared.pairs.Pair.{Pair}
use Rattle.register.specs.Folders.{Folder, below, same, same_kind, rows_of, holds}
use Rattle.register.proofs.PairOrder.{below_trans, below_not_same, same_is, is_same}
use Rattle.rows.specs.Rows.{kind_of_row}
use Rattle.rows.specs.declared.kinds.Kind.{Kind}
use Rattle.rows.specs.declared.row.Row.{Row}
use Rattle.ordered.specs.declared.entries.Entry.{Entry}
use Rattle.ordered.specs.Entries.{leading, folders_of, is_folder, in_order_from, in_order}
use Rattle.ordered.specs.Order.{entry, behind_rest, behind_folder, behind_row}

-- an entry in front of a kind's rows: it counts if it is one of them
abbrev pub counted : Bool → Kind → Option Row → List Row → List Row
counted here k None rs = rs
counted here k (Some r) rs = cond (here && same_kind k (kind_of_row r)) (r ∷ rs) rs

-- the rows of a pair and a kind, wherever they stand
abbrev pub rows_in : Pair → Kind → List Entry → List Row
rows_in p k [] = []
rows_in p k (e ∷ es) = counted (same p e.pair) k e.row (rows_in p k es)

-- an entry of the pair stands somewhere
abbrev pub has_pair : Pair → List Entry → Bool
has_pair p [] = false
has_pair p (e ∷ es) = same p e.pair || has_pair p es

pub elsewhere : (k : Kind) (o : Option Row) (rs : List Row) (b : Bool) → b ≡ false → counted b k o rs ≡ rs
elsewhere k None rs b h = refl
elsewhere k (Some r) rs b h = ap (λ t. cond (t && same_kind k (kind_of_row r)) (r ∷ rs) rs) h

-- behind a folder of a higher pair there is nothing of a pair
beyond_step : (p : Pair) (e : Entry) (pair : Pair) (o : Option Row) (xs : List Entry) → in_order_from e (entry pair o ∷ xs) ≡ true → below p e.pair ≡ true → below p pair ≡ true
beyond_step p e pair None xs h b = below_trans p e.pair pair b (behind_folder e pair xs h)
beyond_step p e pair (Some r) xs h b = subst (λ (q : Pair). below p q ≡ true) (sym (behind_row e pair r xs h)) b

rows_beyond : (p : Pair) (k : Kind) (e : Entry) (xs : List Entry) → in_order_from e xs ≡ true → below p e.pair ≡ true → rows_in p k xs ≡ []
rows_beyond p k e [] h b = refl
rows_beyond p k e (x ∷ xs) h b =
    let c = beyond_step p e x.pair x.row xs h b in
    elsewhere k x.row (rows_in p k xs) (same p x.pair) (below_not_same p x.pair c) ∙ rows_beyond p k x xs (behind_rest e x xs h) c

-- the rows up to the next folder are those of the pair
leading_step : (k : Kind) (e : Entry) (pair : Pair) (o : Option Row) (xs : List Entry) → in_order_from e (entry pair o ∷ xs) ≡ true → leading xs k ≡ rows_in pair k xs → leading (entry pair o ∷ xs) k ≡ rows_in e.pair k (entry pair o ∷ xs)
leading_step k e pair None xs h on = sym (rows_beyond e.pair k (entry pair None) xs (behind_rest e (entry pair None) xs h) (behind_folder e pair xs h))
leading_step k e pair (Some r) xs h on =
    let same-pair : pair ≡ e.pair = behind_row e pair r xs h in
    ap (λ rs. cond (same_kind k (kind_of_row r)) (r ∷ rs) rs) on
    ∙ sym (ap (λ b. cond (b && same_kind k (kind_of_row r)) (r ∷ rows_in pair k xs) (rows_in pair k xs)) (is_same pair pair refl))
    ∙ ap (λ p. rows_in p k (entry pair (Some r) ∷ xs)) same-pair

leading_is : (k : Kind) (e : Entry) (xs : List Entry) → in_order_from e xs ≡ true → leading xs k ≡ rows_in e.pair k xs
leading_is k e [] h = refl
leading_is k e (x ∷ xs) h = leading_step k e x.pair x.row xs h (leading_is k x xs (behind_rest e x xs h))

-- the same of every other pair, by its folder further on
folder_step : (q : Pair) (k : Kind) (pair : Pair) (xs : List Entry) → in_order_from (entry pair None) xs ≡ true → (same q pair ≡ false → rows_of q (folders_of xs) k ≡ rows_in q k xs) → rows_of q (folders_of (entry pair None ∷ xs)) k ≡ rows_in q k xs
folder_step q k pair xs h on =
    ⊎_elim
    (λ t. ap (λ b. cond b (leading xs) (rows_of q (folders_of xs)) k) t ∙ leading_is k (entry pair None) xs h ∙ ap (λ p. rows_in p k xs) (sym (same_is q pair t)))
    (λ f. ap (λ b. cond b (leading xs) (rows_of q (folders_of xs)) k) f ∙ on f)
    (cases_Bool (same q pair))

other_step : (q : Pair) (k : Kind) (e : Entry) (pair : Pair) (o : Option Row) (xs : List Entry) → in_order_from e (entry pair o ∷ xs) ≡ true → same q e.pair ≡ false → (same q pair ≡ false → rows_of q (folders_of xs) k ≡ rows_in q k xs) → rows_of q (folders_of (entry pair o ∷ xs)) k ≡ rows_in q k (entry pair o ∷ xs)
other_step q k e pair None xs h a on = folder_step q k pair xs (behind_rest e (entry pair None) xs h) on
other_step q k e pair (Some r) xs h a on =
    let f : same q pair ≡ false = ap (same q) (behind_row e pair r xs h) ∙ a in
    on f ∙ sym (elsewhere k (Some r) (rows_in q k xs) (same q pair) f)

other_is : (q : Pair) (k : Kind) (e : Entry) (xs : List Entry) → in_order_from e xs ≡ true → same q e.pair ≡ false → rows_of q (folders_of xs) k ≡ rows_in q k xs
other_is q k e [] h a = refl
other_is q k e (x ∷ xs) h a = other_step q k e x.pair x.row xs h a (other_is q k x xs (behind_rest e x xs h))

first_step : (q : Pair) (k : Kind) (pair : Pair) (o : Option Row) (xs : List Entry) → (is_folder o && in_order_from (entry pair o) xs) ≡ true → rows_of q (folders_of (entry pair o ∷ xs)) k ≡ rows_in q k (entry pair o ∷ xs)
first_step q k pair None xs h = folder_step q k pair xs h (other_is q k (entry pair None) xs h)
first_step q k pair (Some r) xs h = absurd (both_ways false refl h)

pub rows_are : (q : Pair) (k : Kind) (xs : List Entry) → in_order xs ≡ true → rows_of q (folders_of xs) k ≡ rows_in q k xs
rows_are q k [] h = refl
rows_are q k (e ∷ es) h = first_step q k e.pair e.row es h

-- a folder is held if any entry is of its pair
held_folder : (q : Pair) (pair : Pair) (xs : List Entry) → (same q pair ≡ false → holds q (folders_of xs) ≡ has_pair q xs) → holds q (folders_of (entry pair None ∷ xs)) ≡ has_pair q (entry pair None ∷ xs)
held_folder q pair xs on =
    ⊎_elim
    (λ t. or_left _ (holds q (folders_of xs)) t ∙ sym (or_left _ (has_pair q xs) t))
    (λ f. ap (λ b. same q pair || b) (on f))
    (cases_Bool (same q pair))

held_step : (q : Pair) (e : Entry) (pair : Pair) (o : Option Row) (xs : List Entry) → in_order_from e (entry pair o ∷ xs) ≡ true → same q e.pair ≡ false → (same q pair ≡ false → holds q (folders_of xs) ≡ has_pair q xs) → holds q (folders_of (entry pair o ∷ xs)) ≡ has_pair q (entry pair o ∷ xs)
held_step q e pair None xs h a on = held_folder q pair xs on
held_step q e pair (Some r) xs h a on =
    let f : same q pair ≡ false = ap (same q) (behind_row e pair r xs h) ∙ a in
    on f ∙ sym (ap (λ b. b || has_pair q xs) f)

held_is : (q : Pair) (e : Entry) (xs : List Entry) → in_order_from e xs ≡ true → same q e.pair ≡ false → holds q (folders_of xs) ≡ has_pair q xs
held_is q e [] h a = refl
held_is q e (x ∷ xs) h a = held_step q e x.pair x.row xs h a (held_is q x xs (behind_rest e x xs h))

held_first : (q : Pair) (pair : Pair) (o : Option Row) (xs : List Entry) → (is_folder o && in_order_from (entry pair o) xs) ≡ true → holds q (folders_of (entry pair o ∷ xs)) ≡ has_pair q (entry pair o ∷ xs)
held_first q pair None xs h = held_folder q pair xs (held_is q (entry pair None) xs h)
held_first q pair (Some r) xs h = absurd (both_ways false refl h)

pub held_are : (q : Pair) (xs : List Entry) → in_order xs ≡ true → holds q (folders_of xs) ≡ has_pair q xs
held_are q [] h = refl
held_are q (e ∷ es) h = held_first q e.pair e.row es h

-- folders with the same pairs and the same rows of each are the same
pub folder_same : (f g : Folder) → f.pair ≡ g.pair → ((k : Kind) → f.rows k ≡ g.rows k) → f ≡ g
folder_same f g a b = λ i. record { pair = a i; rows = fun_ext b i }
