-- What a change of one folder leaves of the others, and when entries are the folders so changed.
use Rattle.std.proofs.Common.{◌≡◌, suc, ◌≤◌, true, false, cond, ◌&&◌, ◌||◌, List, [], ◌∷◌, ◌++◌, length, get_or, drop, Some, None, Option, sym, refl, ap, ◌∙◌, subst, ⊎_elim, arith}
use Rattle.std.specs.List.{AllByRecursion}
use Rattle.std.proofs.lemmas.Bool.{cond_both, cases_Bool, or_parts, and_left, and_right}
use Rattle.register.specs.declared.pairs.Pair.{Pair}
use Rattle.register.specs.Folders.{Rows, Folder, below, same, rows_of, holds, made, changed, with_kind, same_kind, no_rows}
use Rattle.register.specs.Walks.{pairs_of}
use Rattle.register.proofs.Rising.{Under, Rising}
use Rattle.register.proofs.PairOrder.{below_not_same, above_not_same, above_not_below, same_is, is_same}
use Rattle.rows.specs.Kinds.{maximum_of}
use Rattle.rows.specs.declared.kinds.Kind.{Kind}
use Rattle.rows.specs.declared.row.Row.{Row}
use Rattle.ordered.specs.declared.entries.Entry.{Entry}
use Rattle.ordered.specs.Entries.{folders_of, in_order}
use Rattle.ordered.specs.Order.{same_kind_lem, entry}
use Rattle.ordered.specs.Form.{rows_above, rising}
use Rattle.ordered.proofs.Meanings.{rows_in, folder_same, rows_are}

above_like : (p : Pair) (fs gs : List Folder) → pairs_of fs ≡ pairs_of gs → Under p gs → Under p fs
above_like p [] gs e a = tt
above_like p (f ∷ fs) [] e a = let z : suc (length (pairs_of fs)) ≡ 0 = ap length e in absurd (omega arith)
above_like p (f ∷ fs) (g ∷ gs) e a = (
  subst (λ (q : Pair). below p q ≡ true) (sym (ap (λ l. get_or l 0 f.pair) e)) a.0,
  above_like p fs gs (ap (drop 1) e) a.1,
)

-- folders that ascend are known by their pairs and the rows of each
same_folders : (fs gs : List Folder) → Rising gs → pairs_of fs ≡ pairs_of gs → ((q : Pair) (k : Kind) → rows_of q fs k ≡ rows_of q gs k) → fs ≡ gs
same_folders [] [] up e rows = refl
same_folders [] (g ∷ gs) up e rows = let z : 0 ≡ suc (length (pairs_of gs)) = ap length e in absurd (omega arith)
same_folders (f ∷ fs) [] up e rows = let z : suc (length (pairs_of fs)) ≡ 0 = ap length e in absurd (omega arith)
same_folders (f ∷ fs) (g ∷ gs) up e rows =
    let first : f.pair ≡ g.pair = ap (λ l. get_or l 0 f.pair) e in
    let rest : pairs_of fs ≡ pairs_of gs = ap (drop 1) e in
    let at_f : same f.pair g.pair ≡ true = is_same f.pair g.pair first in
    let own : (k : Kind) → f.rows k ≡ g.rows k = λ k.
    sym (ap (λ b. cond b f.rows (rows_of f.pair fs) k) (is_same f.pair f.pair refl))
    ∙ rows f.pair k
    ∙ ap (λ b. cond b g.rows (rows_of f.pair gs) k) at_f in
    let others : (q : Pair) (k : Kind) → rows_of q fs k ≡ rows_of q gs k = λ q k.
    ⊎_elim
    (λ t.
    let is : q ≡ g.pair = same_is q g.pair t in
    let over : Under q gs = subst (λ (p : Pair). Under p gs) (sym is) up.0 in
    rows_above q k fs (above_like q fs gs rest over) ∙ sym (rows_above q k gs over))
    (λ n.
    sym (ap (λ b. cond b f.rows (rows_of q fs) k) (ap (same q) first ∙ n))
    ∙ rows q k
    ∙ ap (λ b. cond b g.rows (rows_of q gs) k) n)
    (cases_Bool (same q g.pair)) in
    let head : f ≡ g = folder_same f g first own in
    let tail : fs ≡ gs = same_folders fs gs up.1 rest others in
    λ i. head i ∷ tail i

pub pinned : (gs : List Folder) (ys : List Entry) → in_order ys ≡ true → pairs_of gs ≡ pairs_of (folders_of ys) → ((q : Pair) (k : Kind) → rows_of q gs k ≡ rows_in q k ys) → folders_of ys ≡ gs
pinned gs ys h e rows = sym (same_folders gs (folders_of ys) (rising ys h) e (λ q k. rows q k ∙ sym (rows_are q k ys h)))

-- the pairs of entries in two parts
pairs_step : (pair : Pair) (o : Option Row) (xs ys : List Entry) → pairs_of (folders_of (xs ++ ys)) ≡ pairs_of (folders_of xs) ++ pairs_of (folders_of ys) → pairs_of (folders_of (entry pair o ∷ xs ++ ys)) ≡ pairs_of (folders_of (entry pair o ∷ xs)) ++ pairs_of (folders_of ys)
pairs_step pair None xs ys h = ap (λ l. pair ∷ l) h
pairs_step pair (Some r) xs ys h = h

pub pairs_append : (xs ys : List Entry) → pairs_of (folders_of (xs ++ ys)) ≡ pairs_of (folders_of xs) ++ pairs_of (folders_of ys)
pairs_append [] ys = refl
pairs_append (x ∷ xs) ys = pairs_step x.pair x.row xs ys (pairs_append xs ys)

-- one folder changed
pub pairs_changed : (p : Pair) (change : Rows → Rows) (fs : List Folder) → pairs_of (changed p change fs) ≡ pairs_of fs
pairs_changed p change [] = refl
pairs_changed p change (f ∷ fs) =
    cond_both (same p f.pair) (record { pair = f.pair; rows = change f.rows } ∷ fs) (f ∷ changed p change fs) (λ l. pairs_of l ≡ pairs_of (f ∷ fs))
    (λ _. refl) (λ _. ap (λ l. f.pair ∷ l) (pairs_changed p change fs))

pub rows_other : (q p : Pair) (k : Kind) (change : Rows → Rows) (fs : List Folder) → same q p ≡ false → rows_of q (changed p change fs) k ≡ rows_of q fs k
rows_other q p k change [] n = refl
rows_other q p k change (f ∷ fs) n =
    cond_both (same p f.pair) (record { pair = f.pair; rows = change f.rows } ∷ fs) (f ∷ changed p change fs) (λ l. rows_of q l k ≡ rows_of q (f ∷ fs) k)
    (λ t.
    let m : same q f.pair ≡ false = ap (same q) (sym (same_is p f.pair t)) ∙ n in
    ap (λ b. cond b (change f.rows) (rows_of q fs) k) m ∙ sym (ap (λ b. cond b f.rows (rows_of q fs) k) m))
    (λ _. elim (same q f.pair) as (λ b. cond b f.rows (rows_of q (changed p change fs)) k ≡ cond b f.rows (rows_of q fs) k) [ true ↦ refl | false ↦ rows_other q p k change fs n ])

pub rows_here : (p : Pair) (k : Kind) (change : Rows → Rows) (fs : List Folder) → (holds p fs ≡ false → [] ≡ change no_rows k) → rows_of p (changed p change fs) k ≡ change (rows_of p fs) k
rows_here p k change [] h = h refl
rows_here p k change (f ∷ fs) h =
    cond_both (same p f.pair) (record { pair = f.pair; rows = change f.rows } ∷ fs) (f ∷ changed p change fs) (λ l. rows_of p l k ≡ change (rows_of p (f ∷ fs)) k)
    (λ t. ap (λ b. cond b (change f.rows) (rows_of p fs) k) t ∙ sym (ap (λ b. change (cond b f.rows (rows_of p fs)) k) t))
    (λ n.
    ap (λ b. cond b f.rows (rows_of p (changed p change fs)) k) n
    ∙ rows_here p k change fs (λ m. h (ap (λ b. b || holds p fs) n ∙ m))
    ∙ sym (ap (λ b. change (cond b f.rows (rows_of p fs)) k) n))

-- one kind of one folder changed: the rows of entries that have this kind's rows so changed, and all others as they were
module _ (p : Pair) (k : Kind) (change : List Row → List Row) (fs : List Folder) (none : holds p fs ≡ false → (l : Kind) → [] ≡ with_kind k change no_rows l) where
  module _ (ys : List Entry) (own : change (rows_of p fs k) ≡ rows_in p k ys) (others : (q : Pair) (l : Kind) → (same q p && same_kind l k) ≡ false → rows_of q fs l ≡ rows_in q l ys) where
    here_rows : (l : Kind) → with_kind k change (rows_of p fs) l ≡ rows_in p l ys
    here_rows l =
        cond_both (same_kind l k) (change (rows_of p fs l)) (rows_of p fs l) (λ rs. rs ≡ rows_in p l ys)
        (λ t. subst (λ (o : Kind). change (rows_of p fs o) ≡ rows_in p o ys) (sym (same_kind_lem l k t)) own)
        (λ n. others p l (and_right (same p p) (same_kind l k) n))

    pub kind_rows_lem : (q : Pair) (l : Kind) → rows_of q (changed p (with_kind k change) fs) l ≡ rows_in q l ys
    kind_rows_lem q l =
        ⊎_elim
        (λ t. subst (λ (o : Pair). rows_of o (changed p (with_kind k change) fs) l ≡ rows_in o l ys) (sym (same_is q p t)) (rows_here p l (with_kind k change) fs (λ n. none n l) ∙ here_rows l))
        (λ n. rows_other q p l (with_kind k change) fs n ∙ others q l (and_left (same q p) (same_kind l k) n))
        (cases_Bool (same q p))

  -- few rows stay few
  pub few_kind : length (change (rows_of p fs k)) ≤ maximum_of k → ((q : Pair) (l : Kind) → length (rows_of q fs l) ≤ maximum_of l) → (q : Pair) (l : Kind) → length (rows_of q (changed p (with_kind k change) fs) l) ≤ maximum_of l
  few_kind most few q l =
      ⊎_elim
      (λ t.
      subst (λ (o : Pair). length (rows_of o (changed p (with_kind k change) fs) l) ≤ maximum_of l) (sym (same_is q p t))
      (subst (λ (rs : List Row). length rs ≤ maximum_of l) (sym (rows_here p l (with_kind k change) fs (λ n. none n l)))
      (cond_both (same_kind l k) (change (rows_of p fs l)) (rows_of p fs l) (λ rs. length rs ≤ maximum_of l)
      (λ a. subst (λ (o : Kind). length (change (rows_of p fs o)) ≤ maximum_of o) (sym (same_kind_lem l k a)) most)
      (λ _. few p l))))
      (λ n. subst (λ (rs : List Row). length rs ≤ maximum_of l) (sym (rows_other q p l (with_kind k change) fs n)) (few q l))
      (cases_Bool (same q p))

pub length_changed : (p : Pair) (change : Rows → Rows) (fs : List Folder) → length (changed p change fs) ≡ length fs
length_changed p change [] = refl
length_changed p change (f ∷ fs) =
    cond_both (same p f.pair) (record { pair = f.pair; rows = change f.rows } ∷ fs) (f ∷ changed p change fs) (λ l. length l ≡ length (f ∷ fs))
    (λ _. refl) (λ _. ap suc (length_changed p change fs))

-- one folder more
rows_unheld : (p : Pair) (k : Kind) (fs : List Folder) → holds p fs ≡ false → rows_of p fs k ≡ []
rows_unheld p k [] n = refl
rows_unheld p k (f ∷ fs) n =
    let t = or_parts (same p f.pair) (holds p fs) n in
    ap (λ b. cond b f.rows (rows_of p fs) k) t.0 ∙ rows_unheld p k fs t.1

new_first : (q p : Pair) (k : Kind) (fs : List Folder) → holds p fs ≡ false → cond (same q p) no_rows (rows_of q fs) k ≡ rows_of q fs k
new_first q p k fs n =
    ⊎_elim
    (λ t. ap (λ b. cond b no_rows (rows_of q fs) k) t ∙ sym (ap (λ r. rows_of r fs k) (same_is q p t) ∙ rows_unheld p k fs n))
    (λ t. ap (λ b. cond b no_rows (rows_of q fs) k) t)
    (cases_Bool (same q p))

pub rows_made : (q p : Pair) (k : Kind) (fs : List Folder) → holds p fs ≡ false → rows_of q (made p fs) k ≡ rows_of q fs k
rows_made q p k [] n = new_first q p k [] n
rows_made q p k (f ∷ fs) n =
    let t = or_parts (same p f.pair) (holds p fs) n in
    ap (λ b. rows_of q (cond b (f ∷ fs) (cond (below p f.pair) (record { pair = p; rows = no_rows } ∷ f ∷ fs) (f ∷ made p fs))) k) t.0
    ∙ cond_both (below p f.pair) (record { pair = p; rows = no_rows } ∷ f ∷ fs) (f ∷ made p fs) (λ l. rows_of q l k ≡ rows_of q (f ∷ fs) k)
    (λ _. new_first q p k (f ∷ fs) n)
    (λ _. elim (same q f.pair) as (λ b. cond b f.rows (rows_of q (made p fs)) k ≡ cond b f.rows (rows_of q fs) k) [ true ↦ refl | false ↦ rows_made q p k fs t.1 ])

pub length_made : (p : Pair) (fs : List Folder) → holds p fs ≡ false → length (made p fs) ≡ suc (length fs)
length_made p [] n = refl
length_made p (f ∷ fs) n =
    let t = or_parts (same p f.pair) (holds p fs) n in
    ap (λ b. length (cond b (f ∷ fs) (cond (below p f.pair) (record { pair = p; rows = no_rows } ∷ f ∷ fs) (f ∷ made p fs)))) t.0
    ∙ cond_both (below p f.pair) (record { pair = p; rows = no_rows } ∷ f ∷ fs) (f ∷ made p fs) (λ l. length l ≡ suc (length (f ∷ fs)))
    (λ _. refl) (λ _. ap suc (length_made p fs t.1))

pub pairs_made : (p : Pair) (ps qs : List Pair) (fs : List Folder) → pairs_of fs ≡ ps ++ qs → AllByRecursion (λ q. below q p ≡ true) ps → AllByRecursion (λ q. below p q ≡ true) qs → pairs_of (made p fs) ≡ ps ++ p ∷ qs
pairs_made p [] [] [] e a b = refl
pairs_made p [] [] (f ∷ fs) e a b = let z : suc (length (pairs_of fs)) ≡ 0 = ap length e in absurd (omega arith)
pairs_made p [] (q ∷ qs) [] e a b = let z : 0 ≡ suc (length qs) = ap length e in absurd (omega arith)
pairs_made p (q ∷ ps) qs [] e a b = let z : 0 ≡ suc (length (ps ++ qs)) = ap length e in absurd (omega arith)
pairs_made p [] (q ∷ qs) (f ∷ fs) e a b =
    let low : below p f.pair ≡ true = subst (λ (r : Pair). below p r ≡ true) (sym (ap (λ l. get_or l 0 q) e)) b.0 in
    ap (λ t. pairs_of (cond t (f ∷ fs) (cond (below p f.pair) (record { pair = p; rows = no_rows } ∷ f ∷ fs) (f ∷ made p fs)))) (below_not_same p f.pair low)
    ∙ ap (λ t. pairs_of (cond t (record { pair = p; rows = no_rows } ∷ f ∷ fs) (f ∷ made p fs))) low
    ∙ ap (λ l. p ∷ l) e
pairs_made p (q ∷ ps) qs (f ∷ fs) e a b =
    let first : f.pair ≡ q = ap (λ l. get_or l 0 q) e in
    let low : below f.pair p ≡ true = subst (λ (r : Pair). below r p ≡ true) (sym first) a.0 in
    ap (λ t. pairs_of (cond t (f ∷ fs) (cond (below p f.pair) (record { pair = p; rows = no_rows } ∷ f ∷ fs) (f ∷ made p fs)))) (above_not_same p f.pair low)
    ∙ ap (λ t. pairs_of (cond t (record { pair = p; rows = no_rows } ∷ f ∷ fs) (f ∷ made p fs))) (above_not_below f.pair p low)
    ∙ (λ i. first i ∷ pairs_made p ps qs fs (ap (drop 1) e) a.1 b i)
