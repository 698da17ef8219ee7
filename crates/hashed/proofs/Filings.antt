-- What a folder more makes of filed folders, and what is found among them.
use Rattle.std.proofs.Common.{◌≡◌, ℕ, zero, suc, ◌<◌, Bool, true, false, cond, ◌||◌, List, [], ◌∷◌, length, get_or, take, Some, None, Option, IfSome, is_some, sym, refl, ap, ◌∙◌, subst, ⊎_elim, arith}
use Rattle.std.specs.List.{AllByRecursion}
use Rattle.std.proofs.lemmas.Option.{IfSome_then, none-some}
use Rattle.std.proofs.lemmas.Bool.{true≢false, cond-true, cond-false, cond_both, cases_Bool, or_parts, both_ways}
use Rattle.blocks.specs.Block.{empty_folder, with_rows}
use Rattle.register.specs.declared.pairs.Pair.{Pair}
use Rattle.register.specs.Folders.{Rows, Folder, same, below, no_rows, holds, rows_of, changed, made, next_pair, lowest}
use Rattle.register.specs.Walks.{pairs_of}
use Rattle.hashed.specs.Filing.{filed, gathered}
use Rattle.register.proofs.PairOrder.{same_is, is_same}
use Rattle.hashed.specs.Table.{seek}

twice : (a b c : Bool) → a ≡ b → (a || c) ≡ (a || (b || c))
twice true b c e = refl
twice false b c e = ap (λ x. x || c) e

swap : (a b c : Bool) → (a || (b || c)) ≡ (b || (a || c))
swap true true c = refl
swap true false c = refl
swap false true c = refl
swap false false c = refl

cond_twice : {X : Type 0} (a b : Bool) (x y z : X) → a ≡ b → cond a x z ≡ cond a x (cond b y z)
cond_twice true b x y z e = refl
cond_twice false b x y z e = sym (cond-false b y z (sym e))

cond_swap : {X : Type 0} (a b : Bool) (x y z : X) → (a ≡ true → b ≡ true → ⊥) → cond a x (cond b y z) ≡ cond b y (cond a x z)
cond_swap true true x y z h = absurd (h refl refl)
cond_swap true false x y z h = refl
cond_swap false true x y z h = refl
cond_swap false false x y z h = refl

abbrev value : Option ℕ → ℕ
value None = 0
value (Some b) = b

pub none_is : (r : Option ℕ) → is_some r ≡ false → r ≡ None
none_is None e = refl
none_is (Some b) e = absurd (true≢false e)

-- a function of one of three, case by case
by_three : {X Y : Type 0} (h : X → Y) (a b : Bool) (x y z : X) (x' y' z' : Y) → (a ≡ true → h x ≡ x') → (a ≡ false → b ≡ true → h y ≡ y') → (a ≡ false → b ≡ false → h z ≡ z') → h (cond a x (cond b y z)) ≡ cond a x' (cond b y' z')
by_three h true b x y z x' y' z' p q r = p refl
by_three h false true x y z x' y' z' p q r = q refl refl
by_three h false false x y z x' y' z' p q r = r refl refl

both_same : (k p q : Pair) → same p q ≡ false → same k q ≡ true → same k p ≡ true → ⊥
both_same k p q e f g = both_ways (same p q) e (is_same p q (sym (same_is k p g) ∙ same_is k q f))

pub holds_filed : (k : Pair) (f : Folder) (gs : List Folder) → holds k (filed f gs) ≡ (same k f.pair || holds k gs)
holds_filed k f [] = refl
holds_filed k f (g ∷ gs) =
    cond_both (same f.pair g.pair) _ _ (λ l. holds k l ≡ (same k f.pair || (same k g.pair || holds k gs)))
    (λ e. twice (same k f.pair) (same k g.pair) (holds k gs) (ap (same k) (same_is f.pair g.pair e)))
    (λ e. cond_both (below f.pair g.pair) _ _ (λ l. holds k l ≡ (same k f.pair || (same k g.pair || holds k gs))) (λ l. refl)
    (λ l. ap (λ b. same k g.pair || b) (holds_filed k f gs) ∙ swap (same k g.pair) (same k f.pair) (holds k gs)))

pub rows_filed : (k : Pair) (f : Folder) (gs : List Folder) → rows_of k (filed f gs) ≡ cond (same k f.pair) f.rows (rows_of k gs)
rows_filed k f [] = refl
rows_filed k f (g ∷ gs) =
    cond_both (same f.pair g.pair) _ _ (λ l. rows_of k l ≡ cond (same k f.pair) f.rows (cond (same k g.pair) g.rows (rows_of k gs)))
    (λ e. cond_twice (same k f.pair) (same k g.pair) f.rows g.rows (rows_of k gs) (ap (same k) (same_is f.pair g.pair e)))
    (λ e. cond_both (below f.pair g.pair) _ _ (λ l. rows_of k l ≡ cond (same k f.pair) f.rows (cond (same k g.pair) g.rows (rows_of k gs))) (λ l. refl)
    (λ l. ap (cond (same k g.pair) g.rows) (rows_filed k f gs) ∙ cond_swap (same k g.pair) (same k f.pair) g.rows f.rows (rows_of k gs) (both_same k f.pair g.pair e)))

changed_same : (k : Pair) (v : Rows → Rows) (f : Folder) (gs : List Folder) → same k f.pair ≡ true → changed k v (filed f gs) ≡ filed (with_rows v f) gs
changed_same k v f [] h = cond-true _ _ _ h
changed_same k v f (g ∷ gs) h =
    by_three (changed k v) (same f.pair g.pair) (below f.pair g.pair) (f ∷ gs) (f ∷ g ∷ gs) (g ∷ filed f gs) (with_rows v f ∷ gs) (with_rows v f ∷ g ∷ gs) (g ∷ filed (with_rows v f) gs)
    (λ a. cond-true _ _ _ h)
    (λ a b. cond-true _ _ _ h)
    (λ a b. ⊎_elim (λ s. absurd (both_same k f.pair g.pair a s h)) (λ s. cond-false _ _ _ s ∙ ap (λ l. g ∷ l) (changed_same k v f gs h)) (cases_Bool (same k g.pair)))

changed_other : (k : Pair) (v : Rows → Rows) (f : Folder) (gs : List Folder) → same k f.pair ≡ false → changed k v (filed f gs) ≡ filed f (changed k v gs)
changed_other k v f [] h = cond-false _ _ _ h
changed_other k v f (g ∷ gs) h =
    ⊎_elim
    (λ s.
    by_three (changed k v) (same f.pair g.pair) (below f.pair g.pair) (f ∷ gs) (f ∷ g ∷ gs) (g ∷ filed f gs) (f ∷ gs) (f ∷ with_rows v g ∷ gs) (with_rows v g ∷ filed f gs)
    (λ a. absurd (both_ways (same k f.pair) h (ap (same k) (same_is f.pair g.pair a) ∙ s)))
    (λ a b. cond-false _ _ _ h ∙ ap (λ l. f ∷ l) (cond-true _ _ _ s))
    (λ a b. cond-true _ _ _ s)
    ∙ sym (ap (filed f) (cond-true (same k g.pair) (with_rows v g ∷ gs) (g ∷ changed k v gs) s)))
    (λ s.
    by_three (changed k v) (same f.pair g.pair) (below f.pair g.pair) (f ∷ gs) (f ∷ g ∷ gs) (g ∷ filed f gs) (f ∷ changed k v gs) (f ∷ g ∷ changed k v gs) (g ∷ filed f (changed k v gs))
    (λ a. cond-false _ _ _ h)
    (λ a b. cond-false _ _ _ h ∙ ap (λ l. f ∷ l) (cond-false _ _ _ s))
    (λ a b. cond-false _ _ _ s ∙ ap (λ l. g ∷ l) (changed_other k v f gs h))
    ∙ sym (ap (filed f) (cond-false (same k g.pair) (with_rows v g ∷ gs) (g ∷ changed k v gs) s)))
    (cases_Bool (same k g.pair))

-- what is sought by its pair is what the filed folders have of it
pub holds_gathered : (f : ℕ → Folder) (k : Pair) (n : ℕ) → holds k (gathered f n) ≡ is_some (seek (λ i. (f i).pair) k n)
holds_gathered f k zero = refl
holds_gathered f k (suc n) =
    holds_filed k (f n) (gathered f n)
    ∙ ap (λ b. same k (f n).pair || b) (holds_gathered f k n)
    ∙ found_or (same k (f n).pair) n (seek (λ i. (f i).pair) k n)
  where
    found_or : (b : Bool) (n : ℕ) (m : Option ℕ) → (b || is_some m) ≡ is_some (cond b (Some n) m)
    found_or true n m = refl
    found_or false n m = refl

-- the rows of what is found
abbrev pub rows_found : (ℕ → Folder) → Option ℕ → Rows
rows_found f None = no_rows
rows_found f (Some b) = (f b).rows

pub rows_gathered : (f : ℕ → Folder) (k : Pair) (n : ℕ) → rows_of k (gathered f n) ≡ rows_found f (seek (λ i. (f i).pair) k n)
rows_gathered f k zero = refl
rows_gathered f k (suc n) =
    rows_filed k (f n) (gathered f n)
    ∙ ap (cond (same k (f n).pair) (f n).rows) (rows_gathered f k n)
    ∙ found_rows (same k (f n).pair) n (seek (λ i. (f i).pair) k n)
  where
    found_rows : (b : Bool) (n : ℕ) (m : Option ℕ) → cond b (f n).rows (rows_found f m) ≡ rows_found f (cond b (Some n) m)
    found_rows true n m = refl
    found_rows false n m = refl

pub gathered_same : (f g : ℕ → Folder) (n : ℕ) → ((i : ℕ) → i < n → f i ≡ g i) → gathered f n ≡ gathered g n
gathered_same f g zero h = refl
gathered_same f g (suc n) h = ap (λ x. filed x (gathered f n)) (h n (omega arith)) ∙ ap (filed (g n)) (gathered_same f g n (λ i l. h i (omega arith)))

pub seek_within : (f : ℕ → Pair) (k : Pair) (n : ℕ) → IfSome (seek f k n) (λ b. b < n)
seek_within f k zero = tt
seek_within f k (suc n) =
    cond_both (same k (f n)) (Some n) (seek f k n) (λ x. IfSome x (λ b. b < suc n)) (λ e. omega arith)
    (λ e. IfSome_then (seek f k n) (seek_within f k n) (λ b l. omega arith))

-- other rows in the block that is found
pub changed_gathered : (f g : ℕ → Folder) (k : Pair) (v : Rows → Rows) (b : ℕ) → ((i : ℕ) → (i ≡ b → ⊥) → g i ≡ f i) → g b ≡ with_rows v (f b) → (n : ℕ) → seek (λ i. (f i).pair) k n ≡ Some b → gathered g n ≡ changed k v (gathered f n)
changed_gathered f g k v b others here zero h = absurd (none-some b h)
changed_gathered f g k v b others here (suc n) h =
    ⊎_elim
    (λ e.
    let t : seek (λ i. (f i).pair) k (suc n) ≡ Some n = cond-true _ _ _ e in
    let m : b ≡ n = ap value (sym h ∙ t) in
    let is : g n ≡ with_rows v (f n) = subst (λ (i : ℕ). g i ≡ with_rows v (f i)) m here in
    ap (λ x. filed x (gathered g n)) is
    ∙ ap (filed (with_rows v (f n))) (gathered_same g f n (λ i l. others i (λ s. omega arith)))
    ∙ sym (changed_same k v (f n) (gathered f n) e))
    (λ e.
    let t : seek (λ i. (f i).pair) k (suc n) ≡ seek (λ i. (f i).pair) k n = cond-false _ _ _ e in
    let u : seek (λ i. (f i).pair) k n ≡ Some b = sym t ∙ h in
    let w : b < n = subst (λ (x : Option ℕ). IfSome x (λ i. i < n)) u (seek_within (λ i. (f i).pair) k n) in
    ap (λ x. filed x (gathered g n)) (others n (λ s. omega arith))
    ∙ ap (filed (f n)) (changed_gathered f g k v b others here n u)
    ∙ sym (changed_other k v (f n) (gathered f n) e))
    (cases_Bool (same k (f n).pair))

-- a pair that is not held changes nothing
pub changed_absent : (k : Pair) (v : Rows → Rows) (fs : List Folder) → holds k fs ≡ false → changed k v fs ≡ fs
changed_absent k v [] h = refl
changed_absent k v (f ∷ fs) h = let p = or_parts (same k f.pair) (holds k fs) h in cond-false _ _ _ p.0 ∙ ap (λ l. f ∷ l) (changed_absent k v fs p.1)

-- a folder is made where its pair is not held
pub made_new : (k : Pair) (fs : List Folder) → holds k fs ≡ false → made k fs ≡ filed (empty_folder k) fs
made_new k [] h = refl
made_new k (f ∷ fs) h =
    let p = or_parts (same k f.pair) (holds k fs) h in
    cond-false _ _ _ p.0
    ∙ ap (λ l. cond (below k f.pair) (empty_folder k ∷ f ∷ fs) (f ∷ l)) (made_new k fs p.1)
    ∙ sym (cond-false (same k f.pair) (empty_folder k ∷ fs) _ p.0)

-- the first pair above another
pub next_none : (k : Pair) (fs : List Folder) → AllByRecursion (λ q. below k q ≡ false) (pairs_of fs) → next_pair k fs ≡ None
next_none k [] a = refl
next_none k (f ∷ fs) a = cond-false _ _ _ a.0 ∙ next_none k fs a.1

pub next_some : (k : Pair) (fs : List Folder) (at : ℕ) → at < length (pairs_of fs) → AllByRecursion (λ q. below k q ≡ false) (take at (pairs_of fs)) → below k (get_or (pairs_of fs) at lowest) ≡ true → next_pair k fs ≡ Some (get_or (pairs_of fs) at lowest)
next_some k [] at l a h = absurd (omega arith)
next_some k (f ∷ fs) zero l a h = cond-true _ _ _ h
next_some k (f ∷ fs) (suc n) l a h = cond-false _ _ _ a.0 ∙ next_some k fs n (omega arith) a.1 h

pub all_absent : (k : Pair) (fs : List Folder) → holds k fs ≡ false → AllByRecursion (λ q. same k q ≡ false) (pairs_of fs)
all_absent k [] h = tt
all_absent k (f ∷ fs) h = let p = or_parts (same k f.pair) (holds k fs) h in (p.0, all_absent k fs p.1)
