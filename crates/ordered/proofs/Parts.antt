-- The rows of a pair and a kind stand together.
use Rattle.std.proofs.Common.{◌≡◌, ℕ, zero, suc, ◌+◌, ◌<◌, ◌≤◌, Bool, true, false, cond, ◌&&◌, List, [], ◌∷◌, ◌++◌, length, get_or, take, drop, Some, None, Option, sym, refl, ap, ◌∙◌, subst, arith}
use Rattle.std.specs.List.{slice_get, AllByRecursion}
use Rattle.std.proofs.ByRecursion.{All-weaker, All-take}
use Rattle.std.proofs.lemmas.List.{append-nil, length-take-le, length-drop, take-append-drop}
use Rattle.std.proofs.lemmas.Option.{slice_get_past}
use Rattle.std.proofs.lemmas.Bool.{both_ways, and_parts}
use Rattle.register.specs.declared.pairs.Pair.{Pair}
use Rattle.register.specs.Folders.{same, same_kind, rows_of}
use Rattle.rows.specs.Kinds.{rank_of}
use Rattle.rows.specs.Rows.{kind_of_row}
use Rattle.rows.specs.declared.kinds.Kind.{Kind}
use Rattle.rows.specs.declared.row.Row.{Row}
use Rattle.ordered.specs.declared.entries.Entry.{Entry}
use Rattle.ordered.specs.Keys.{start_in, key_at, Before, NotBefore}
use Rattle.ordered.specs.Entries.{folders_of, in_order, Part}
use Rattle.ordered.proofs.Meanings.{counted, rows_in, rows_are}
use Rattle.ordered.proofs.Probes.{of_kind, in_part, before_part, behind_part, within_part}

counted_append : (here : Bool) (k : Kind) (o : Option Row) (rs ss : List Row) → counted here k o (rs ++ ss) ≡ counted here k o rs ++ ss
counted_append here k None rs ss = refl
counted_append here k (Some r) rs ss = elim (here && same_kind k (kind_of_row r)) as (λ b. cond b (r ∷ rs ++ ss) (rs ++ ss) ≡ cond b (r ∷ rs) rs ++ ss) [ true ↦ refl | false ↦ refl ]

pub rows_in_append : (p : Pair) (k : Kind) (xs ys : List Entry) → rows_in p k (xs ++ ys) ≡ rows_in p k xs ++ rows_in p k ys
rows_in_append p k [] ys = refl
rows_in_append p k (x ∷ xs) ys = ap (counted (same p x.pair) k x.row) (rows_in_append p k xs ys) ∙ counted_append (same p x.pair) k x.row (rows_in p k xs) (rows_in p k ys)

-- an entry outside the part does not count, and one inside does
outside : (here : Bool) (k : Kind) (o : Option Row) (rs : List Row) → (here && of_kind k o) ≡ false → counted here k o rs ≡ rs
outside here k None rs h = refl
outside here k (Some r) rs h = ap (λ b. cond b (r ∷ rs) rs) h

pub none_in : (p : Pair) (k : Kind) (xs : List Entry) → AllByRecursion (λ e. in_part p k e ≡ false) xs → rows_in p k xs ≡ []
none_in p k [] h = refl
none_in p k (x ∷ xs) h = outside (same p x.pair) k x.row (rows_in p k xs) h.0 ∙ none_in p k xs h.1

inside_length : (here : Bool) (k : Kind) (o : Option Row) (rs : List Row) → (here && of_kind k o) ≡ true → length (counted here k o rs) ≡ suc (length rs)
inside_length here k None rs h = absurd (both_ways false refl (and_parts here false h).1)
inside_length here k (Some r) rs h = ap (λ b. length (cond b (r ∷ rs) rs)) h

pub all_in_length : (p : Pair) (k : Kind) (xs : List Entry) → AllByRecursion (λ e. in_part p k e ≡ true) xs → length (rows_in p k xs) ≡ length xs
all_in_length p k [] h = refl
all_in_length p k (x ∷ xs) h = inside_length (same p x.pair) k x.row (rows_in p k xs) h.0 ∙ ap suc (all_in_length p k xs h.1)

inside_first : (here : Bool) (k : Kind) (o : Option Row) (rs : List Row) → (here && of_kind k o) ≡ true → slice_get (counted here k o rs) 0 ≡ o
inside_first here k None rs h = absurd (both_ways false refl (and_parts here false h).1)
inside_first here k (Some r) rs h = ap (λ b. slice_get (cond b (r ∷ rs) rs) 0) h

inside_rest : (here : Bool) (k : Kind) (o : Option Row) (rs : List Row) (i : ℕ) → (here && of_kind k o) ≡ true → slice_get (counted here k o rs) (suc i) ≡ slice_get rs i
inside_rest here k None rs i h = absurd (both_ways false refl (and_parts here false h).1)
inside_rest here k (Some r) rs i h = ap (λ b. slice_get (cond b (r ∷ rs) rs) (suc i)) h

pub all_in_nth : (p : Pair) (k : Kind) (xs : List Entry) (i : ℕ) (d : Entry) → AllByRecursion (λ e. in_part p k e ≡ true) xs → i < length xs → slice_get (rows_in p k xs) i ≡ (get_or xs i d).row
all_in_nth p k [] i d h l = absurd (omega arith)
all_in_nth p k (x ∷ xs) zero d h l = inside_first (same p x.pair) k x.row (rows_in p k xs) h.0
all_in_nth p k (x ∷ xs) (suc i) d h l = inside_rest (same p x.pair) k x.row (rows_in p k xs) i h.0 ∙ all_in_nth p k xs i d h.1 (omega arith)

both_all : {X : Type 0} (P Q R : X → Type 0) → ((x : X) → P x → Q x → R x) → (xs : List X) → AllByRecursion P xs → AllByRecursion Q xs → AllByRecursion R xs
both_all P Q R f [] a b = tt
both_all P Q R f (x ∷ xs) a b = (f x a.0 b.0, both_all P Q R f xs a.1 b.1)

module _ (p : Pair) (k : Kind) (day : ℕ) (xs : List Entry) (from count : ℕ) (part : Part p k day xs from count) where
  abbrev pub mid : List Entry
  mid = take count (drop from xs)

  pub part_all : AllByRecursion (λ e. in_part p k e ≡ true) mid
  part_all = both_all (NotBefore (key_at p (suc (rank_of k)) day)) (Before (key_at p (suc (suc (rank_of k))) 0)) (λ e. in_part p k e ≡ true) (λ e g h. (within_part p k e day g h).0) mid part.among part.upto

  pub part_late : AllByRecursion (λ e. day ≤ start_in e.row) mid
  part_late = both_all (NotBefore (key_at p (suc (rank_of k)) day)) (Before (key_at p (suc (suc (rank_of k))) 0)) (λ e. day ≤ start_in e.row) (λ e g h. (within_part p k e day g h).1) mid part.among part.upto

  pub none_behind_part : rows_in p k (drop count (drop from xs)) ≡ []
  none_behind_part = none_in p k (drop count (drop from xs)) (All-weaker (NotBefore (key_at p (suc (suc (rank_of k))) 0)) (λ e. in_part p k e ≡ false) (λ e h. behind_part p k e h) (drop count (drop from xs)) part.behind)

  -- the entries in three parts
  pub thirds : take from xs ++ (mid ++ drop count (drop from xs)) ≡ xs
  thirds = ap (λ l. take from xs ++ l) (take-append-drop count (drop from xs)) ∙ take-append-drop from xs

  pub length_mid : length mid ≡ count
  length_mid = length-take-le count (drop from xs) (omega (arith, part.within, length-drop from xs))

  pub rows_split : rows_in p k xs ≡ rows_in p k (take from xs) ++ rows_in p k mid
  rows_split =
      ap (rows_in p k) (sym thirds)
      ∙ rows_in_append p k (take from xs) (mid ++ drop count (drop from xs))
      ∙ ap (λ l. rows_in p k (take from xs) ++ l) (rows_in_append p k mid (drop count (drop from xs)) ∙ ap (λ l. rows_in p k mid ++ l) none_behind_part ∙ append-nil (rows_in p k mid))

module _ (p : Pair) (k : Kind) (xs : List Entry) (from count : ℕ) (part : Part p k 0 xs from count) where
  pub none_before_part : rows_in p k (take from xs) ≡ []
  none_before_part = none_in p k (take from xs) (All-weaker (Before (key_at p (suc (rank_of k)) 0)) (λ e. in_part p k e ≡ false) (λ e h. before_part p k e h) (take from xs) part.before)

  pub rows_mid : rows_in p k xs ≡ rows_in p k (take count (drop from xs))
  rows_mid = rows_split p k 0 xs from count part ∙ ap (λ l. l ++ rows_in p k (take count (drop from xs))) none_before_part

  module _ (h : in_order xs ≡ true) where
    pub count_is : count ≡ length (rows_of p (folders_of xs) k)
    count_is =
        sym (length_mid p k 0 xs from count part)
        ∙ sym (all_in_length p k (take count (drop from xs)) (part_all p k 0 xs from count part))
        ∙ ap length (sym (rows_are p k xs h ∙ rows_mid))

    -- as the code reads the part
    pub read_is : (i : ℕ) (e : Entry) → i < length (take count (drop from xs)) → e ≡ get_or (take count (drop from xs)) i e → e.row ≡ slice_get (rows_of p (folders_of xs) k) i
    read_is i e l is =
        ap (λ x. x.row) is
        ∙ sym (all_in_nth p k (take count (drop from xs)) i e (part_all p k 0 xs from count part) l)
        ∙ ap (λ rs. slice_get rs i) (sym (rows_are p k xs h ∙ rows_mid))

    pub read_none : (i : ℕ) → length (take count (drop from xs)) ≤ i → None ≡ slice_get (rows_of p (folders_of xs) k) i
    read_none i l = sym (slice_get_past (rows_of p (folders_of xs) k) i (omega (arith, count_is, length_mid p k 0 xs from count part)))

-- what two searches find: the part's first place, and among the entries from there on how many it has
pub parted : (p : Pair) (k : Kind) (day : ℕ) (xs : List Entry) (from count level : ℕ) → level ≡ suc (rank_of k) → from ≤ length xs → AllByRecursion (Before (key_at p level day)) (take from xs) → AllByRecursion (NotBefore (key_at p level day)) (drop from xs) → count ≤ length (drop from xs) → AllByRecursion (Before (key_at p (level + 1) 0)) (take count (drop from xs)) → AllByRecursion (NotBefore (key_at p (level + 1) 0)) (drop count (drop from xs)) → Part p k day xs from count
parted p k day xs from count level e within before behind few upto past =
    let next : level + 1 ≡ suc (suc (rank_of k)) = omega arith in
    record {
      within = omega (arith, few, length-drop from xs);
      before = subst (λ (n : ℕ). AllByRecursion (Before (key_at p n day)) (take from xs)) e before;
      among = All-take (NotBefore (key_at p (suc (rank_of k)) day)) count (drop from xs) (subst (λ (n : ℕ). AllByRecursion (NotBefore (key_at p n day)) (drop from xs)) e behind);
      upto = subst (λ (n : ℕ). AllByRecursion (Before (key_at p n 0)) (take count (drop from xs))) next upto;
      behind = subst (λ (n : ℕ). AllByRecursion (NotBefore (key_at p n 0)) (drop count (drop from xs))) next past;
    }
