-- What a register means: its folders, ascending by pair, each with the rows of each kind.
use Rattle.std.specs.Prelude.{◌≡◌, ℕ, ◌<◌, ◌≤◌, Bool, true, false, cond, ◌&&◌, ◌||◌, ◌⊎◌, List, [], ◌∷◌, ◌++◌, map, length, take, Some, None, Option, ◌==◌, nat_lt, slice_index_or}
use Rattle.std.specs.List.{AllByRecursion}
use Rattle.fields.specs.Ascent.{Ascending}
use Rattle.rows.specs.Kinds.{rank_of, maximum_of}
use Rattle.rows.specs.Rows.{kind_of_row, start_of_row}
use Rattle.rows.specs.declared.kinds.Kind.{Kind}
use Rattle.rows.specs.declared.row.Row.{Row}
use Rattle.timeline.specs.Finding.{before}
use Rattle.register.specs.declared.pairs.Pair.{Pair}
use Rattle.register.specs.declared.systems.MeteringSystem.{MeteringSystem}
use Rattle.register.specs.Systems.{Numbered}

-- a view of a metering system
abbrev pub with_view : MeteringSystem → ℕ → Pair
with_view s v = record { system = s.number; view = v }

-- below every pair of a metering system
abbrev pub lowest : Pair
lowest = record { system = 0; view = 0 }

-- the rows of each kind
abbrev pub Rows : Type 0
Rows = Kind → List Row

-- what is held of one pair
pub record Folder : Type 0 where
  pub pair : Pair
  pub rows : Rows

-- one pair comes before another: its system is lower, or the same and its view is lower
abbrev pub Below : Pair → Pair → Type 0
Below p q = (p.system < q.system) ⊎ ((p.system ≡ q.system) × (p.view < q.view))

abbrev pub below : Pair → Pair → Bool
below p q = nat_lt p.system q.system || (p.system == q.system && nat_lt p.view q.view)

abbrev pub same : Pair → Pair → Bool
same p q = p.system == q.system && p.view == q.view

abbrev pub same_kind : Kind → Kind → Bool
same_kind k l = rank_of k == rank_of l

-- no row of any kind
abbrev pub no_rows : Rows
no_rows kind = []

-- the rows held of a pair; none where it is not held
abbrev pub rows_of : Pair → List Folder → Rows
rows_of p [] = no_rows
rows_of p (f ∷ fs) = cond (same p f.pair) f.rows (rows_of p fs)

abbrev pub holds : Pair → List Folder → Bool
holds p [] = false
holds p (f ∷ fs) = same p f.pair || holds p fs

-- the first pair above a given one
abbrev pub next_pair : Pair → List Folder → Option Pair
next_pair p [] = None
next_pair p (f ∷ fs) = cond (below p f.pair) (Some f.pair) (next_pair p fs)

-- an empty folder more, in its place; a pair that is held changes nothing
abbrev pub made : Pair → List Folder → List Folder
made p [] = record { pair = p; rows = no_rows } ∷ []
made p (f ∷ fs) =
    cond (same p f.pair) (f ∷ fs)
    (cond (below p f.pair) (record { pair = p; rows = no_rows } ∷ f ∷ fs) (f ∷ made p fs))

-- one kind's rows changed, and no other's
abbrev pub with_kind : Kind → (List Row → List Row) → Rows → Rows
with_kind kind change rows k = cond (same_kind k kind) (change (rows k)) (rows k)

-- one pair's folder changed, and no other
abbrev pub changed : Pair → (Rows → Rows) → List Folder → List Folder
changed p change [] = []
changed p change (f ∷ fs) = cond (same p f.pair) (record { pair = f.pair; rows = change f.rows } ∷ fs) (f ∷ changed p change fs)

-- the rows that start before the cut day
abbrev pub kept_rows : ℕ → List Row → List Row
kept_rows day rs = take (before day (map start_of_row rs)) rs

abbrev pub cut_folders : Pair → Kind → ℕ → List Folder → List Folder
cut_folders p kind day = changed p (with_kind kind (kept_rows day))

abbrev pub added_folders : Pair → Row → List Folder → List Folder
added_folders p r = changed p (with_kind (kind_of_row r) (λ rs. rs ++ r ∷ []))

-- the start is after that of the last row
abbrev pub starts_after : List Row → Row → Bool
starts_after [] r = true
starts_after (q ∷ []) r = nat_lt (start_of_row q) (start_of_row r)
starts_after (q ∷ p ∷ rs) r = starts_after (p ∷ rs) r

-- a row is added unless the folder is not held, the kind is full, or the start is not after the last
abbrev pub addable : Pair → Row → List Folder → Bool
addable p r fs =
    holds p fs
    && (nat_lt (length (rows_of p fs (kind_of_row r))) (maximum_of (kind_of_row r))
    && starts_after (rows_of p fs (kind_of_row r)) r)

-- a folder is made unless the pair is not held and all places are taken
abbrev pub makeable : ℕ → Pair → List Folder → Bool
makeable places p fs = holds p fs || nat_lt (length fs) places

-- facts of every register
-- the folders ascend by pair: of any two, the earlier is below the later
abbrev pub PairsAscend : List Folder → Type 0
PairsAscend fs = (i j : ℕ) (d : Folder) → i < j → j < length fs → Below (slice_index_or fs i d).pair (slice_index_or fs j d).pair

-- the rows of a kind are of that kind, their starts ascend, and they do not pass the kind's maximum
pub record KindInForm (kind : Kind) (rs : List Row) : Type 0 where
  pub kinds : AllByRecursion (λ r. kind_of_row r ≡ kind) rs
  pub starts : Ascending (map start_of_row rs)
  pub few : length rs ≤ maximum_of kind

abbrev pub FolderInForm : Folder → Type 0
FolderInForm f = (kind : Kind) → KindInForm kind (f.rows kind)

-- every folder is of a metering system: the same as `systems` below, place by place
abbrev pub Systems : List Folder → Type 0
Systems fs = (i : ℕ) (d : Folder) → i < length fs → Numbered (slice_index_or fs i d).pair.system

pub record InForm (places : ℕ) (fs : List Folder) : Type 0 where
  pub ascend : PairsAscend fs
  pub systems : AllByRecursion (λ f. Numbered f.pair.system) fs
  pub folders : AllByRecursion FolderInForm fs
  pub room : length fs ≤ places
