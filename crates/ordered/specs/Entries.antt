-- What the used entries mean: the folders that they are.
use Rattle.std.specs.Prelude.{◌≡◌, ℕ, suc, ◌+◌, ◌≤◌, Bool, true, false, cond, ◌&&◌, ◌||◌, List, [], ◌∷◌, length, take, drop, Some, None, sum_by, Option}
use Rattle.std.specs.List.{insert, AllByRecursion}
use Rattle.register.specs.declared.pairs.Pair.{Pair}
use Rattle.register.specs.Folders.{Rows, Folder, same, same_kind, no_rows, rows_of}
use Rattle.rows.specs.Kinds.{kinds, rank_of, maximum_of}
use Rattle.rows.specs.Rows.{kind_of_row}
use Rattle.rows.specs.declared.kinds.Kind.{Kind}
use Rattle.rows.specs.declared.row.Row.{Row}
use Rattle.ordered.specs.declared.entries.Entry.{Entry}
use Rattle.ordered.specs.Keys.{key_of, lower, key_at, Before, NotBefore}

-- a row more, in front of its kind
abbrev pub with_row : Row → Rows → Rows
with_row r rows kind = cond (same_kind kind (kind_of_row r)) (r ∷ rows kind) (rows kind)

-- an entry in front of rows: a folder's own ends what came before
abbrev pub led : Option Row → Rows → Rows
led None rows = no_rows
led (Some r) rows = with_row r rows

-- the rows up to the next folder
abbrev pub leading : List Entry → Rows
leading [] = no_rows
leading (e ∷ es) = led e.row (leading es)

-- an entry in front of folders: its own opens one
abbrev pub opened : Option Row → Folder → List Folder → List Folder
opened None f fs = f ∷ fs
opened (Some r) f fs = fs

-- the folders, each with the rows behind it
abbrev pub folders_of : List Entry → List Folder
folders_of [] = []
folders_of (e ∷ es) = opened e.row (record { pair = e.pair; rows = leading es }) (folders_of es)

abbrev pub is_folder : Option Row → Bool
is_folder None = true
is_folder (Some r) = false

-- an entry may stand right behind another: it is above it, and a folder or of the same pair
abbrev pub follows : Entry → Entry → Bool
follows e x = lower (key_of e) (key_of x) && (is_folder x.row || same x.pair e.pair)

abbrev pub in_order_from : Entry → List Entry → Bool
in_order_from e [] = true
in_order_from e (x ∷ xs) = follows e x && in_order_from x xs

-- the entries strictly ascend, and every row stands behind its folder
abbrev pub in_order : List Entry → Bool
in_order [] = true
in_order (e ∷ es) = is_folder e.row && in_order_from e es

-- no folder has more rows of a kind than the kind's maximum
abbrev pub Few : List Entry → Type 0
Few es = (pair : Pair) (kind : Kind) → length (rows_of pair (folders_of es) kind) ≤ maximum_of kind

-- how many entries a full folder has: its own, and of each kind as many rows as there may be
abbrev pub per_folder : ℕ
per_folder = suc (sum_by maximum_of kinds)

-- where the rows of a pair and a kind stand that start on or after a day: so many, from a place on
pub record Part (pair : Pair) (kind : Kind) (day : ℕ) (es : List Entry) (from count : ℕ) : Type 0 where
  pub within : from + count ≤ length es
  pub before : AllByRecursion (Before (key_at pair (suc (rank_of kind)) day)) (take from es)
  pub among : AllByRecursion (NotBefore (key_at pair (suc (rank_of kind)) day)) (take count (drop from es))
  pub upto : AllByRecursion (Before (key_at pair (suc (suc (rank_of kind))) 0)) (take count (drop from es))
  pub behind : AllByRecursion (NotBefore (key_at pair (suc (suc (rank_of kind))) 0)) (drop count (drop from es))

-- with an entry put in at a place the entries are still in order, and are then these folders
pub record Put (x : Entry) (es : List Entry) (at : ℕ) (after : List Folder) : Type 0 where
  pub within : at ≤ length es
  pub order : in_order (insert es at x) ≡ true
  pub folders : folders_of (insert es at x) ≡ after

-- the folders in lent memory: those of the entries used, which stand first
abbrev pub folders_in : List Entry → ℕ → List Folder
folders_in memory used = folders_of (take used memory)
