-- The order of entries: by system, by view, the folder itself before its rows, by kind, by start.
use Rattle.std.specs.Prelude.{◌≡◌, ℕ, suc, Bool, true, false, ◌&&◌, ◌||◌, Some, None, Option, ◌==◌, nat_lt}
use Rattle.register.specs.declared.pairs.Pair.{Pair}
use Rattle.register.specs.Folders.{below, same}
use Rattle.rows.specs.Kinds.{rank_of}
use Rattle.rows.specs.Rows.{kind_of_row, start_of_row}
use Rattle.rows.specs.declared.row.Row.{Row}
use Rattle.ordered.specs.declared.entries.Entry.{Entry}
use Rattle.ordered.specs.declared.entries.Key.{Key}

-- 0 for the folder itself, then the kinds in their order
abbrev pub level_of : Option Row → ℕ
level_of None = 0
level_of (Some r) = suc (rank_of (kind_of_row r))

abbrev pub start_in : Option Row → ℕ
start_in None = 0
start_in (Some r) = start_of_row r

-- where an entry stands
abbrev pub key_of : Entry → Key
key_of e = record { pair = e.pair; level = level_of e.row; start = start_in e.row }

-- the lower number is earlier; of equal ones the rest decides
abbrev pub earlier : ℕ → ℕ → Bool → Bool
earlier m n rest = nat_lt m n || (m == n && rest)

-- the order within a pair: by level, by start
abbrev pub inner : ℕ → ℕ → ℕ → ℕ → Bool
inner level start level' start' = earlier level level' (nat_lt start start')

-- one key comes before another: by the pair, or within it
abbrev pub lower : Key → Key → Bool
lower k l = below k.pair l.pair || (same k.pair l.pair && inner k.level k.start l.level l.start)

-- a key of a pair
abbrev pub key_at : Pair → ℕ → ℕ → Key
key_at p level start = record { pair = p; level = level; start = start }

-- an entry stands before a key, or not
abbrev pub Before : Key → Entry → Type 0
Before k e = lower (key_of e) k ≡ true

abbrev pub NotBefore : Key → Entry → Type 0
NotBefore k e = lower (key_of e) k ≡ false
