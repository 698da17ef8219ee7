-- When a list of sources may open a book, and what it answers of a source.
use Rattle.std.specs.Prelude.{ℕ, ◌<◌, ◌≤◌, List, length, slice_index_or}
use Rattle.sources.specs.declared.listed.Listed.{Listed}
use Rattle.sources.specs.declared.listed.Listed.TheVariants.{Collector}
use Rattle.sources.specs.declared.opening.OpeningFault.{OpeningFault}
use Rattle.sources.specs.declared.opening.OpeningFault.TheVariants.{TooMany, OutOfRange, Clashing}
use Rattle.sources.specs.Listings.{InRange, Clash}

-- the source at a place of the list
abbrev pub source_at : List Listed → ℕ → Listed
source_at ss i = slice_index_or ss i (Collector 0)

-- the source at a place clashes with none behind it, up to another place
abbrev pub NoneBehind : List Listed → ℕ → ℕ → Type 0
NoneBehind ss i end = (j : ℕ) → i < j → j < end → Clash (source_at ss i) (source_at ss j) → ⊥

-- no two places have sources that clash
abbrev pub Apart : List Listed → Type 0
Apart ss = (i : ℕ) → NoneBehind ss i (length ss)

abbrev pub AllInRange : List Listed → Type 0
AllInRange ss = (i : ℕ) → i < length ss → InRange (source_at ss i)

-- the lowest place of a source that is out of range
pub record FirstOutOfRange (ss : List Listed) (place : ℕ) : Type 0 where
  pub inside : place < length ss
  pub here : InRange (source_at ss place) → ⊥
  pub before : (i : ℕ) → i < place → InRange (source_at ss i)

-- the lowest place of a source that clashes with a later one, and the lowest place of such a one
pub record FirstClash (ss : List Listed) (first second : ℕ) : Type 0 where
  pub order : first < second
  pub inside : second < length ss
  pub here : Clash (source_at ss first) (source_at ss second)
  pub before : (i : ℕ) → i < first → NoneBehind ss i (length ss)
  pub between : NoneBehind ss first second

-- at most 128 sources, each in range, and no two that clash
pub record Lawful (ss : List Listed) : Type 0 where
  pub few : length ss ≤ 128
  pub ranges : AllInRange ss
  pub apart : Apart ss

-- the rule that is told to be broken, and where: the number first, then the lowest place out of range, then the first two that clash
abbrev pub Breaks : OpeningFault → List Listed → Type 0
Breaks TooMany ss = 128 < length ss
Breaks (OutOfRange place) ss = (length ss ≤ 128) × FirstOutOfRange ss place
Breaks (Clashing first second) ss = (length ss ≤ 128) × AllInRange ss × FirstClash ss first second
