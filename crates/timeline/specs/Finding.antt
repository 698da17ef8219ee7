-- Which of a list of rows is in effect on a day, and which are kept before a cut day.
-- Rows are of any type: `start` and `last` say their first and their last day.
use Rattle.std.specs.Prelude.{◌≡◌, ℕ, suc, ◌-◌, ◌<◌, ◌≤◌, Bool, cond, leb, List, [], ◌∷◌, map, length, take, Some, None, filter, Option, MatchOption, nat_le, nat_lt, slice_index, slice_index_or}
use Rattle.fields.specs.Ascent.{Ascending}
use Rattle.std.specs.List.{slice_get}

-- with one start more in front: a place moves one on, and where there was none it is the first if that start counts
abbrev pub further : Bool → Option ℕ → Option ℕ
further here (Some k) = Some (suc k)
further here None = cond here (Some 0) None

-- the place of the last start on or before the day
abbrev pub latest_on : ℕ → List ℕ → Option ℕ
latest_on day [] = None
latest_on day (s ∷ ss) = further (nat_le s day) (latest_on day ss)

-- the same in words: either every start is after the day, or the start at the place is not and every later one is
abbrev pub Latest : ℕ → List ℕ → Option ℕ → Type 0
Latest day starts r =
    MatchOption r
    ((k : ℕ) → k < length starts → day < slice_index starts k)
    (λ i. (i < length starts) × (slice_index starts i ≤ day) × ((k : ℕ) → i < k → k < length starts → day < slice_index starts k))

-- the first and the last day of a row
abbrev pub Term : Type 0
Term = ℕ × ℕ

abbrev pub term : {X : Type 0} → (X → ℕ) → (X → ℕ) → X → Term
term start last row = (start row, last row)

-- a place, unless the day is past the last day of the term there
abbrev pub unless_past : ℕ → List Term → Option ℕ → Option ℕ
unless_past day terms None = None
unless_past day terms (Some i) = cond (nat_le day (slice_index_or terms i (0, 0)).1) (Some i) None

-- the place of the row in effect on the day: of the latest, if it has not ended
abbrev pub in_effect : ℕ → List Term → Option ℕ
in_effect day terms = unless_past day terms (latest_on day (map (λ t. t.0) terms))

-- the row at a place
abbrev pub row_at : {X : Type 0} → List X → Option ℕ → Option X
row_at rows None = None
row_at rows (Some i) = slice_get rows i

-- the row in effect on the day
abbrev pub row_on : {X : Type 0} → (X → ℕ) → (X → ℕ) → ℕ → List X → Option X
row_on start last day rows = row_at rows (in_effect day (map (term start last) rows))

-- the rows that start on or before the day
abbrev pub started : {X : Type 0} → (X → ℕ) → ℕ → List X → List X
started start day = filter (λ row. leb (start row) day)

-- the row at the place depends only on the rows that start by the day: it is in effect among any others of which the same start by then
abbrev pub ByStarted : {X : Type 0} → (X → ℕ) → (X → ℕ) → ℕ → List X → Option ℕ → Type 0
ByStarted {X} start last day rows place = (others : List X) → started start day rows ≡ started start day others → row_at rows place ≡ row_on start last day others

-- how many starts stand before the first on or after the cut day
abbrev pub before : ℕ → List ℕ → ℕ
before cut [] = 0
before cut (s ∷ ss) = cond (nat_le cut s) 0 (suc (before cut ss))

-- where starts ascend, the first `count` rows are exactly those that start before the cut day
abbrev pub StartedBefore : {X : Type 0} → (X → ℕ) → ℕ → List X → ℕ → Type 0
StartedBefore start cut rows count = Ascending (map start rows) → take count rows ≡ filter (λ row. nat_lt (start row) cut) rows

-- behind the first `count` rows, the row starts after the one before it
abbrev pub StartsAfter : {X : Type 0} → (X → ℕ) → X → ℕ → List X → Type 0
StartsAfter start row count rows = 0 < count → slice_index (map start rows) (count - 1) < start row

-- the row can stand behind the first `count`: there is a place left, and it starts after the one before it
abbrev pub Follows : {X : Type 0} → (X → ℕ) → X → ℕ → List X → Type 0
Follows start row count rows = (count < length rows) × StartsAfter start row count rows
