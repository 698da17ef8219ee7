-- Places in a list: what stands first, before another, in order.
use Rattle.std.specs.Prelude.{ℕ, zero, suc, ◌<◌, Bool, cond, List, [], ◌∷◌, length, Some, None, Option, slice_index_or}
use Rattle.std.specs.List.{slice_get}

-- the first entry that passes a test
abbrev pub first : {X : Type 0} → (X → Bool) → List X → Option X
first test [] = None
first test (x ∷ xs) = cond (test x) (Some x) (first test xs)

-- what stands before a place
abbrev pub previous : {X : Type 0} → List X → ℕ → Option X
previous xs zero = None
previous xs (suc i) = slice_get xs i

-- of any two entries, the earlier is related so to the later
abbrev pub Ordered : {X : Type 0} → (X → X → Type 0) → List X → Type 0
Ordered {X} R xs = (i j : ℕ) (d : X) → i < j → j < length xs → R (slice_index_or xs i d) (slice_index_or xs j d)
