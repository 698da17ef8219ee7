-- Lists of numbers that strictly ascend.
use Rattle.std.specs.Prelude.{ℕ, ◌<◌, Bool, true, ◌&&◌, List, [], ◌∷◌, length, nat_lt, slice_index}

-- each number of the list is above the one before it, the first above n
abbrev pub ascending_from : ℕ → List ℕ → Bool
ascending_from n [] = true
ascending_from n (m ∷ ms) = nat_lt n m && ascending_from m ms

abbrev pub ascending : List ℕ → Bool
ascending [] = true
ascending (n ∷ ns) = ascending_from n ns

-- of any two numbers of the list, the earlier is the smaller
abbrev pub Ascending : List ℕ → Type 0
Ascending ns = (i j : ℕ) → i < j → j < length ns → slice_index ns i < slice_index ns j
