-- Letters that stand for something: a list of letters beside the list of what they stand for.
use Rattle.std.specs.Prelude.{ℕ, cond, List, [], ◌∷◌, Some, None, codes, Option, ◌==◌, slice_index}
use Prim.Native.String.{String}

-- the code of a letter
abbrev pub letter : String → ℕ
letter text = slice_index (codes text) 0

-- what the first letter of the list that equals this one stands for
abbrev pub meant : {X : Type 0} → ℕ → List ℕ → List X → Option X
meant code [] xs = None
meant code (c ∷ cs) [] = None
meant code (c ∷ cs) (x ∷ xs) = cond (code == c) (Some x) (meant code cs xs)
