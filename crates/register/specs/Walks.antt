-- What a walk by the next pair has still to come to.
use Rattle.std.specs.Prelude.{cond, List, [], ◌∷◌, map, Some, None, Option}
use Rattle.register.specs.declared.pairs.Pair.{Pair}
use Rattle.register.specs.Folders.{Folder, below}

-- the folders above a pair
abbrev pub above : Pair → List Folder → List Folder
above p [] = []
above p (f ∷ fs) = cond (below p f.pair) (f ∷ above p fs) (above p fs)

abbrev pub pairs_of : List Folder → List Pair
pairs_of = map (λ f. f.pair)

-- a pair that was handed out, before those that are still to come; without one, none is to come
abbrev pub taken : {X : Type 0} → Option X → List X → List X
taken None xs = []
taken (Some x) xs = x ∷ xs
