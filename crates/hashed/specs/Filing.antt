-- Folders that are put one by one into an ascending list.
use Rattle.std.specs.Prelude.{ℕ, zero, suc, cond, List, [], ◌∷◌}
use Rattle.register.specs.Folders.{Folder, same, below}

-- a folder in its place, in the stead of one of its pair
abbrev pub filed : Folder → List Folder → List Folder
filed f [] = f ∷ []
filed f (g ∷ gs) =
    cond (same f.pair g.pair) (f ∷ gs)
    (cond (below f.pair g.pair) (f ∷ g ∷ gs) (g ∷ filed f gs))

-- the first n of these folders, filed
abbrev pub gathered : (ℕ → Folder) → ℕ → List Folder
gathered f zero = []
gathered f (suc n) = filed (f n) (gathered f n)
