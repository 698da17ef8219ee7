-- Windows: the rows of one kind that are kept for a metering system, in as many places as are kept at most.
use Rattle.std.specs.Prelude.{ℕ, ◌<◌, List, length, take}
use Rattle.timeline.specs.Finding.{StartsAfter}
use Rattle.windows.specs.declared.window.Window.{Window}

-- the rows that a window has
abbrev pub rows_of : {X : Type 0} {most : ℕ} → Window X most → List X
rows_of window = take window.count window.rows

-- a row can be added behind these: there are fewer than are kept at most, and it starts after the last
abbrev pub Addable : {X : Type 0} → (X → ℕ) → ℕ → X → List X → Type 0
Addable start most row rows = (length rows < most) × StartsAfter start row (length rows) rows
