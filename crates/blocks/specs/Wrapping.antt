-- The rows of a window, as rows of any kind.
use Rattle.std.specs.Prelude.{ℕ, List, map}
use Rattle.rows.specs.declared.row.Row.{Row}
use Rattle.windows.specs.Windows.{rows_of}
use Rattle.windows.specs.declared.window.Window.{Window}

abbrev pub wrapped : {X : Type 0} {most : ℕ} → (X → Row) → Window X most → List Row
wrapped wrap window = map wrap (rows_of window)
