-- Metering systems are the numbers from 1 to 9,999,999,999,999.
use Rattle.std.specs.Prelude.{ℕ, ◌≤◌}

abbrev pub Numbered : ℕ → Type 0
Numbered n = (1 ≤ n) × (n ≤ 9999999999999)
