-- The ranges of an edition's fields. Where the width of a field already bounds it from above, only the
-- lower end is asked.
use Rattle.std.specs.Prelude.{◌≡◌, ℕ, ◌≤◌, true, ℤ, is_some, unsigned_abs}
use Rattle.fields.specs.Groups.{group_of}

-- the id of a supplier, a configuration or a regime: 1 to 65,535, in two bytes
abbrev pub Id : ℕ → Type 0
Id n = 1 ≤ n

-- how many regimes a configuration has: one to four
abbrev pub Few : ℕ → Type 0
Few n = (1 ≤ n) × (n ≤ 4)

-- a profile class: 1 to 16
abbrev pub Class : ℕ → Type 0
Class n = (1 ≤ n) × (n ≤ 16)

-- a GSP group by its letter: A to P without I and O
abbrev pub Group : ℕ → Type 0
Group letter = is_some (group_of letter) ≡ true

-- a settlement day: 1 to 60,000
abbrev pub Day : ℕ → Type 0
Day n = (1 ≤ n) × (n ≤ 60000)

-- a default: 2,000,000,000 at most, above or below zero
abbrev pub Value : ℤ → Type 0
Value v = unsigned_abs v ≤ 2000000000
