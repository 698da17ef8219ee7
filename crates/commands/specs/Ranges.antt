-- The ranges of operands. Where the width of an operand already bounds it from above, only the lower end is asked.
use Rattle.std.specs.Prelude.{ℕ, Bool, ◌&&◌, ℤ, nat_le, unsigned_abs}

-- an id of a source, a supplier, a configuration or a regime: 1 to 65,535, in two bytes
abbrev pub is_id : ℕ → Bool
is_id n = nat_le 1 n

-- a file's or an instruction's number: from 1 on, in four bytes
abbrev pub is_number : ℕ → Bool
is_number n = nat_le 1 n

-- how many instructions a file has: 1 to 256
abbrev pub is_count : ℕ → Bool
is_count n = nat_le 1 n && nat_le n 256

-- a metering system: 1 to 9,999,999,999,999
abbrev pub is_system : ℕ → Bool
is_system n = nat_le 1 n && nat_le n 9999999999999

-- the end of a span: 0 for none, or a day
abbrev pub is_end : ℕ → Bool
is_end n = nat_le n 60000

-- a profile class: 1 to 16
abbrev pub is_profile_class : ℕ → Bool
is_profile_class n = nat_le 1 n && nat_le n 16

-- a line loss class: 0 to 999
abbrev pub is_line_loss_class : ℕ → Bool
is_line_loss_class n = nat_le n 999

-- how many regimes a consumption set has: 1 to 4
abbrev pub is_set_size : ℕ → Bool
is_set_size n = nat_le 1 n && nat_le n 4

-- a consumption value, in tenths of a kWh a year: 2,000,000,000 at most, above or below zero
abbrev pub is_value : ℤ → Bool
is_value v = nat_le (unsigned_abs v) 2000000000

-- a regime with its value
abbrev pub is_reading : ℕ → ℤ → Bool
is_reading regime value = is_id regime && is_value value
