-- Settlement days are the numbers from 1 to 60,000.
use Rattle.std.specs.Prelude.{ℕ, Bool, cond, ◌&&◌, ◌==◌, nat_le}

abbrev pub is_day : ℕ → Bool
is_day n = nat_le 1 n && nat_le n 60000

-- the last day of a span that was sent with this end: an end of 0 means no end
abbrev pub last_day : ℕ → ℕ
last_day end = cond (end == 0) 60000 end
