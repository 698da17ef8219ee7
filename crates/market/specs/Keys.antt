-- Which combination is meant.
use Rattle.std.specs.Prelude.{ℕ, Bool, ◌&&◌, ◌==◌, nat_le}
use Rattle.market.specs.declared.edition.Combination.{Combination}
use Rattle.market.specs.declared.keys.Key.{Key}

-- the combination is of this configuration, profile class and group
abbrev pub is_of : Key → Combination → Bool
is_of key c = c.configuration == key.configuration && (c.class == key.class && c.group == key.group)

-- the day is not before its first, nor after its last
abbrev pub is_on : ℕ → Combination → Bool
is_on day c = nat_le c.first day && nat_le day c.last
