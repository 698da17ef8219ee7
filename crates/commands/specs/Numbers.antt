-- Numbers in a list of bytes, most significant byte first.
use Rattle.std.specs.Prelude.{ℕ, ◌+◌, ◌*◌, List, ℤ, slice_index}
use Rattle.std.specs.Int.{w32}
use Rattle.std.proofs.Common.{to_z}

abbrev pub byte : List ℕ → ℕ → ℕ
byte xs i = slice_index xs i

-- two bytes
abbrev pub word : List ℕ → ℕ → ℕ
word xs i = 256 * byte xs i + byte xs (i + 1)

-- four bytes
abbrev pub long : List ℕ → ℕ → ℕ
long xs i = 65536 * word xs i + word xs (i + 2)

-- eight bytes
abbrev pub huge : List ℕ → ℕ → ℕ
huge xs i = 4294967296 * long xs i + long xs (i + 4)

-- four bytes in two's complement
abbrev pub signed : List ℕ → ℕ → ℤ
signed xs i = to_z w32 (long xs i)
