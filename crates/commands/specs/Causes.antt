-- The causes by their numbers.
use Rattle.std.specs.Prelude.{ℕ}
use Rattle.commands.specs.declared.causes.Cause.{Cause}
use Rattle.commands.specs.declared.causes.Cause.TheVariants.{UnknownLetter, CutShort, OutOfRange, OutOfPlace}

abbrev pub cause_number : Cause → ℕ
cause_number UnknownLetter = 1
cause_number CutShort = 2
cause_number OutOfRange = 3
cause_number OutOfPlace = 4
