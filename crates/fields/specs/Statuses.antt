-- Energisation status is the letter D or E.
use Rattle.std.specs.Prelude.{ℕ, [], ◌∷◌, codes, Option}
use Rattle.fields.specs.Codes.{letter, meant}
use Rattle.fields.specs.declared.letters.Status.{Status}
use Rattle.fields.specs.declared.letters.Status.TheVariants.{DeEnergised, Energised}

abbrev pub status_letter : Status → ℕ
status_letter DeEnergised = letter "D"
status_letter Energised = letter "E"

abbrev pub status_of : ℕ → Option Status
status_of code = meant code (codes "DE") (DeEnergised ∷ Energised ∷ [])
