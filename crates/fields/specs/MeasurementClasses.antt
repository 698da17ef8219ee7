-- Measurement class is a letter from A to D.
use Rattle.std.specs.Prelude.{ℕ, [], ◌∷◌, codes, Option}
use Rattle.fields.specs.Codes.{letter, meant}
use Rattle.fields.specs.declared.letters.MeasurementClass.{MeasurementClass}
use Rattle.fields.specs.declared.letters.MeasurementClass.TheVariants.{A, B, C, D}

abbrev pub class_letter : MeasurementClass → ℕ
class_letter A = letter "A"
class_letter B = letter "B"
class_letter C = letter "C"
class_letter D = letter "D"

abbrev pub class_of : ℕ → Option MeasurementClass
class_of code = meant code (codes "ABCD") (A ∷ B ∷ C ∷ D ∷ [])
