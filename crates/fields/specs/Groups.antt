-- A GSP group is a letter from A to P, without I and O.
use Rattle.std.specs.Prelude.{ℕ, [], ◌∷◌, codes, Option}
use Rattle.fields.specs.Codes.{letter, meant}
use Rattle.fields.specs.declared.letters.Group.{Group}
use Rattle.fields.specs.declared.letters.Group.TheVariants.{A, B, C, D, E, F, G, H, J, K, L, M, N, P}

abbrev pub group_letter : Group → ℕ
group_letter A = letter "A"
group_letter B = letter "B"
group_letter C = letter "C"
group_letter D = letter "D"
group_letter E = letter "E"
group_letter F = letter "F"
group_letter G = letter "G"
group_letter H = letter "H"
group_letter J = letter "J"
group_letter K = letter "K"
group_letter L = letter "L"
group_letter M = letter "M"
group_letter N = letter "N"
group_letter P = letter "P"

abbrev pub group_of : ℕ → Option Group
group_of code = meant code (codes "ABCDEFGHJKLMNP") (A ∷ B ∷ C ∷ D ∷ E ∷ F ∷ G ∷ H ∷ J ∷ K ∷ L ∷ M ∷ N ∷ P ∷ [])
