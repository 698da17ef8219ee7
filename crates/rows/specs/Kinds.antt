-- The kinds of row: their letters, and the order in which files and folders have them.
use Rattle.std.specs.Prelude.{ℕ, List, [], ◌∷◌, codes, Option}
use Rattle.fields.specs.Codes.{letter, meant}
use Rattle.rows.specs.declared.kinds.Kind.{Kind}
use Rattle.rows.specs.declared.kinds.Kind.TheVariants.{Registration, Appointment, Collector, Profile, Measurement, Energisation, LineLoss, Group, Advance, Estimate}

-- the kinds in their order
abbrev pub kinds : List Kind
kinds = Registration ∷ Appointment ∷ Collector ∷ Profile ∷ Measurement ∷ Energisation ∷ LineLoss ∷ Group ∷ Advance ∷ Estimate ∷ []

-- how many kinds come before this one
abbrev pub rank_of : Kind → ℕ
rank_of Registration = 0
rank_of Appointment = 1
rank_of Collector = 2
rank_of Profile = 3
rank_of Measurement = 4
rank_of Energisation = 5
rank_of LineLoss = 6
rank_of Group = 7
rank_of Advance = 8
rank_of Estimate = 9

abbrev pub letter_of : Kind → ℕ
letter_of Registration = letter "R"
letter_of Appointment = letter "A"
letter_of Collector = letter "K"
letter_of Profile = letter "P"
letter_of Measurement = letter "M"
letter_of Energisation = letter "E"
letter_of LineLoss = letter "L"
letter_of Group = letter "G"
letter_of Advance = letter "V"
letter_of Estimate = letter "Q"

abbrev pub kind_of : ℕ → Option Kind
kind_of code = meant code (codes "RAKPMELGVQ") kinds

-- how many rows of each kind of state are kept for a metering system at most
abbrev pub state_maximum : ℕ
state_maximum = 8

-- how many rows of a kind are kept for a metering system at most
abbrev pub maximum_of : Kind → ℕ
maximum_of Registration = state_maximum
maximum_of Appointment = 8
maximum_of Collector = state_maximum
maximum_of Profile = state_maximum
maximum_of Measurement = state_maximum
maximum_of Energisation = state_maximum
maximum_of LineLoss = state_maximum
maximum_of Group = state_maximum
maximum_of Advance = 16
maximum_of Estimate = 16
