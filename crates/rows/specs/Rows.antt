-- A row of any kind: its kind, its start, and the last day on which it can be in effect.
use Rattle.std.specs.Prelude.{◌≡◌, ℕ}
use Rattle.fields.specs.Days.{last_day}
use Rattle.rows.specs.declared.kinds.Kind.{Kind}
use Rattle.rows.specs.declared.kinds.Kind.TheVariants as kind
use Rattle.rows.specs.declared.row.Row.{Row}
use Rattle.rows.specs.declared.row.Row.TheVariants.{Registration, Appointment, Collector, Profile, Measurement, Energisation, LineLoss, Group, Advance, Estimate}

abbrev pub kind_of_row : Row → Kind
kind_of_row (Registration r) = kind.Registration
kind_of_row (Appointment r) = kind.Appointment
kind_of_row (Collector r) = kind.Collector
kind_of_row (Profile r) = kind.Profile
kind_of_row (Measurement r) = kind.Measurement
kind_of_row (Energisation r) = kind.Energisation
kind_of_row (LineLoss r) = kind.LineLoss
kind_of_row (Group r) = kind.Group
kind_of_row (Advance r) = kind.Advance
kind_of_row (Estimate r) = kind.Estimate

abbrev pub start_of_row : Row → ℕ
start_of_row (Registration r) = r.start
start_of_row (Appointment r) = r.start
start_of_row (Collector r) = r.start
start_of_row (Profile r) = r.start
start_of_row (Measurement r) = r.start
start_of_row (Energisation r) = r.start
start_of_row (LineLoss r) = r.start
start_of_row (Group r) = r.start
start_of_row (Advance r) = r.start
start_of_row (Estimate r) = r.start

-- only appointments and advances have an end
abbrev pub last_of_row : Row → ℕ
last_of_row (Registration r) = 60000
last_of_row (Appointment r) = last_day r.end
last_of_row (Collector r) = 60000
last_of_row (Profile r) = 60000
last_of_row (Measurement r) = 60000
last_of_row (Energisation r) = 60000
last_of_row (LineLoss r) = 60000
last_of_row (Group r) = 60000
last_of_row (Advance r) = last_day r.end
last_of_row (Estimate r) = 60000

-- among the rows of any kind: it is of this kind, starts on this day, and can be in effect until that one
abbrev pub Stands : Kind → ℕ → ℕ → Row → Type 0
Stands kind start last r = (kind_of_row r ≡ kind) × (start_of_row r ≡ start) × (last_of_row r ≡ last)
