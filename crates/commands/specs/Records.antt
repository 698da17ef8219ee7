-- What the operands behind a letter say, if each is in its range.
use Rattle.std.specs.Prelude.{ℕ, zero, suc, ◌+◌, ◌*◌, Bool, cond, ◌&&◌, List, ℤ, Some, None, Option, ◌==◌}
use Rattle.std.specs.Bool.{then_some}
use Rattle.fields.specs.Codes.{letter}
use Rattle.fields.specs.Days.{is_day}
use Rattle.fields.specs.Groups.{group_of}
use Rattle.fields.specs.MeasurementClasses.{class_of}
use Rattle.fields.specs.Sets.{empty_set, pushed}
use Rattle.fields.specs.Statuses.{status_of}
use Rattle.fields.specs.declared.consumption.ConsumptionSet.{ConsumptionSet}
use Rattle.fields.specs.declared.letters.Group.{Group}
use Rattle.fields.specs.declared.letters.MeasurementClass.{MeasurementClass}
use Rattle.fields.specs.declared.letters.Status.{Status}
use Rattle.fields.specs.declared.states.Collector.{Collector}
use Rattle.fields.specs.declared.states.LineLossClass.{LineLossClass}
use Rattle.fields.specs.declared.states.Profile.{Profile}
use Rattle.fields.specs.declared.states.Supplier.{Supplier}
use Rattle.rows.specs.declared.row.Advance.{Advance}
use Rattle.rows.specs.declared.row.Appointment.{Appointment}
use Rattle.rows.specs.declared.row.Estimate.{Estimate}
use Rattle.rows.specs.declared.row.State.{State}
use Rattle.commands.specs.declared.command.Source.{Source}
use Rattle.commands.specs.declared.command.Source.TheVariants as source
use Rattle.commands.specs.declared.command.Header.{Header}
use Rattle.commands.specs.declared.command.Heading.{Heading}
use Rattle.commands.specs.Numbers.{byte, word, long, huge, signed}
use Rattle.commands.specs.Ranges.{is_id, is_number, is_count, is_system, is_end, is_profile_class, is_line_loss_class, is_reading}

-- what is made of something, if it is there and a test holds
abbrev pub made : {X Y : Type 0} → Bool → (X → Y) → Option X → Option Y
made test f None = None
made test f (Some x) = then_some test (f x)

-- S with its id is an agent, C with its id a collector
abbrev pub source_of : ℕ → ℕ → Option Source
source_of code id = cond (code == (letter "S")) (Some (source.Agent id)) (cond (code == (letter "C")) (Some (source.Collector id)) None)

-- H: letter 1, id 2, file number 4, count 2
abbrev pub header : List ℕ → Option Header
header xs =
    made (is_id (word xs 1) && is_number (long xs 3) && is_count (word xs 7))
    (λ s. record { source = s; number = long xs 3; count = word xs 7 })
    (source_of (byte xs 0) (word xs 1))

-- I: system 8, number 4, significant day 2
abbrev pub heading : List ℕ → Option Heading
heading xs =
    then_some (is_system (huge xs 0) && is_number (long xs 8) && is_day (word xs 12))
    (record { system = huge xs 0; number = long xs 8; day = word xs 12 })

-- what a state row says behind its start
-- R: supplier 2
abbrev pub supplier : List ℕ → Option Supplier
supplier xs = then_some (is_id (word xs 2)) (record { id = word xs 2 })

-- K: collector 2
abbrev pub collector : List ℕ → Option Collector
collector xs = then_some (is_id (word xs 2)) (record { id = word xs 2 })

-- P: class 1, configuration 2
abbrev pub profile : List ℕ → Option Profile
profile xs = then_some (is_profile_class (byte xs 2) && is_id (word xs 3)) (record { class = byte xs 2; configuration = word xs 3 })

-- M: letter 1
abbrev pub measurement : List ℕ → Option MeasurementClass
measurement xs = class_of (byte xs 2)

-- E: letter 1
abbrev pub energisation : List ℕ → Option Status
energisation xs = status_of (byte xs 2)

-- L: class 2
abbrev pub line_loss : List ℕ → Option LineLossClass
line_loss xs = then_some (is_line_loss_class (word xs 2)) (record { number = word xs 2 })

-- G: letter 1
abbrev pub group : List ℕ → Option Group
group xs = group_of (byte xs 2)

-- a state row: start 2, and then what holds from it on
abbrev pub state : {V : Type 0} → (List ℕ → Option V) → List ℕ → Option (State V)
state said xs = made (is_day (word xs 0)) (λ v. record { start = word xs 0; value = v }) (said xs)

-- A: start 2, end 2
abbrev pub appointment : List ℕ → Option Appointment
appointment xs = then_some (is_day (word xs 0) && is_end (word xs 2)) (record { start = word xs 0; end = word xs 2 })

-- one regime more in a set, if regime and value are in range
abbrev pub with_regime : Option ConsumptionSet → ℕ → ℤ → Option ConsumptionSet
with_regime set regime value = made (is_reading regime value) (λ s. pushed s regime value) set

-- n regimes with their values, from a place on: regime 2, value 4, and the next
abbrev pub sets : ℕ → List ℕ → ℕ → Option ConsumptionSet
sets zero xs i = Some empty_set
sets (suc n) xs i = with_regime (sets n xs i) (word xs (i + 6 * n)) (signed xs (i + 6 * n + 2))

-- V: start 2, end 2, n 1, then n regimes
abbrev pub advance : List ℕ → Option Advance
advance xs =
    made (is_day (word xs 0) && is_end (word xs 2))
    (λ s. record { start = word xs 0; end = word xs 2; set = s })
    (sets (byte xs 4) xs 5)

-- Q: start 2, n 1, then n regimes
abbrev pub estimate : List ℕ → Option Estimate
estimate xs = made (is_day (word xs 0)) (λ s. record { start = word xs 0; set = s }) (sets (byte xs 2) xs 3)
