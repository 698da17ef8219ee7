-- The rows of a folder by kind, and what a row more or a cut makes of them.
use Rattle.std.specs.Prelude.{◌≡◌, ℕ, Bool, true, ◌&&◌, List, [], ◌∷◌, ◌++◌, map, length, nat_lt, slice_index_or}
use Rattle.register.specs.Folders.{Rows, with_kind, kept_rows, starts_after}
use Rattle.fields.specs.Ascent.{ascending}
use Rattle.rows.specs.Kinds.{rank_of, maximum_of}
use Rattle.rows.specs.Rows.{kind_of_row, start_of_row}
use Rattle.rows.specs.declared.kinds.Kind.{Kind}
use Rattle.rows.specs.declared.row.Row.{Row}
use Rattle.rows.specs.declared.row.Row.TheVariants.{Registration, Appointment, Collector, Profile, Measurement, Energisation, LineLoss, Group, Advance, Estimate}
use Rattle.blocks.specs.Wrapping.{wrapped}
use Rattle.blocks.specs.declared.contents.Contents.{Contents}

-- the rows of each kind, in the kinds' order
abbrev pub row_lists : Contents → List (List Row)
row_lists c =
    wrapped Registration c.registrations
    ∷ wrapped Appointment c.appointments
    ∷ wrapped Collector c.collectors
    ∷ wrapped Profile c.profiles
    ∷ wrapped Measurement c.measurements
    ∷ wrapped Energisation c.energisations
    ∷ wrapped LineLoss c.line_losses
    ∷ wrapped Group c.groups
    ∷ wrapped Advance c.advances
    ∷ wrapped Estimate c.estimates
    ∷ []

abbrev pub kind_rows : Contents → Rows
kind_rows c kind = slice_index_or (row_lists c) (rank_of kind) []

-- the rows of one kind that start before a day, and all rows of the others
abbrev pub cut_rows : Kind → ℕ → Rows → Rows
cut_rows kind day = with_kind kind (kept_rows day)

-- a row more behind the others of its kind
abbrev pub added_rows : Row → Rows → Rows
added_rows row = with_kind (kind_of_row row) (λ rs. rs ++ row ∷ [])

-- there are fewer rows of its kind than are kept at most, and it starts after the last
abbrev pub takes_row : Rows → Row → Bool
takes_row rows row = nat_lt (length (rows (kind_of_row row))) (maximum_of (kind_of_row row)) && starts_after (rows (kind_of_row row)) row

-- the starts of the rows of each kind ascend
abbrev pub StartsAscend : Contents → Type 0
StartsAscend c = (kind : Kind) → ascending (map start_of_row (kind_rows c kind)) ≡ true
