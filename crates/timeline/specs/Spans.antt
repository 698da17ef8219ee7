-- Days that spans have in common with a day or with each other.
use Rattle.std.specs.Prelude.{ℕ, ◌<◌, ◌≤◌, List, length, slice_index_or}
use Rattle.fields.specs.Days.{last_day}
use Rattle.timeline.specs.Finding.{Term}

-- the first and the last day of a span
abbrev pub span_term : {X : Type 0} → (X → ℕ) → (X → ℕ) → X → Term
span_term start end row = (start row, last_day (end row))

-- the day lies in the span
abbrev pub On : ℕ → Term → Type 0
On day span = (span.0 ≤ day) × (day ≤ span.1)

-- the span starts before the day and ends on or after it
abbrev pub Straddles : ℕ → Term → Type 0
Straddles day span = (span.0 < day) × (day ≤ span.1)

-- a day lies in both spans
abbrev pub Meet : Term → Term → Type 0
Meet s t = (day : ℕ) × On day s × On day t

-- a place has a span of which this holds
abbrev pub Somewhere : (Term → Type 0) → List Term → Type 0
Somewhere P spans = (i : ℕ) × (i < length spans) × P (slice_index_or spans i (0, 0))

-- a day lies in the spans at two places
abbrev pub Overlap : List Term → Type 0
Overlap spans = (i : ℕ) × (j : ℕ) × (i < j) × (j < length spans) × Meet (slice_index_or spans i (0, 0)) (slice_index_or spans j (0, 0))
