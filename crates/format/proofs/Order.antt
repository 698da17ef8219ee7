-- The tests of the order of records and regimes, and what they decide.
use Rattle.std.proofs.Common.{◌≡◌, ℕ, true, ◌&&◌, eqb, ltb, List, [], ◌∷◌, get_or, Some, None, Decides, Option, sym, refl, ap, ◌∙◌}
use Rattle.std.proofs.lemmas.Bool.Decides.{Decides-ltb, Decides-eqb, Decides-and, Decides-or, Decides-like}
use Rattle.rows.specs.Kinds.{kinds, rank_of}
use Rattle.rows.specs.Rows.{kind_of_row, start_of_row}
use Rattle.fields.specs.Sets.{regimes_of}
use Rattle.rows.specs.declared.kinds.Kind.{Kind}
use Rattle.rows.specs.declared.kinds.Kind.TheVariants as kind
use Rattle.rows.specs.declared.row.Row.{Row}
use Rattle.rows.specs.declared.row.Row.TheVariants.{Registration, Appointment, Collector, Profile, Measurement, Energisation, LineLoss, Group, Advance, Estimate}
use Rattle.fields.proofs.AscentTests.{ascending_decides}
use Rattle.instructions.specs.Stages.{follows, regimes_ascend, order_of}
use Rattle.format.specs.WellFormed.{RegimesAscend, Before, InOrder}

-- a kind by its rank
ranked : (k : Kind) → get_or kinds (rank_of k) kind.Registration ≡ k
ranked kind.Registration = refl
ranked kind.Appointment = refl
ranked kind.Collector = refl
ranked kind.Profile = refl
ranked kind.Measurement = refl
ranked kind.Energisation = refl
ranked kind.LineLoss = refl
ranked kind.Group = refl
ranked kind.Advance = refl
ranked kind.Estimate = refl

same_kind_lem : (a b : Kind) → rank_of a ≡ rank_of b → a ≡ b
same_kind_lem a b e = sym (ranked a) ∙ ap (λ n. get_or kinds n kind.Registration) e ∙ ranked b

decides_before : (r s : Row) → Decides (follows (Some (order_of r)) (order_of s)) (Before r s)
decides_before r s =
    let a = kind_of_row r in
    let b = kind_of_row s in
    Decides-or (ltb (rank_of a) (rank_of b)) (eqb (rank_of a) (rank_of b) && ltb (start_of_row r) (start_of_row s)) (Decides-ltb (rank_of a) (rank_of b))
    (Decides-and (eqb (rank_of a) (rank_of b)) (ltb (start_of_row r) (start_of_row s)) (Decides-like (eqb (rank_of a) (rank_of b)) (same_kind_lem a b) (ap rank_of) (Decides-eqb (rank_of a) (rank_of b))) (Decides-ltb (start_of_row r) (start_of_row s)))

-- each record passes the test behind the one before it
abbrev pub Follows : Option (Kind × ℕ) → List Row → Type 0
Follows before [] = Unit {0}
Follows before (r ∷ rs) = (follows before (order_of r) ≡ true) × Follows (Some (order_of r)) rs

follows_behind : (r : Row) (rs : List Row) → InOrder (r ∷ rs) → Follows (Some (order_of r)) rs
follows_behind r [] h = tt
follows_behind r (s ∷ rs) h = ((decides_before r s).1 h.0, follows_behind s rs h.1)

pub follows_from_order : (rs : List Row) → InOrder rs → Follows None rs
follows_from_order [] h = tt
follows_from_order (r ∷ rs) h = (refl, follows_behind r rs h)

order_behind : (r : Row) (rs : List Row) → Follows (Some (order_of r)) rs → InOrder (r ∷ rs)
order_behind r [] h = tt
order_behind r (s ∷ rs) h = ((decides_before r s).0 h.0, order_behind s rs h.1)

pub order_from_follows : (rs : List Row) → Follows None rs → InOrder rs
order_from_follows [] h = tt
order_from_follows (r ∷ rs) h = order_behind r rs h.1

pub decides_regimes : (r : Row) → Decides (regimes_ascend r) (RegimesAscend r)
decides_regimes (Registration r) = (λ t. tt, λ t. refl)
decides_regimes (Appointment r) = (λ t. tt, λ t. refl)
decides_regimes (Collector r) = (λ t. tt, λ t. refl)
decides_regimes (Profile r) = (λ t. tt, λ t. refl)
decides_regimes (Measurement r) = (λ t. tt, λ t. refl)
decides_regimes (Energisation r) = (λ t. tt, λ t. refl)
decides_regimes (LineLoss r) = (λ t. tt, λ t. refl)
decides_regimes (Group r) = (λ t. tt, λ t. refl)
decides_regimes (Advance r) = ascending_decides (regimes_of r.set)
decides_regimes (Estimate r) = ascending_decides (regimes_of r.set)
