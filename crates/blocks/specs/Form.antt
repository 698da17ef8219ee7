-- The folder in a block is in form.
use Rattle.std.specs.Prelude.{◌≡◌, ℕ, ◌≤◌, List, [], ◌∷◌, map, length, refl}
use Rattle.std.proofs.Common.{arith}
use Rattle.std.specs.List.{AllByRecursion}
use Rattle.std.proofs.lemmas.List.{length-map, length-take}
use Rattle.register.specs.Folders.{FolderInForm}
use Rattle.fields.proofs.AscentTests.{ascending_decides}
use Rattle.rows.specs.Kinds.{maximum_of}
use Rattle.rows.specs.Rows.{kind_of_row, start_of_row}
use Rattle.rows.specs.declared.kinds.Kind.{Kind}
use Rattle.rows.specs.declared.kinds.Kind.TheVariants.{Registration, Appointment, Collector, Profile, Measurement, Energisation, LineLoss, Group, Advance, Estimate}
use Rattle.rows.specs.declared.row.Row.{Row}
use Rattle.rows.specs.declared.row.Row.TheVariants as row
use Rattle.windows.specs.Windows.{rows_of}
use Rattle.windows.specs.declared.window.Window.{Window}
use Rattle.blocks.specs.Block.{folder_of}
use Rattle.blocks.specs.Holding.{kind_rows}
use Rattle.blocks.specs.Wrapping.{wrapped}
use Rattle.blocks.specs.declared.block.Block.{Block}
use Rattle.blocks.specs.declared.contents.Contents.{Contents}

module _ {X : Type 0} (wrap : X → Row) (kind : Kind) (of-kind : (x : X) → kind_of_row (wrap x) ≡ kind) where
  all_of_kind : (xs : List X) → AllByRecursion (λ r. kind_of_row r ≡ kind) (map wrap xs)
  all_of_kind [] = tt
  all_of_kind (x ∷ xs) = (of-kind x, all_of_kind xs)

  few_rows : {most : ℕ} (window : Window X most) → length (wrapped wrap window) ≤ most
  few_rows window = omega (arith, length-map (rows_of window) wrap, length-take window.count window.rows, window.within)

kinds_in : (c : Contents) (kind : Kind) → AllByRecursion (λ r. kind_of_row r ≡ kind) (kind_rows c kind)
kinds_in c Registration = all_of_kind row.Registration Registration (λ x. refl) (rows_of c.registrations)
kinds_in c Appointment = all_of_kind row.Appointment Appointment (λ x. refl) (rows_of c.appointments)
kinds_in c Collector = all_of_kind row.Collector Collector (λ x. refl) (rows_of c.collectors)
kinds_in c Profile = all_of_kind row.Profile Profile (λ x. refl) (rows_of c.profiles)
kinds_in c Measurement = all_of_kind row.Measurement Measurement (λ x. refl) (rows_of c.measurements)
kinds_in c Energisation = all_of_kind row.Energisation Energisation (λ x. refl) (rows_of c.energisations)
kinds_in c LineLoss = all_of_kind row.LineLoss LineLoss (λ x. refl) (rows_of c.line_losses)
kinds_in c Group = all_of_kind row.Group Group (λ x. refl) (rows_of c.groups)
kinds_in c Advance = all_of_kind row.Advance Advance (λ x. refl) (rows_of c.advances)
kinds_in c Estimate = all_of_kind row.Estimate Estimate (λ x. refl) (rows_of c.estimates)

few_in : (c : Contents) (kind : Kind) → length (kind_rows c kind) ≤ maximum_of kind
few_in c Registration = few_rows row.Registration Registration (λ x. refl) c.registrations
few_in c Appointment = few_rows row.Appointment Appointment (λ x. refl) c.appointments
few_in c Collector = few_rows row.Collector Collector (λ x. refl) c.collectors
few_in c Profile = few_rows row.Profile Profile (λ x. refl) c.profiles
few_in c Measurement = few_rows row.Measurement Measurement (λ x. refl) c.measurements
few_in c Energisation = few_rows row.Energisation Energisation (λ x. refl) c.energisations
few_in c LineLoss = few_rows row.LineLoss LineLoss (λ x. refl) c.line_losses
few_in c Group = few_rows row.Group Group (λ x. refl) c.groups
few_in c Advance = few_rows row.Advance Advance (λ x. refl) c.advances
few_in c Estimate = few_rows row.Estimate Estimate (λ x. refl) c.estimates

pub folder_in_form : (b : Block) → FolderInForm (folder_of b)
folder_in_form b kind = record {
  kinds = kinds_in b.contents kind;
  starts = (ascending_decides (map start_of_row (kind_rows b.contents kind))).0 (b.ascend kind);
  few = few_in b.contents kind;
}
