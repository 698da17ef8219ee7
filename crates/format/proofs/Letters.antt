-- Letters and what they stand for, there and back.
use Rattle.std.proofs.Common.{◌≡◌, ℕ, Bool, true, false, cond, eqb, List, [], ◌∷◌, map, Some, None, Option, sym, refl, ap, ◌∙◌, arith}
use Rattle.std.proofs.lemmas.Bool.{eqb-true}
use Rattle.fields.specs.Codes.{letter, meant}
use Rattle.fields.specs.Groups.{group_letter, group_of}
use Rattle.rows.specs.Kinds.{kind_of, kinds}
use Rattle.rows.specs.Kinds as kind
use Rattle.fields.specs.MeasurementClasses.{class_letter, class_of}
use Rattle.fields.specs.Statuses.{status_letter, status_of}
use Rattle.rows.specs.declared.kinds.Kind.{Kind}
use Rattle.rows.specs.declared.kinds.Kind.TheVariants.{Registration, Appointment, Collector, Profile, Measurement, Energisation, LineLoss, Group, Advance, Estimate}
use Rattle.fields.specs.declared.letters.Group as groups
use Rattle.fields.specs.declared.letters.Group.TheVariants as group
use Rattle.fields.specs.declared.letters.MeasurementClass as classes
use Rattle.fields.specs.declared.letters.MeasurementClass.TheVariants as class
use Rattle.fields.specs.declared.letters.Status as statuses
use Rattle.fields.specs.declared.letters.Status.TheVariants as status
use Rattle.commands.specs.declared.command.Letter.{Letter}
use Rattle.commands.specs.declared.command.Letter.TheVariants as announced
use Rattle.commands.specs.Commands.{letter_of, of_kind}

pub class_back : (c : classes.MeasurementClass) → class_of (class_letter c) ≡ Some c
class_back class.A = refl
class_back class.B = refl
class_back class.C = refl
class_back class.D = refl

pub status_back : (s : statuses.Status) → status_of (status_letter s) ≡ Some s
status_back status.DeEnergised = refl
status_back status.Energised = refl

pub group_back : (g : groups.Group) → group_of (group_letter g) ≡ Some g
group_back group.A = refl
group_back group.B = refl
group_back group.C = refl
group_back group.D = refl
group_back group.E = refl
group_back group.F = refl
group_back group.G = refl
group_back group.H = refl
group_back group.J = refl
group_back group.K = refl
group_back group.L = refl
group_back group.M = refl
group_back group.N = refl
group_back group.P = refl

-- either the first letter of a list is meant, or one behind it
choice : {X : Type 0} (f : X → ℕ) (code : ℕ) (b : Bool) (x y : X) (o : Option X) → (b ≡ true → f x ≡ code) → (o ≡ Some y → f y ≡ code) → cond b (Some x) o ≡ Some y → f y ≡ code
choice f code true x y o here on e = let same : x ≡ y = cc in ap f (sym same) ∙ here refl
choice f code false x y o here on e = on e

meant_by : {X : Type 0} (f : X → ℕ) (code : ℕ) (xs : List X) (y : X) → meant code (map f xs) xs ≡ Some y → f y ≡ code
meant_by f code [] y e = let z : ◌≡◌ {A = ℕ} 0 1 = cc in absurd (omega arith)
meant_by f code (x ∷ xs) y e = choice f code (eqb code (f x)) x y (meant code (map f xs) xs) (λ t. sym (eqb-true code (f x) t)) (meant_by f code xs y) e

module _ (code : ℕ) where
  pub class_letter_lem : (c : classes.MeasurementClass) → class_of code ≡ Some c → class_letter c ≡ code
  class_letter_lem c = meant_by class_letter code (class.A ∷ class.B ∷ class.C ∷ class.D ∷ []) c

  pub status_letter_lem : (s : statuses.Status) → status_of code ≡ Some s → status_letter s ≡ code
  status_letter_lem s = meant_by status_letter code (status.DeEnergised ∷ status.Energised ∷ []) s

  pub group_letter_lem : (g : groups.Group) → group_of code ≡ Some g → group_letter g ≡ code
  group_letter_lem g = meant_by group_letter code (group.A ∷ group.B ∷ group.C ∷ group.D ∷ group.E ∷ group.F ∷ group.G ∷ group.H ∷ group.J ∷ group.K ∷ group.L ∷ group.M ∷ group.N ∷ group.P ∷ []) g

-- the letter of a command
abbrev pub code_of : Letter → ℕ
code_of announced.Header = letter "H"
code_of announced.Instruction = letter "I"
code_of (announced.Record k) = kind.letter_of k
code_of announced.InstructionEnd = letter "Z"
code_of announced.FileEnd = letter "X"

pub record_back : (k : Kind) → letter_of (kind.letter_of k) ≡ Some (announced.Record k)
record_back Registration = refl
record_back Appointment = refl
record_back Collector = refl
record_back Profile = refl
record_back Measurement = refl
record_back Energisation = refl
record_back LineLoss = refl
record_back Group = refl
record_back Advance = refl
record_back Estimate = refl

kind_code : (code : ℕ) (o : Option Kind) → ((k : Kind) → o ≡ Some k → kind.letter_of k ≡ code) → (l : Letter) → of_kind o ≡ Some l → code_of l ≡ code
kind_code code None h l e = let z : ◌≡◌ {A = ℕ} 0 1 = cc in absurd (omega arith)
kind_code code (Some k) h l e = let same : announced.Record k ≡ l = cc in ap code_of (sym same) ∙ h k refl

pub letter_code : (code : ℕ) (l : Letter) → letter_of code ≡ Some l → code_of l ≡ code
letter_code code l =
    choice code_of code (eqb code (letter "H")) announced.Header l _ (λ t. sym (eqb-true code (letter "H") t))
    (choice code_of code (eqb code (letter "I")) announced.Instruction l _ (λ t. sym (eqb-true code (letter "I") t))
    (choice code_of code (eqb code (letter "Z")) announced.InstructionEnd l _ (λ t. sym (eqb-true code (letter "Z") t))
    (choice code_of code (eqb code (letter "X")) announced.FileEnd l _ (λ t. sym (eqb-true code (letter "X") t))
    (kind_code code (kind_of code) (λ k. meant_by kind.letter_of code kinds k) l))))
