-- A command that can be read is there whole.
use Rattle.std.proofs.Common.{◌≡◌, ℕ, zero, suc, ◌+◌, ◌*◌, ◌<◌, ◌≤◌, leb, List, [], ◌∷◌, length, IfOk, Some, None, Ok, Err, Option, Result, sym, refl, ap, ◌∙◌, subst, arith}
use Rattle.std.specs.Option.{option_map}
use Rattle.std.proofs.lemmas.Bool.{and_parts, leb-true}
use Rattle.fields.specs.Sets.{empty_set}
use Rattle.rows.specs.Rows.{kind_of_row}
use Rattle.fields.specs.declared.consumption.ConsumptionSet.{ConsumptionSet}
use Rattle.rows.specs.declared.kinds.Kind.{Kind}
use Rattle.rows.specs.declared.kinds.Kind.TheVariants.{Registration, Appointment, Collector, Profile, Measurement, Energisation, LineLoss, Group, Advance, Estimate}
use Rattle.rows.specs.declared.row.Row.{Row}
use Rattle.rows.specs.declared.row.Row.TheVariants as row
use Rattle.fields.proofs.SetPaths.{pushed_room}
use Rattle.commands.specs.declared.command.Command.{Command}
use Rattle.commands.specs.declared.command.Command.TheVariants as command
use Rattle.commands.specs.declared.command.Header.{Header}
use Rattle.commands.specs.declared.command.Heading.{Heading}
use Rattle.commands.specs.declared.command.Letter.{Letter}
use Rattle.commands.specs.declared.command.Letter.TheVariants as announced
use Rattle.commands.specs.declared.causes.Cause.{Cause}
use Rattle.commands.specs.declared.causes.Cause.TheVariants.{OutOfRange}
use Rattle.commands.specs.Numbers.{byte, word, signed}
use Rattle.commands.specs.Ranges.{is_set_size}
use Rattle.commands.specs.Records.{header, heading, supplier, collector, profile, measurement, energisation, line_loss, group, state, appointment, sets, advance, estimate}
use Rattle.commands.specs.Commands.{ranged, sought, listed, stated, record_of, letter_of, known, behind, command_in, fixed_size, set_size, width_of}
use Rattle.commands.proofs.Inversions.{made_some, mapped_ok, cond_ok, whole_ok, commanded_ok}

-- a set of n regimes counts n
pub sets_count : (n : ℕ) (xs : List ℕ) (i : ℕ) (s : ConsumptionSet) → n ≤ 4 → sets n xs i ≡ Some s → s.count ≡ n
sets_count zero xs i s h e = let p : s ≡ empty_set = cc in ap (λ (t : ConsumptionSet). t.count) p
sets_count (suc n) xs i s h e =
    let m = made_some _ _ (sets n xs i) s e in
    let c = sets_count n xs i m.0 (omega arith) m.1 in
    let room : m.0.count < 4 = omega arith in
    let p = ap (λ (t : ConsumptionSet). t.count) (sym m.3 ∙ pushed_room m.0 (word xs (i + 6 * n)) (signed xs (i + 6 * n + 2)) room) in
    omega arith

-- how many bytes a row's operands take
abbrev size : Row → ℕ
size r = fixed_size (kind_of_row r) + set_size r

mapped_size : {X : Type 0} (f : X → Row) (o : Option X) (r : Row) (n : ℕ) → ranged (option_map f o) ≡ Ok r → ((x : X) → o ≡ Some x → size (f x) ≤ n) → size r ≤ n
mapped_size f o r n e h = let m = mapped_ok f o r e in subst (λ y. size y ≤ n) m.2 (h m.0 m.1)

pub listed_ok : {X : Type 0} (t : Result (Unit {0}) Cause) (o : Option X) (x : X) → listed t o ≡ Ok x → (t ≡ Ok tt) × (ranged o ≡ Ok x)
listed_ok (Err d) o x e = absurd (cc)
listed_ok (Ok t) o x e = (refl, e)

-- the regimes are all there
listed_size : (k at : ℕ) (xs : List ℕ) (o : Option Row) (r : Row) → listed (sought (byte xs at) k xs) o ≡ Ok r → (byte xs at ≤ 4) × (k + 6 * byte xs at ≤ length xs) × (ranged o ≡ Ok r)
listed_size k at xs o r e =
    let g = listed_ok (sought (byte xs at) k xs) o r e in
    let f = cond_ok (is_set_size (byte xs at)) _ OutOfRange tt g.0 in
    let w = whole_ok (k + 6 * byte xs at) xs (Ok tt) tt f.1 in
    (leb-true (byte xs at) 4 (and_parts (leb 1 (byte xs at)) _ f.0).1, w.0, g.1)

stated_size : (kind : Kind) (xs : List ℕ) (r : Row) → fixed_size kind ≤ length xs → stated kind xs ≡ Ok r → size r ≤ length xs
stated_size Registration xs r h e = mapped_size (λ s. row.Registration s) (state supplier xs) r (length xs) e (λ s _. omega arith)
stated_size Appointment xs r h e = mapped_size (λ a. row.Appointment a) (appointment xs) r (length xs) e (λ a _. omega arith)
stated_size Collector xs r h e = mapped_size (λ s. row.Collector s) (state collector xs) r (length xs) e (λ s _. omega arith)
stated_size Profile xs r h e = mapped_size (λ s. row.Profile s) (state profile xs) r (length xs) e (λ s _. omega arith)
stated_size Measurement xs r h e = mapped_size (λ s. row.Measurement s) (state measurement xs) r (length xs) e (λ s _. omega arith)
stated_size Energisation xs r h e = mapped_size (λ s. row.Energisation s) (state energisation xs) r (length xs) e (λ s _. omega arith)
stated_size LineLoss xs r h e = mapped_size (λ s. row.LineLoss s) (state line_loss xs) r (length xs) e (λ s _. omega arith)
stated_size Group xs r h e = mapped_size (λ s. row.Group s) (state group xs) r (length xs) e (λ s _. omega arith)
stated_size Advance xs r h e =
    let l = listed_size 5 4 xs (option_map (λ a. row.Advance a) (advance xs)) r e in
    mapped_size (λ a. row.Advance a) (advance xs) r (length xs) l.2
    (λ a f. let m = made_some _ _ (sets (byte xs 4) xs 5) a f in let c = sets_count (byte xs 4) xs 5 m.0 l.0 m.1 in let d : a.set.count ≡ m.0.count = cc in omega (arith, l.1))
stated_size Estimate xs r h e =
    let l = listed_size 3 2 xs (option_map (λ q. row.Estimate q) (estimate xs)) r e in
    mapped_size (λ q. row.Estimate q) (estimate xs) r (length xs) l.2
    (λ q f. let m = made_some _ _ (sets (byte xs 2) xs 3) q f in let c = sets_count (byte xs 2) xs 3 m.0 l.0 m.1 in let d : q.set.count ≡ m.0.count = cc in omega (arith, l.1))

record_size : (kind : Kind) (xs : List ℕ) (r : Row) → record_of kind xs ≡ Ok r → size r ≤ length xs
record_size kind xs r e = let w = whole_ok (fixed_size kind) xs (stated kind xs) r e in stated_size kind xs r w.0 w.1

ok_same : {c d : Command} → ◌≡◌ {A = Result Command Cause} (Ok c) (Ok d) → c ≡ d
ok_same e = cc

behind_width : (l : Letter) (xs : List ℕ) (c : Command) → behind l xs ≡ Ok c → width_of c ≤ suc (length xs)
behind_width announced.Header xs c e =
    let m = commanded_ok (λ (h : Header). command.Header h) _ c e in
    let w = whole_ok 9 xs (ranged (header xs)) m.0 m.1 in
    subst (λ (d : Command). width_of d ≤ suc (length xs)) m.2 (omega arith)
behind_width announced.Instruction xs c e =
    let m = commanded_ok (λ (h : Heading). command.Instruction h) _ c e in
    let w = whole_ok 14 xs (ranged (heading xs)) m.0 m.1 in
    subst (λ (d : Command). width_of d ≤ suc (length xs)) m.2 (omega arith)
behind_width (announced.Record kind) xs c e =
    let m = commanded_ok (λ (r : Row). command.Record r) _ c e in
    let w = record_size kind xs m.0 m.1 in
    subst (λ (d : Command). width_of d ≤ suc (length xs)) m.2 (omega arith)
behind_width announced.InstructionEnd xs c e = subst (λ (d : Command). width_of d ≤ suc (length xs)) (ok_same e) (omega arith)
behind_width announced.FileEnd xs c e = subst (λ (d : Command). width_of d ≤ suc (length xs)) (ok_same e) (omega arith)

known_width : (o : Option Letter) (xs : List ℕ) (c : Command) → known o xs ≡ Ok c → width_of c ≤ suc (length xs)
known_width None xs c e = absurd (cc)
known_width (Some l) xs c e = behind_width l xs c e

pub width_within : (xs : List ℕ) (c : Command) → command_in xs ≡ Ok c → width_of c ≤ length xs
width_within [] c e = absurd (cc)
width_within (x ∷ xs) c e = known_width (letter_of x) xs c e

pub read_within : (xs : List ℕ) (r : Result Command Cause) → r ≡ command_in xs → IfOk r (λ c. width_of c ≤ length xs)
read_within xs (Ok c) e = width_within xs c (sym e)
read_within xs (Err d) e = tt
