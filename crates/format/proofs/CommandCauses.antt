-- Why a command cannot be read: what the reader answers of it is what is so of the bytes there.
use Rattle.std.proofs.Common.{◌≡◌, ℕ, ◌+◌, ◌*◌, ◌<◌, ◌≤◌, List, [], ◌∷◌, ◌++◌, length, drop, Some, None, Ok, Err, Option, Result, sym, refl, ap, ◌∙◌, subst, inl, inr, ⊎_elim, arith}
use Rattle.std.specs.Option.{option_map}
use Rattle.std.proofs.lemmas.Bool.{cases_lt, cases_Bool, both_ways, cond-false, cond-true}
use Rattle.rows.specs.declared.kinds.Kind.TheVariants as kind
use Rattle.rows.specs.declared.row.Row.{Row}
use Rattle.rows.specs.declared.row.Row.TheVariants as row
use Rattle.commands.specs.declared.command.Command.{Command}
use Rattle.commands.specs.declared.command.Command.TheVariants.{InstructionEnd, FileEnd}
use Rattle.commands.specs.declared.command.Letter.{Letter}
use Rattle.commands.specs.declared.command.Letter.TheVariants as announced
use Rattle.commands.specs.declared.causes.Cause.{Cause}
use Rattle.commands.specs.declared.causes.Cause.TheVariants.{UnknownLetter, CutShort, OutOfRange, OutOfPlace}
use Rattle.commands.specs.Commands.{letter_of, whole, ranged, sought, listed, commanded, behind, known, command_in, width_of}
use Rattle.format.specs.Format.{Front, Regimes, Lacks, Unknown, Short, Outside, Caused}
use Rattle.commands.specs.Numbers.{byte}
use Rattle.commands.specs.Ranges.{is_set_size}
use Rattle.commands.specs.Records.{header, heading, supplier, collector, profile, measurement, energisation, line_loss, group, state, appointment, advance, estimate}
use Rattle.format.specs.WellFormed.{Between}
use Rattle.format.specs.Written.{command_bytes}
use Rattle.format.proofs.CommandBytes.{command_written, CommandRead}
use Rattle.format.proofs.RangeTests.{between_passes, between_holds}
use Rattle.format.proofs.Steps.{whole_is, whole_short}

-- operands are missing, or they are there and out of range, or they are read
data Outcome {X : Type 0} (Missing : Type 0) (r : Result X Cause) : Type 0 where
  short : Missing → r ≡ Err CutShort → Outcome Missing r
  outside : (Missing → ⊥) → r ≡ Err OutOfRange → Outcome Missing r
  read : (Missing → ⊥) → (x : X) → r ≡ Ok x → Outcome Missing r

ranged_outcome : {X : Type 0} (Missing : Type 0) (o : Option X) → (Missing → ⊥) → Outcome Missing (ranged o)
ranged_outcome Missing None h = outside h refl
ranged_outcome Missing (Some x) h = read h x refl

-- the same of an equal answer, and of a command made of it
outcome_of : {X : Type 0} (Missing : Type 0) (q r : Result X Cause) → q ≡ r → Outcome Missing r → Outcome Missing q
outcome_of Missing q r e (short m p) = short m (e ∙ p)
outcome_of Missing q r e (outside n p) = outside n (e ∙ p)
outcome_of Missing q r e (read n x p) = read n x (e ∙ p)

commanded_outcome : {X : Type 0} (Missing : Type 0) (f : X → Command) (r : Result X Cause) → Outcome Missing r → Outcome Missing (commanded f r)
commanded_outcome Missing f r (short m p) = short m (ap (commanded f) p)
commanded_outcome Missing f r (outside n p) = outside n (ap (commanded f) p)
commanded_outcome Missing f r (read n x p) = read n (f x) (ap (commanded f) p)

-- operands of fixed size
fixed_outcome : {X : Type 0} (n : ℕ) (xs : List ℕ) (o : Option X) → Outcome (length xs < n) (whole n xs (ranged o))
fixed_outcome n xs o =
    ⊎_elim
    (λ l. short l (whole_short n xs (ranged o) l))
    (λ h. outcome_of (length xs < n) (whole n xs (ranged o)) (ranged o) (whole_is n xs (ranged o) h) (ranged_outcome (length xs < n) o (λ l. omega arith)))
    (cases_lt (length xs) n)

-- and the readings of a set behind them, as many as the n says that stands at a place
module _ (xs : List ℕ) (at : ℕ) (o : Option Row) where
  readings_outcome : at + 1 ≤ length xs → Between 1 4 (byte xs at) → sought (byte xs at) (at + 1) xs ≡ whole (at + 1 + 6 * byte xs at) xs (Ok tt) → Outcome (Regimes at (at + 1) xs) (listed (sought (byte xs at) (at + 1) xs) o)
  readings_outcome h n e =
      ⊎_elim
      (λ l. short (inr (n, l)) (ap (λ q. listed q o) (e ∙ whole_short (at + 1 + 6 * byte xs at) xs (Ok tt) l)))
      (λ k. outcome_of _ (listed (sought (byte xs at) (at + 1) xs) o) (ranged o) (ap (λ q. listed q o) (e ∙ whole_is (at + 1 + 6 * byte xs at) xs (Ok tt) k)) (ranged_outcome _ o (⊎_elim (λ l. omega arith) (λ m. let l = m.1 in omega arith))))
      (cases_lt (length xs) (at + 1 + 6 * byte xs at))

  listed_outcome : at + 1 ≤ length xs → Outcome (Regimes at (at + 1) xs) (listed (sought (byte xs at) (at + 1) xs) o)
  listed_outcome h =
      ⊎_elim
      (λ t. readings_outcome h (between_holds 1 4 (byte xs at) t) (cond-true (is_set_size (byte xs at)) (whole (at + 1 + 6 * byte xs at) xs (Ok tt)) (Err OutOfRange) t))
      (λ f. outside (⊎_elim (λ l. omega arith) (λ m. both_ways (is_set_size (byte xs at)) f (between_passes 1 4 (byte xs at) m.0))) (ap (λ q. listed q o) (cond-false (is_set_size (byte xs at)) (whole (at + 1 + 6 * byte xs at) xs (Ok tt)) (Err OutOfRange) f)))
      (cases_Bool (is_set_size (byte xs at)))

  set_outcome : Outcome (Regimes at (at + 1) xs) (whole (at + 1) xs (listed (sought (byte xs at) (at + 1) xs) o))
  set_outcome =
      ⊎_elim
      (λ l. short (inl l) (whole_short (at + 1) xs (listed (sought (byte xs at) (at + 1) xs) o) l))
      (λ h. outcome_of _ _ (listed (sought (byte xs at) (at + 1) xs) o) (whole_is (at + 1) xs (listed (sought (byte xs at) (at + 1) xs) o) h) (listed_outcome h))
      (cases_lt (length xs) (at + 1))

-- what a letter announces
letter_outcome : (l : Letter) (xs : List ℕ) → Outcome (Lacks l xs) (behind l xs)
letter_outcome announced.Header xs = commanded_outcome (length xs < 9) _ _ (fixed_outcome 9 xs (header xs))
letter_outcome announced.Instruction xs = commanded_outcome (length xs < 14) _ _ (fixed_outcome 14 xs (heading xs))
letter_outcome (announced.Record kind.Registration) xs = commanded_outcome (length xs < 4) _ _ (fixed_outcome 4 xs (option_map (λ r. row.Registration r) (state supplier xs)))
letter_outcome (announced.Record kind.Appointment) xs = commanded_outcome (length xs < 4) _ _ (fixed_outcome 4 xs (option_map (λ r. row.Appointment r) (appointment xs)))
letter_outcome (announced.Record kind.Collector) xs = commanded_outcome (length xs < 4) _ _ (fixed_outcome 4 xs (option_map (λ r. row.Collector r) (state collector xs)))
letter_outcome (announced.Record kind.Profile) xs = commanded_outcome (length xs < 5) _ _ (fixed_outcome 5 xs (option_map (λ r. row.Profile r) (state profile xs)))
letter_outcome (announced.Record kind.Measurement) xs = commanded_outcome (length xs < 3) _ _ (fixed_outcome 3 xs (option_map (λ r. row.Measurement r) (state measurement xs)))
letter_outcome (announced.Record kind.Energisation) xs = commanded_outcome (length xs < 3) _ _ (fixed_outcome 3 xs (option_map (λ r. row.Energisation r) (state energisation xs)))
letter_outcome (announced.Record kind.LineLoss) xs = commanded_outcome (length xs < 4) _ _ (fixed_outcome 4 xs (option_map (λ r. row.LineLoss r) (state line_loss xs)))
letter_outcome (announced.Record kind.Group) xs = commanded_outcome (length xs < 3) _ _ (fixed_outcome 3 xs (option_map (λ r. row.Group r) (state group xs)))
letter_outcome (announced.Record kind.Advance) xs = commanded_outcome (Regimes 4 5 xs) _ _ (set_outcome xs 4 (option_map (λ r. row.Advance r) (advance xs)))
letter_outcome (announced.Record kind.Estimate) xs = commanded_outcome (Regimes 2 3 xs) _ _ (set_outcome xs 2 (option_map (λ r. row.Estimate r) (estimate xs)))
letter_outcome announced.InstructionEnd xs = read (λ z. z) InstructionEnd refl
letter_outcome announced.FileEnd xs = read (λ z. z) FileEnd refl

-- two answers that cannot both be
apart : (cause : Cause) (c : Command) → ◌≡◌ {A = Result Command Cause} (Err cause) (Ok c) → ⊥
apart cause c e = let z : ◌≡◌ {A = ℕ} 0 1 = cc in omega arith

same_cause : (a b : Cause) → ◌≡◌ {A = Result Command Cause} (Err a) (Err b) → a ≡ b
same_cause a b e = cc

outside_from : (rest : List ℕ) (cause : Cause) → command_in rest ≡ Err cause → Outside rest
outside_from rest cause e c tail range p = apart cause c (sym e ∙ ap command_in p ∙ command_written c tail range)

module _ (front : List ℕ) (x : ℕ) (xs : List ℕ) where
  not_unknown : (l : Letter) → letter_of x ≡ Some l → Unknown (x ∷ xs) → ⊥
  not_unknown l e u = let z : ◌≡◌ {A = ℕ} 0 1 = cc (sym e ∙ u) in omega arith

  not_short : (l : Letter) → letter_of x ≡ Some l → (Lacks l xs → ⊥) → Short front (x ∷ xs) → ⊥
  not_short l e h s = let q = s.1 in let same : s.0 ≡ l = cc (sym q ∙ e) in h (subst (λ m. Lacks m xs) same s.2)

  -- a command that is not read has the cause that is told
  caused_letter : (cause : Cause) → command_in (x ∷ xs) ≡ Err cause → (l : Letter) → letter_of x ≡ Some l → Outcome (Lacks l xs) (command_in (x ∷ xs)) → Caused cause front (x ∷ xs)
  caused_letter cause e l p (short m q) = subst (λ c. Caused c front (x ∷ xs)) (same_cause CutShort cause (sym q ∙ e)) (not_unknown l p, (l, p, m))
  caused_letter cause e l p (outside n q) = subst (λ c. Caused c front (x ∷ xs)) (same_cause OutOfRange cause (sym q ∙ e)) (not_unknown l p, not_short l p n, outside_from (x ∷ xs) OutOfRange q)
  caused_letter cause e l p (read n c q) = absurd (apart cause c (sym e ∙ q))

  caused_by : (cause : Cause) → command_in (x ∷ xs) ≡ Err cause → (o : Option Letter) → letter_of x ≡ o → Caused cause front (x ∷ xs)
  caused_by cause e None p = subst (λ c. Caused c front (x ∷ xs)) (same_cause UnknownLetter cause (sym (ap (λ o. known o xs) p) ∙ e)) p
  caused_by cause e (Some l) p = caused_letter cause e l p (outcome_of _ (command_in (x ∷ xs)) (behind l xs) (ap (λ o. known o xs) p) (letter_outcome l xs))

  -- a command that is read is neither unknown nor short
  placed_letter : (c : Command) → command_in (x ∷ xs) ≡ Ok c → (l : Letter) → letter_of x ≡ Some l → Outcome (Lacks l xs) (command_in (x ∷ xs)) → (Unknown (x ∷ xs) → ⊥) × (Short front (x ∷ xs) → ⊥)
  placed_letter c e l p (short m q) = absurd (apart CutShort c (sym q ∙ e))
  placed_letter c e l p (outside n q) = absurd (apart OutOfRange c (sym q ∙ e))
  placed_letter c e l p (read n d q) = (not_unknown l p, not_short l p n)

  placed_by : (c : Command) → command_in (x ∷ xs) ≡ Ok c → (o : Option Letter) → letter_of x ≡ o → (Unknown (x ∷ xs) → ⊥) × (Short front (x ∷ xs) → ⊥)
  placed_by c e None p = absurd (apart UnknownLetter c (sym (ap (λ o. known o xs) p) ∙ e))
  placed_by c e (Some l) p = placed_letter c e l p (outcome_of _ (command_in (x ∷ xs)) (behind l xs) (ap (λ o. known o xs) p) (letter_outcome l xs))

pub caused_unread : (front rest : List ℕ) (cause : Cause) → 1 ≤ length rest → command_in rest ≡ Err cause → Caused cause front rest
caused_unread front [] cause h e = absurd (omega arith)
caused_unread front (x ∷ xs) cause h e = caused_by front x xs cause e (letter_of x) refl

pub caused_misplaced : (front rest : List ℕ) (c : Command) → command_in rest ≡ Ok c → CommandRead rest c → (Front (front ++ command_bytes c) → ⊥) → Caused OutOfPlace front rest
caused_misplaced front [] c e r h = absurd (apart CutShort c e)
caused_misplaced front (x ∷ xs) c e r h =
    let p = placed_by front x xs c e (letter_of x) refl in
    let tail = drop (width_of c) (x ∷ xs) in
    (p.0, p.1, λ out. out c tail r.range (sym r.bytes), (c, tail, r.range, sym r.bytes, h))
