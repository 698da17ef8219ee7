-- The first fault from a place on, one command further.
use Rattle.std.proofs.Common.{◌≡◌, ℕ, zero, suc, ◌+◌, ◌-◌, ◌<◌, ◌≤◌, List, [], ◌∷◌, length, drop, Some, None, Ok, Err, Option, Result, sym, refl, ap, ◌∙◌, arith}
use Rattle.std.proofs.lemmas.List.{drop-drop, drop_all, length-drop}
use Rattle.commands.specs.declared.command.Command.{Command}
use Rattle.commands.specs.declared.command.Command.TheVariants.{Header, Instruction, Record, InstructionEnd, FileEnd}
use Rattle.commands.specs.declared.command.Header as headers
use Rattle.commands.specs.declared.causes.Cause.{Cause}
use Rattle.commands.specs.declared.causes.Cause.TheVariants.{CutShort, OutOfPlace}
use Rattle.instructions.specs.declared.faults.FileFault.{FileFault}
use Rattle.instructions.specs.declared.faults.ReaderFault.{ReaderFault}
use Rattle.commands.specs.Commands.{command_in, width_of}
use Rattle.instructions.specs.Faults.{in_instruction, in_file}
use Rattle.instructions.specs.Files.{File, fault_from, onward, due, first_fault, commands_from, commands_in, instructions_of, header_of, file_of, unless, read_file}
use Rattle.instructions.specs.Places.{located}
use Rattle.instructions.specs.Stages.{Stage, opening, between, within, closed, after}
use Rattle.commands.proofs.Widths.{width_within}

pub width_some : (c : Command) → 1 ≤ width_of c
width_some (Header h) = omega arith
width_some (Instruction h) = omega arith
width_some (Record r) = omega arith
width_some InstructionEnd = omega arith
width_some FileEnd = omega arith

-- operands are passed over
fault_skip : (k place : ℕ) (stage : Stage) (xs : List ℕ) → k ≤ length xs → fault_from k place stage xs ≡ fault_from 0 (place + k) stage (drop k xs)
unfolding fault_from
fault_skip zero place stage xs h = ap (λ n. fault_from 0 n stage xs) (let e : place ≡ place + 0 = omega arith in e)
fault_skip (suc k) place stage [] h = absurd (omega arith)
fault_skip (suc k) place stage (x ∷ xs) h =
    fault_skip k (place + 1) stage xs (omega arith)
    ∙ ap (λ n. fault_from 0 n stage (drop k xs)) (let e : (place + 1) + k ≡ place + suc k = omega arith in e)

-- what the stage after a command leads to
abbrev led : ℕ → List ℕ → ℕ → Option Stage → Option FileFault
led place xs width None = Some (record { cause = OutOfPlace; place = place })
led place xs width (Some next) = fault_from (width - 1) (place + 1) next xs

-- what the command at the front leads to
abbrev turned : ℕ → Stage → List ℕ → Result Command Cause → Option FileFault
turned place stage xs (Err cause) = Some (record { cause = cause; place = place })
turned place stage xs (Ok c) = led place xs (width_of c) (after stage c)

fault_turn : (place : ℕ) (stage : Stage) (x : ℕ) (xs : List ℕ) → fault_from 0 place stage (x ∷ xs) ≡ turned place stage xs (command_in (x ∷ xs))
unfolding fault_from
fault_turn place stage x xs = refl

-- a command in its place leads on
pub next_in : (place : ℕ) (stage : Stage) (xs : List ℕ) (c : Command) (next : Stage) → command_in xs ≡ Ok c → after stage c ≡ Some next → fault_from 0 place stage xs ≡ fault_from 0 (place + width_of c) next (drop (width_of c) xs)
next_in place stage [] c next e a = absurd (cc)
next_in place stage (x ∷ xs) c next e a =
    let some = width_some c in
    let fits = width_within (x ∷ xs) c e in
    let one : 1 + (width_of c - 1) ≡ width_of c = omega arith in
    fault_turn place stage x xs
    ∙ ap (turned place stage xs) e
    ∙ ap (led place xs (width_of c)) a
    ∙ fault_skip (width_of c - 1) (place + 1) next xs (omega arith)
    ∙ ap (λ n. fault_from 0 n next (drop (width_of c - 1) xs)) (let e : (place + 1) + (width_of c - 1) ≡ place + width_of c = omega arith in e)
    ∙ ap (fault_from 0 (place + width_of c) next) (drop-drop (width_of c - 1) 1 (x ∷ xs) ∙ ap (λ n. drop n (x ∷ xs)) one)

pub misplaced_in : (place : ℕ) (stage : Stage) (xs : List ℕ) (c : Command) → command_in xs ≡ Ok c → after stage c ≡ None → fault_from 0 place stage xs ≡ Some (record { cause = OutOfPlace; place = place })
misplaced_in place stage [] c e a = absurd (cc)
misplaced_in place stage (x ∷ xs) c e a = fault_turn place stage x xs ∙ ap (turned place stage xs) e ∙ ap (led place xs (width_of c)) a

-- a file that has not ended wants a command
abbrev pub Open : Stage → Type 0
Open opening = Unit {0}
Open (between left) = Unit {0}
Open (within left before) = Unit {0}
Open closed = ⊥

due_open : (stage : Stage) (place : ℕ) → Open stage → due stage place ≡ Some (record { cause = CutShort; place = place })
due_open opening place o = refl
due_open (between left) place o = refl
due_open (within left before) place o = refl
due_open closed place o = absurd o

same_cause : {c d : Cause} (place : ℕ) → ◌≡◌ {A = Result Command Cause} (Err c) (Err d) → ◌≡◌ {A = Option FileFault} (Some (record { cause = c; place = place })) (Some (record { cause = d; place = place }))
same_cause place e = let p : _ ≡ _ = cc in ap (λ (c : Cause). Some (record { cause = c; place = place })) p

cause_in : (place : ℕ) (stage : Stage) (xs : List ℕ) (cause : Cause) → Open stage → command_in xs ≡ Err cause → fault_from 0 place stage xs ≡ Some (record { cause = cause; place = place })
unfolding fault_from
cause_in place stage [] cause o e = due_open stage place o ∙ same_cause place e
cause_in place stage (x ∷ xs) cause o e = fault_turn place stage x xs ∙ ap (turned place stage xs) e

pub cause_there : (place : ℕ) (stage : Stage) (xs : List ℕ) (cause : Cause) → 0 < length xs → command_in xs ≡ Err cause → fault_from 0 place stage xs ≡ Some (record { cause = cause; place = place })
cause_there place stage [] cause h e = absurd (omega arith)
cause_there place stage (x ∷ xs) cause h e = fault_turn place stage x xs ∙ ap (turned place stage xs) e

module _ (xs : List ℕ) (place : ℕ) (stage : Stage) where
  pub onward_there : (cause : Cause) → place < length xs → command_in (drop place xs) ≡ Err cause → onward xs place stage ≡ Some (record { cause = cause; place = place })
  onward_there cause h = cause_there place stage (drop place xs) cause (rw length-drop (omega arith))

  pub onward_next : (c : Command) (next : Stage) → command_in (drop place xs) ≡ Ok c → after stage c ≡ Some next → onward xs place stage ≡ onward xs (place + width_of c) next
  onward_next c next e a = next_in place stage (drop place xs) c next e a ∙ ap (fault_from 0 (place + width_of c) next) (drop-drop (width_of c) place xs)

  pub onward_misplaced : (c : Command) → command_in (drop place xs) ≡ Ok c → after stage c ≡ None → onward xs place stage ≡ Some (record { cause = OutOfPlace; place = place })
  onward_misplaced c = misplaced_in place stage (drop place xs) c

  pub onward_cause : (cause : Cause) → Open stage → command_in (drop place xs) ≡ Err cause → onward xs place stage ≡ Some (record { cause = cause; place = place })
  onward_cause cause = cause_in place stage (drop place xs) cause

-- the same, from what a reader of the bytes answers
located_ok : (place : ℕ) (r : Result Command Cause) (c : Command) → Ok c ≡ located place r → r ≡ Ok c
located_ok place (Ok d) c e = let p : c ≡ d = cc in ap (λ (x : Command). Ok x) (sym p)
located_ok place (Err d) c e = absurd (cc)

located_err : (place : ℕ) (r : Result Command Cause) (f : ReaderFault) → Err f ≡ located place r → (d : Cause) × (r ≡ Err d) × (f ≡ record { cause = d; place = place })
located_err place (Ok c) f e = absurd (cc)
located_err place (Err d) f e = (d, refl, (cc))

module _ {ys xs : List ℕ} (same : ys ≡ xs) (place : ℕ) (stage : Stage) where
  pub read_next : {at : ℕ} (c : Command) (next : Stage) → Ok c ≡ located place (command_in (drop place ys)) → at ≡ place + width_of c → after stage c ≡ Some next → onward xs place stage ≡ onward xs at next
  read_next c next e moved a =
      onward_next xs place stage c next (ap (λ zs. command_in (drop place zs)) (sym same) ∙ located_ok place _ c e) a
      ∙ sym (ap (λ n. onward xs n next) moved)

  pub read_misplaced : (c : Command) → Ok c ≡ located place (command_in (drop place ys)) → after stage c ≡ None → onward xs place stage ≡ Some (record { cause = OutOfPlace; place = place })
  read_misplaced c e = onward_misplaced xs place stage c (ap (λ zs. command_in (drop place zs)) (sym same) ∙ located_ok place _ c e)

  pub read_there : (f : ReaderFault) → place < length xs → Err f ≡ located place (command_in (drop place ys)) → onward xs place stage ≡ Some (in_file (in_instruction f))
  read_there f h e =
      let l = located_err place _ f e in
      onward_there xs place stage l.0 h (ap (λ zs. command_in (drop place zs)) (sym same) ∙ l.1)
      ∙ sym (ap (λ (g : ReaderFault). Some (in_file (in_instruction g))) l.2)

  pub read_cause : (f : ReaderFault) → Open stage → Err f ≡ located place (command_in (drop place ys)) → onward xs place stage ≡ Some (in_file (in_instruction f))
  read_cause f o e =
      let l = located_err place _ f e in
      onward_cause xs place stage l.0 o (ap (λ zs. command_in (drop place zs)) (sym same) ∙ l.1)
      ∙ sym (ap (λ (g : ReaderFault). Some (in_file (in_instruction g))) l.2)

-- nothing stands behind the end
pub onward_end : (xs : List ℕ) (place : ℕ) → length xs ≤ place → onward xs place closed ≡ None
unfolding fault_from
onward_end xs place h = ap (fault_from 0 place closed) (drop_all place xs h)

-- what holds of the same bytes under another name
pub carried : {ys xs : List ℕ} → ys ≡ xs → (p q : ℕ) (s t : Stage) → onward ys p s ≡ onward ys q t → onward xs p s ≡ onward xs q t
carried same p q s t e = sym (ap (λ zs. onward zs p s) same) ∙ e ∙ ap (λ zs. onward zs q t) same

pub carried_fault : {ys xs : List ℕ} → ys ≡ xs → (p : ℕ) (s : Stage) (r : Option FileFault) → onward ys p s ≡ r → onward xs p s ≡ r
carried_fault same p s r e = sym (ap (λ zs. onward zs p s) same) ∙ e

abbrev read_on : List ℕ → Result Command Cause → List Command
read_on xs (Err cause) = []
read_on xs (Ok c) = c ∷ commands_from (width_of c - 1) xs

commands_turn : (x : ℕ) (xs : List ℕ) → commands_in (x ∷ xs) ≡ read_on xs (command_in (x ∷ xs))
unfolding commands_from
commands_turn x xs = refl

commands_skip : (k : ℕ) (xs : List ℕ) → k ≤ length xs → commands_from k xs ≡ commands_in (drop k xs)
unfolding commands_from
commands_skip zero xs h = refl
commands_skip (suc k) [] h = absurd (omega arith)
commands_skip (suc k) (x ∷ xs) h = commands_skip k xs (omega arith)

-- the command at the front, and those behind it
pub commands_next : (xs : List ℕ) (c : Command) → command_in xs ≡ Ok c → commands_in xs ≡ c ∷ commands_in (drop (width_of c) xs)
commands_next [] c e = absurd (cc)
commands_next (x ∷ xs) c e =
    let some = width_some c in
    let fits = width_within (x ∷ xs) c e in
    let one : 1 + (width_of c - 1) ≡ width_of c = omega arith in
    commands_turn x xs
    ∙ ap (read_on xs) e
    ∙ ap (λ cs. c ∷ cs) (commands_skip (width_of c - 1) xs (omega arith) ∙ ap commands_in (drop-drop (width_of c - 1) 1 (x ∷ xs) ∙ ap (λ n. drop n (x ∷ xs)) one))

pub commands_stop : (xs : List ℕ) (cause : Cause) → command_in xs ≡ Err cause → commands_in xs ≡ []
unfolding commands_from
commands_stop [] cause e = refl
commands_stop (x ∷ xs) cause e = commands_turn x xs ∙ ap (read_on xs) e

-- a file with no fault says what its commands say
pub read_whole : (xs : List ℕ) (h : headers.Header) → first_fault xs ≡ None → h ≡ header_of (commands_in xs) → ◌≡◌ {A = Result File FileFault} (Ok (record { source = h.source; number = h.number; instructions = instructions_of (commands_in xs) })) (read_file xs)
read_whole xs h f e =
    ap (λ (g : headers.Header). Ok (record { source = g.source; number = g.number; instructions = instructions_of (commands_in xs) })) e
    ∙ sym (ap (λ o. unless o (file_of (commands_in xs))) f)

pub read_first : (xs : List ℕ) (h : headers.Header) → command_in xs ≡ Ok (Header h) → h ≡ header_of (commands_in xs)
read_first xs h e = sym (ap header_of (commands_next xs (Header h) e))
