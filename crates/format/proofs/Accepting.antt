-- The reader accepts exactly the writings of well-formed files.
use Rattle.std.proofs.Common.{◌≡◌, ℕ, List, [], ◌++◌, length, Some, None, Ok, Option, sym, refl, ap, ◌∙◌, subst, zero-add, arith}
use Rattle.std.specs.List.{AllByRecursion}
use Rattle.std.proofs.lemmas.List.{append-nil}
use Rattle.commands.specs.declared.command.Command.{Command}
use Rattle.instructions.specs.declared.faults.FileFault.{FileFault}
use Rattle.instructions.specs.Files.{File, due, fault_from, first_fault, commands_from, commands_in, file_of, unless, read_file}
use Rattle.format.specs.Format.{Bytes, Accepts}
use Rattle.instructions.specs.Stages.{Stage, opening, between, within, closed}
use Rattle.format.specs.WellFormed.{InRange, WellFormed}
use Rattle.format.specs.Written.{all_bytes, commands_of, written}
use Rattle.format.proofs.CommandLists.{run, fault_through, commands_through, Stop, over, unread, misplaced, Parsed, parsed}
use Rattle.format.proofs.FileCommands.{file_in_range, file_run, file_back, saying}
use Rattle.instructions.proofs.Onward.{misplaced_in, cause_there}
use Rattle.format.proofs.Steps.{never}

pub fault_end : (place : ℕ) (stage : Stage) → fault_from 0 place stage [] ≡ due stage place
unfolding fault_from
fault_end place stage = refl

commands_end : commands_from 0 [] ≡ []
unfolding commands_from
commands_end = refl

-- the first fault behind commands that the reader comes through
pub first_through : (cs : List Command) (rest : List ℕ) (end : Stage) → AllByRecursion InRange cs → run opening cs ≡ Some end → first_fault (all_bytes cs ++ rest) ≡ fault_from 0 (length (all_bytes cs)) end rest
first_through cs rest end range reached = fault_through cs rest 0 opening end range reached ∙ ap (λ n. fault_from 0 n end rest) (zero-add (length (all_bytes cs)))

-- the writing of a well-formed file has no fault
module _ (f : File) (w : WellFormed f) where
  pub file_faultless : first_fault (written f) ≡ None
  file_faultless =
      ap first_fault (sym (append-nil (written f)))
      ∙ first_through (commands_of f) [] closed (file_in_range f w) (file_run f w)
      ∙ fault_end (length (written f)) closed

  file_commands : commands_in (written f) ≡ commands_of f
  file_commands =
      ap commands_in (sym (append-nil (written f)))
      ∙ commands_through (commands_of f) [] (file_in_range f w)
      ∙ ap (λ cs. commands_of f ++ cs) commands_end
      ∙ append-nil (commands_of f)

  file_read : read_file (written f) ≡ Ok f
  file_read =
      ap (λ o. unless o (file_of (commands_in (written f)))) file_faultless
      ∙ ap (λ (cs : List Command). Ok (file_of cs)) file_commands
      ∙ ap (λ (g : File). Ok g) (file_back f)

-- and the first fault in any bytes
pub reached_fault : (xs : List ℕ) (p : Parsed opening xs) → first_fault xs ≡ fault_from 0 (length (all_bytes p.commands)) p.end p.rest
reached_fault xs p = ap first_fault p.bytes ∙ first_through p.commands p.rest p.end p.range p.reached

due_none : (stage : Stage) (place : ℕ) → due stage place ≡ None → stage ≡ closed
due_none opening place e = let z : ◌≡◌ {A = ℕ} 0 1 = cc in absurd (omega arith)
due_none (between left) place e = let z : ◌≡◌ {A = ℕ} 0 1 = cc in absurd (omega arith)
due_none (within left before) place e = let z : ◌≡◌ {A = ℕ} 0 1 = cc in absurd (omega arith)
due_none closed place e = refl

-- where bytes have no fault, they are over at the end of the file
stop_faultless : (place : ℕ) (end : Stage) (rest : List ℕ) → Stop end rest → fault_from 0 place end rest ≡ None → (rest ≡ []) × (end ≡ closed)
stop_faultless place end rest (over none) e = (none, due_none end place (sym (fault_end place end) ∙ ap (fault_from 0 place end) (sym none) ∙ e))
stop_faultless place end rest (unread cause some q) e = absurd (never _ (sym e ∙ cause_there place end rest cause some q))
stop_faultless place end rest (misplaced c q r a) e = absurd (never _ (sym e ∙ misplaced_in place end rest c q a))

unless_ok : (o : Option FileFault) (g f : File) → unless o g ≡ Ok f → (o ≡ None) × (g ≡ f)
unless_ok None g f e = (refl, (cc))
unless_ok (Some fault) g f e = let z : ◌≡◌ {A = ℕ} 0 1 = cc in absurd (omega arith)

accepted : (xs : List ℕ) (b : Bytes xs) (f : File) → read_file xs ≡ Ok f → WellFormed f × (xs ≡ written f)
accepted xs b f e =
    let u = unless_ok (first_fault xs) (file_of (commands_in xs)) f e in
    let p = parsed xs opening b in
    let cs = p.commands in
    let s = stop_faultless (length (all_bytes cs)) p.end p.rest p.stop (sym (reached_fault xs p) ∙ u.0) in
    let g = saying cs p.range (p.reached ∙ ap (λ (t : Stage). Some t) s.1) in
    let all : xs ≡ all_bytes cs = p.bytes ∙ ap (λ ys. all_bytes cs ++ ys) s.0 ∙ append-nil (all_bytes cs) in
    let whole : commands_in xs ≡ cs =
    ap commands_in (p.bytes ∙ ap (λ ys. all_bytes cs ++ ys) s.0) ∙ commands_through cs [] p.range ∙ ap (λ ds. cs ++ ds) commands_end ∙ append-nil cs in
    let file : file_of cs ≡ f = ap file_of (sym whole) ∙ u.1 in
    (subst WellFormed file g.form, all ∙ ap all_bytes (sym g.commands) ∙ ap written file)

pub accepts : Accepts
accepts xs b f = (accepted xs b f, λ w e. ap read_file e ∙ file_read f w)
