-- What a fault says is so: what stands before its place is the front of a well-formed file, and the command there has that cause.
use Rattle.std.proofs.Common.{◌≡◌, ℕ, zero, suc, List, [], ◌∷◌, ◌++◌, length, drop, replicate, Some, None, Err, Option, sym, refl, ap, ◌∙◌, subst, append_assoc, arith}
use Rattle.std.specs.List.{AllByRecursion}
use Rattle.std.proofs.ByRecursion.{All-append}
use Rattle.std.proofs.lemmas.List.{append-nil, length-append, length-replicate, take_at, drop_at}
use Rattle.commands.specs.declared.command.Command.{Command}
use Rattle.commands.specs.declared.command.Command.TheVariants.{Header, InstructionEnd}
use Rattle.commands.specs.declared.command.Source.TheVariants.{Agent}
use Rattle.commands.specs.declared.causes.Cause.{Cause}
use Rattle.commands.specs.declared.causes.Cause.TheVariants.{CutShort, OutOfPlace}
use Rattle.instructions.specs.declared.faults.FileFault.{FileFault}
use Rattle.instructions.specs.Files.{File, FileInstruction, change, due, fault_from, first_fault, file_of, commands_in, unless}
use Rattle.format.specs.Format.{Front, Whole, Caused, Faulty, Blames}
use Rattle.instructions.specs.Stages.{Stage, opening, between, within, closed, after}
use Rattle.format.specs.WellFormed.{InstructionInForm, InRange}
use Rattle.format.specs.Written.{command_bytes, all_bytes, body_commands}
use Rattle.format.proofs.Accepting.{fault_end, first_through, file_faultless, reached_fault}
use Rattle.format.proofs.CommandBytes.{command_written}
use Rattle.format.proofs.CommandCauses.{caused_unread, caused_misplaced}
use Rattle.format.proofs.CommandLists.{run, run_append, bytes_append, Stop, over, unread, misplaced, parsed}
use Rattle.format.proofs.FileCommands.{body_in_range, body_run, saying}
use Rattle.instructions.proofs.Onward.{misplaced_in, cause_there}
use Rattle.format.proofs.Steps.{never}

-- from any stage some commands lead to the end of the file
record Completed (stage : Stage) : Type 0 where
  pub commands : List Command
  pub range : AllByRecursion InRange commands
  pub reached : run stage commands ≡ Some closed

-- an instruction with no records
abbrev least : FileInstruction
least = change (record { system = 1; number = 1; day = 1 }) []

least_in_form : (n : ℕ) → AllByRecursion InstructionInForm (replicate n least)
least_in_form zero = tt
least_in_form (suc n) = ((record { system = omega arith; number = omega arith; day = omega arith }, tt, tt), least_in_form n)

completed_between : (left : ℕ) → Completed (between left)
completed_between left =
    let form = least_in_form left in
    record {
      commands = body_commands (replicate left least);
      range = body_in_range (replicate left least) form;
      reached = ap (λ n. run (between n) (body_commands (replicate left least))) (sym (length-replicate left least)) ∙ body_run (replicate left least) form;
    }

completed : (stage : Stage) → Completed stage
completed opening =
    let c = completed_between 1 in
    record {
      commands = Header (record { source = Agent 1; number = 1; count = 1 }) ∷ c.commands;
      range = (omega arith, c.range);
      reached = c.reached;
    }
completed (between left) = completed_between left
completed (within left before) = let c = completed_between left in record { commands = InstructionEnd ∷ c.commands; range = (tt, c.range); reached = c.reached }
completed closed = record { commands = []; range = tt; reached = refl }

-- a command that is due is cut short
due_short : (stage : Stage) (place : ℕ) (fault : FileFault) → due stage place ≡ Some fault → Some (record { cause = CutShort; place = place }) ≡ Some fault
due_short opening place fault e = e
due_short (between left) place fault e = e
due_short (within left before) place fault e = e
due_short closed place fault e = absurd (never fault e)

-- commands that the reader comes through
module _ (cs : List Command) (range : AllByRecursion InRange cs) (end : Stage) (reached : run opening cs ≡ Some end) where
  front_of : Front (all_bytes cs)
  front_of =
      let c = completed end in
      let s = saying (cs ++ c.commands) (All-append InRange cs c.commands range c.range) (run_append cs c.commands opening end closed reached c.reached) in
      (file_of (cs ++ c.commands), all_bytes c.commands, s.form, sym (bytes_append cs c.commands) ∙ ap all_bytes (sym s.commands))

  -- they are no whole file where a command is due behind them
  not_whole : (fault : FileFault) → due end (length (all_bytes cs)) ≡ Some fault → Whole (all_bytes cs) → ⊥
  not_whole fault e (f, w, p) =
      never fault
      (sym (file_faultless f w) ∙ ap first_fault (sym p ∙ sym (append-nil (all_bytes cs))) ∙ first_through cs [] end range reached ∙ fault_end (length (all_bytes cs)) end ∙ e)

  -- nor the front of one with a command that is out of place
  not_front : (c : Command) → InRange c → after end c ≡ None → Front (all_bytes cs ++ command_bytes c) → ⊥
  not_front c r a (f, rest, w, p) =
      never (record { cause = OutOfPlace; place = length (all_bytes cs) })
      (sym (file_faultless f w)
      ∙ ap first_fault (sym p ∙ append_assoc (all_bytes cs) (command_bytes c) rest)
      ∙ first_through cs (command_bytes c ++ rest) end range reached
      ∙ misplaced_in (length (all_bytes cs)) end (command_bytes c ++ rest) c (command_written c rest r) a)

  -- a fault behind them says what is so
  faulty_behind : (rest : List ℕ) (cause : Cause) → Caused cause (all_bytes cs) rest → Faulty (all_bytes cs ++ rest) (record { cause = cause; place = length (all_bytes cs) })
  faulty_behind rest cause h =
      let n = length (all_bytes cs) in
      let front = take_at (all_bytes cs) rest n refl in
      let back = drop_at (all_bytes cs) rest n refl in
      record {
        place = simp length-append (omega arith);
        front = subst Front (sym front) front_of;
        cause = subst (λ ys. Caused cause ys (drop n (all_bytes cs ++ rest))) (sym front) (subst (Caused cause (all_bytes cs)) (sym back) h);
      }

  faulty_at : (rest : List ℕ) (cause : Cause) (fault : FileFault) → Some (record { cause = cause; place = length (all_bytes cs) }) ≡ Some fault → Caused cause (all_bytes cs) rest → Faulty (all_bytes cs ++ rest) fault
  faulty_at rest cause fault e h =
      let same : record { cause = cause; place = length (all_bytes cs) } ≡ fault = cc in
      subst (Faulty (all_bytes cs ++ rest)) same (faulty_behind rest cause h)

  faulty_stop : (rest : List ℕ) (fault : FileFault) → Stop end rest → fault_from 0 (length (all_bytes cs)) end rest ≡ Some fault → Faulty (all_bytes cs ++ rest) fault
  faulty_stop rest fault (over none) e =
      let due-is = sym (fault_end (length (all_bytes cs)) end) ∙ ap (fault_from 0 (length (all_bytes cs)) end) (sym none) ∙ e in
      subst (λ ys. Faulty (all_bytes cs ++ ys) fault) (sym none)
      (faulty_at [] CutShort fault (due_short end (length (all_bytes cs)) fault due-is) (λ z. z, not_whole fault due-is))
  faulty_stop rest fault (unread cause some q) e =
      faulty_at rest cause fault (sym (cause_there (length (all_bytes cs)) end rest cause some q) ∙ e) (caused_unread (all_bytes cs) rest cause some q)
  faulty_stop rest fault (misplaced c q r a) e =
      faulty_at rest OutOfPlace fault (sym (misplaced_in (length (all_bytes cs)) end rest c q a) ∙ e) (caused_misplaced (all_bytes cs) rest c q r (not_front c r.range a))

unless_err : (o : Option FileFault) (f : File) (fault : FileFault) → unless o f ≡ Err fault → o ≡ Some fault
unless_err None f fault e = let z : ◌≡◌ {A = ℕ} 0 1 = cc in absurd (omega arith)
unless_err (Some g) f fault e = cc

pub blames : Blames
blames xs b fault e =
    let p = parsed xs opening b in
    let first = unless_err (first_fault xs) (file_of (commands_in xs)) fault e in
    subst (λ ys. Faulty ys fault) (sym p.bytes) (faulty_stop p.commands p.range p.end p.reached p.rest fault p.stop (sym (reached_fault xs p) ∙ first))
