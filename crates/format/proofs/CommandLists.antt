-- Lists of commands and their bytes: the reader goes through what is written of a list, and any bytes are what is written of a list up to the first fault.
use Rattle.std.proofs.Common.{◌≡◌, ℕ, zero, suc, ◌+◌, ◌<◌, ◌≤◌, List, [], ◌∷◌, ◌++◌, length, drop, Some, None, Ok, Err, Option, Result, sym, refl, ap, ◌∙◌, append_assoc, add-zero, arith}
use Rattle.std.specs.List.{AllByRecursion}
use Rattle.std.proofs.ByRecursion.{All-drop}
use Rattle.std.proofs.lemmas.List.{drop_at, length-append, length-drop}
use Rattle.commands.specs.declared.command.Command.{Command}
use Rattle.commands.specs.declared.causes.Cause.{Cause}
use Rattle.commands.specs.Commands.{command_in, width_of}
use Rattle.instructions.specs.Files.{fault_from, commands_from}
use Rattle.format.specs.Format.{Bytes}
use Rattle.instructions.specs.Stages.{Stage, after}
use Rattle.format.specs.WellFormed.{InRange}
use Rattle.format.specs.Written.{command_bytes, all_bytes}
use Rattle.format.proofs.CommandBytes.{command_length, command_written, CommandRead, command_read}
use Rattle.instructions.proofs.Onward.{width_some, next_in, commands_next}

-- the stage behind a list of commands
abbrev pub run : Stage → List Command → Option Stage
run stage [] = Some stage
run stage (c ∷ cs) = elim (after stage c) [ None ↦ None | Some next ↦ run next cs ]

-- the first of a list of commands
run_next : (o : Option Stage) (cs : List Command) (end : Stage) → ◌≡◌ {A = Option Stage} (elim o [ None ↦ None | Some next ↦ run next cs ]) (Some end) → (next : Stage) × (o ≡ Some next) × (run next cs ≡ Some end)
run_next None cs end e = let z : ◌≡◌ {A = ℕ} 0 1 = cc in absurd (omega arith)
run_next (Some next) cs end e = (next, refl, e)

pub run_first : (stage end : Stage) (c : Command) (cs : List Command) → run stage (c ∷ cs) ≡ Some end → (next : Stage) × (after stage c ≡ Some next) × (run next cs ≡ Some end)
run_first stage end c cs e = run_next (after stage c) cs end e

pub run_more : (stage next : Stage) (c : Command) (cs : List Command) → after stage c ≡ Some next → run stage (c ∷ cs) ≡ run next cs
run_more stage next c cs e = ap {A = Option Stage} {B = Option Stage} (λ o. elim o [ None ↦ None | Some s ↦ run s cs ]) e

pub run_append : (cs ds : List Command) (stage middle end : Stage) → run stage cs ≡ Some middle → run middle ds ≡ Some end → run stage (cs ++ ds) ≡ Some end
run_append [] ds stage middle end p q = let same : stage ≡ middle = cc in ap (λ s. run s ds) same ∙ q
run_append (c ∷ cs) ds stage middle end p q = let g = run_first stage middle c cs p in run_more stage g.0 c (cs ++ ds) g.1 ∙ run_append cs ds g.0 middle end g.2 q

pub bytes_append : (cs ds : List Command) → all_bytes (cs ++ ds) ≡ all_bytes cs ++ all_bytes ds
unfolding all_bytes
bytes_append [] ds = refl
bytes_append (c ∷ cs) ds = ap (λ ys. command_bytes c ++ ys) (bytes_append cs ds) ∙ sym (append_assoc (command_bytes c) (all_bytes cs) (all_bytes ds))

-- the first command of what is written
module _ (c : Command) (range : InRange c) (ys : List ℕ) where
  pub written_step : (place : ℕ) (stage next : Stage) → after stage c ≡ Some next → fault_from 0 place stage (command_bytes c ++ ys) ≡ fault_from 0 (place + width_of c) next ys
  written_step place stage next a =
      next_in place stage (command_bytes c ++ ys) c next (command_written c ys range) a
      ∙ ap (fault_from 0 (place + width_of c) next) (drop_at (command_bytes c) ys (width_of c) (command_length c))

  written_command : commands_from 0 (command_bytes c ++ ys) ≡ c ∷ commands_from 0 ys
  written_command =
      commands_next (command_bytes c ++ ys) c (command_written c ys range)
      ∙ ap (λ zs. c ∷ commands_from 0 zs) (drop_at (command_bytes c) ys (width_of c) (command_length c))

-- the reader comes through what is written of a list to the stage behind it
pub fault_through : (cs : List Command) (rest : List ℕ) (place : ℕ) (stage end : Stage) → AllByRecursion InRange cs → run stage cs ≡ Some end → fault_from 0 place stage (all_bytes cs ++ rest) ≡ fault_from 0 (place + length (all_bytes cs)) end rest
unfolding all_bytes
fault_through [] rest place stage end h e = let same : stage ≡ end = cc in ap (λ n. fault_from 0 n stage rest) (sym (add-zero place)) ∙ ap (λ s. fault_from 0 (place + 0) s rest) same
fault_through (c ∷ cs) rest place stage end h e =
    let g = run_first stage end c cs e in
    let n = command_length c in
    let p : place + width_of c + length (all_bytes cs) ≡ place + length (command_bytes c ++ all_bytes cs) = simp length-append (omega arith) in
    ap (fault_from 0 place stage) (append_assoc (command_bytes c) (all_bytes cs) rest)
    ∙ written_step c h.0 (all_bytes cs ++ rest) place stage g.0 g.1
    ∙ fault_through cs rest (place + width_of c) g.0 end h.1 g.2
    ∙ ap (λ k. fault_from 0 k end rest) p

-- and has the commands of the list in front
pub commands_through : (cs : List Command) (rest : List ℕ) → AllByRecursion InRange cs → commands_from 0 (all_bytes cs ++ rest) ≡ cs ++ commands_from 0 rest
unfolding all_bytes
commands_through [] rest h = refl
commands_through (c ∷ cs) rest h =
    ap (commands_from 0) (append_assoc (command_bytes c) (all_bytes cs) rest)
    ∙ written_command c h.0 (all_bytes cs ++ rest)
    ∙ ap (λ ds. c ∷ ds) (commands_through cs rest h.1)

-- why the reader goes no further
pub data Stop (end : Stage) (rest : List ℕ) : Type 0 where
  over : rest ≡ [] → Stop end rest
  unread : (cause : Cause) → 1 ≤ length rest → command_in rest ≡ Err cause → Stop end rest
  misplaced : (c : Command) → command_in rest ≡ Ok c → CommandRead rest c → after end c ≡ None → Stop end rest

-- any bytes are what is written of a list of commands, and a rest at which the reader stops
pub record Parsed (stage : Stage) (xs : List ℕ) : Type 0 where
  pub commands : List Command
  pub rest : List ℕ
  pub end : Stage
  pub bytes : xs ≡ all_bytes commands ++ rest
  pub range : AllByRecursion InRange commands
  pub reached : run stage commands ≡ Some end
  pub stop : Stop end rest

module _ (xs : List ℕ) (stage : Stage) where
  parsed_none : Stop stage xs → Parsed stage xs
  unfolding all_bytes
  parsed_none stop = record { commands = []; rest = xs; end = stage; bytes = refl; range = tt; reached = refl; stop = stop }

  parsed_more : (c : Command) (next : Stage) → CommandRead xs c → after stage c ≡ Some next → Parsed next (drop (width_of c) xs) → Parsed stage xs
  unfolding all_bytes
  parsed_more c next r a p = record {
    commands = c ∷ p.commands;
    rest = p.rest;
    end = p.end;
    bytes = sym r.bytes ∙ ap (λ ys. command_bytes c ++ ys) p.bytes ∙ sym (append_assoc (command_bytes c) (all_bytes p.commands) p.rest);
    range = (r.range, p.range);
    reached = run_more stage next c p.commands a ∙ p.reached;
    stop = p.stop;
  }

  parsed_placed : (c : Command) → command_in xs ≡ Ok c → CommandRead xs c → ((next : Stage) → Parsed next (drop (width_of c) xs)) → (o : Option Stage) → after stage c ≡ o → Parsed stage xs
  parsed_placed c e r on None a = parsed_none (misplaced c e r a)
  parsed_placed c e r on (Some next) a = parsed_more c next r a (on next)

  parsed_by : Bytes xs → 1 ≤ length xs → ((n : ℕ) → 1 ≤ n → (next : Stage) → Parsed next (drop n xs)) → (q : Result Command Cause) → command_in xs ≡ q → Parsed stage xs
  parsed_by b h on (Err cause) e = parsed_none (unread cause h e)
  parsed_by b h on (Ok c) e = parsed_placed c e (command_read xs c b e) (on (width_of c) (width_some c)) (after stage c) refl

parsed_within : (n : ℕ) (xs : List ℕ) (stage : Stage) → length xs ≤ n → Bytes xs → Parsed stage xs
parsed_within n [] stage h b = parsed_none [] stage (over refl)
parsed_within zero (x ∷ xs) stage h b = absurd (omega arith)
parsed_within (suc n) (x ∷ xs) stage h b =
    parsed_by (x ∷ xs) stage b (omega arith)
    (λ k some next. parsed_within n (drop k (x ∷ xs)) next (simp length-drop (omega arith)) (All-drop (λ y. y < 256) k (x ∷ xs) b))
    (command_in (x ∷ xs)) refl

pub parsed : (xs : List ℕ) (stage : Stage) → Bytes xs → Parsed stage xs
parsed xs stage b = parsed_within (length xs) xs stage (omega arith) b
