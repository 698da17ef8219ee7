-- Files and their commands: those of a well-formed file lead from the opening to the end and say that file, and all that lead there are those of a well-formed file.
use Rattle.std.proofs.Common.{◌≡◌, ℕ, suc, ◌-◌, Bool, true, false, cond, ◌&&◌, eqb, List, [], ◌∷◌, ◌++◌, map, length, Some, None, Option, sym, refl, ap, ◌∙◌, subst, arith}
use Rattle.std.specs.Bool.{then_some}
use Rattle.std.specs.List.{AllByRecursion}
use Rattle.std.proofs.lemmas.Bool.{eqb-true, eqb-false, ne_eqb, and_parts, and_from, cond-false}
use Rattle.rows.specs.declared.kinds.Kind.{Kind}
use Rattle.rows.specs.declared.row.Row.{Row}
use Rattle.commands.specs.declared.command.Command.{Command}
use Rattle.commands.specs.declared.command.Command.TheVariants.{Header, Instruction, Record, InstructionEnd, FileEnd}
use Rattle.commands.specs.declared.command.Heading.{Heading}
use Rattle.instructions.specs.Files.{File, FileInstruction, change, records_of, instructions_of, file_of}
use Rattle.instructions.specs.Stages.{Stage, opening, between, within, closed, follows, regimes_ascend, order_of}
use Rattle.format.specs.WellFormed.{RowInRange, RowInForm, InstructionInForm, InRange, WellFormed}
use Rattle.format.specs.Written.{body_commands, commands_of}
use Rattle.format.proofs.CommandLists.{run, run_first, run_more}
use Rattle.commands.proofs.Inversions.{then_some_inv}
use Rattle.format.proofs.Order.{Follows, follows_from_order, order_from_follows, decides_regimes}
use Rattle.format.proofs.Steps.{then_some_is, never}

-- the commands of an instruction behind what opens it
abbrev row_commands : List Row → List Command → List Command
row_commands rs rest = map (λ (r : Row). Record r) rs ++ InstructionEnd ∷ rest

rows_in_range : (rs : List Row) (rest : List Command) → AllByRecursion RowInForm rs → AllByRecursion InRange rest → AllByRecursion InRange (row_commands rs rest)
rows_in_range [] rest h k = (tt, k)
rows_in_range (r ∷ rs) rest h k = (h.0.0, rows_in_range rs rest h.1 k)

pub body_in_range : (is : List FileInstruction) → AllByRecursion InstructionInForm is → AllByRecursion InRange (body_commands is)
unfolding body_commands
body_in_range [] h = (tt, tt)
body_in_range (change g rs ∷ is) h = (h.0.0, rows_in_range rs (body_commands is) h.0.1 (body_in_range is h.1))

rows_run : (rs : List Row) (rest : List Command) (left : ℕ) (before : Option (Kind × ℕ)) → AllByRecursion RowInForm rs → Follows before rs → run (within left before) (row_commands rs rest) ≡ run (between left) rest
rows_run [] rest left before h o = refl
rows_run (r ∷ rs) rest left before h o =
    let test = and_from (follows before (order_of r)) (regimes_ascend r) o.0 ((decides_regimes r).1 h.0.1) in
    run_more (within left before) (within left (Some (order_of r))) (Record r) (row_commands rs rest) (then_some_is (follows before (order_of r) && regimes_ascend r) (within left (Some (order_of r))) test)
    ∙ rows_run rs rest left (Some (order_of r)) h.1 o.1

pub body_run : (is : List FileInstruction) → AllByRecursion InstructionInForm is → run (between (length is)) (body_commands is) ≡ Some closed
unfolding body_commands
body_run [] h = refl
body_run (change g rs ∷ is) h =
    let n = length is in
    let p : suc n - 1 ≡ n = omega arith in
    run_more (between (suc n)) (within n None) (Instruction g) (row_commands rs (body_commands is)) (cond-false (eqb (suc n) 0) None (Some (within (suc n - 1) None)) (ne_eqb (suc n) 0 (λ z. omega arith)) ∙ ap (λ k. Some (within k None)) p)
    ∙ rows_run rs (body_commands is) n None h.0.1 (follows_from_order rs h.0.2)
    ∙ body_run is h.1

rows_records : (rs : List Row) (rest : List Command) → records_of (row_commands rs rest) ≡ rs
rows_records [] rest = refl
rows_records (r ∷ rs) rest = ap (λ (qs : List Row). r ∷ qs) (rows_records rs rest)

rows_instructions : (rs : List Row) (rest : List Command) → instructions_of (row_commands rs rest) ≡ instructions_of rest
rows_instructions [] rest = refl
rows_instructions (r ∷ rs) rest = rows_instructions rs rest

body_instructions : (is : List FileInstruction) → instructions_of (body_commands is) ≡ is
unfolding body_commands
body_instructions [] = refl
body_instructions (change g rs ∷ is) =
    ap (λ (qs : List Row). change g qs ∷ instructions_of (row_commands rs (body_commands is))) (rows_records rs (body_commands is))
    ∙ ap (λ (js : List FileInstruction). change g rs ∷ js) (rows_instructions rs (body_commands is) ∙ body_instructions is)

-- the commands of a well-formed file
module _ (f : File) (w : WellFormed f) where
  pub file_in_range : AllByRecursion InRange (commands_of f)
  file_in_range = ((w.source, w.number, w.count), body_in_range f.instructions w.instructions)

  pub file_run : run opening (commands_of f) ≡ Some closed
  file_run = body_run f.instructions w.instructions

pub file_back : (f : File) → file_of (commands_of f) ≡ f
file_back f = λ i. record { source = f.source; number = f.number; instructions = body_instructions f.instructions i }

-- what commands say that lead from between two instructions to the end of the file
record Body (left : ℕ) (cs : List Command) : Type 0 where
  pub form : cs ≡ body_commands (instructions_of cs)
  pub count : length (instructions_of cs) ≡ left
  pub instructions : AllByRecursion InstructionInForm (instructions_of cs)

-- and from within one
record Inside (left : ℕ) (before : Option (Kind × ℕ)) (cs : List Command) : Type 0 where
  pub form : cs ≡ row_commands (records_of cs) (body_commands (instructions_of cs))
  pub count : length (instructions_of cs) ≡ left
  pub instructions : AllByRecursion InstructionInForm (instructions_of cs)
  pub rows : AllByRecursion RowInForm (records_of cs)
  pub order : Follows before (records_of cs)

abbrev Said : Stage → List Command → Type 0
Said opening cs = Unit {0}
Said (between left) cs = Body left cs
Said (within left before) cs = Inside left before cs
Said closed cs = cs ≡ []

-- an instruction, the end of the file, the records of an instruction, and its end
said_instruction : (left : ℕ) (h : Heading) (cs : List Command) (b : Bool) (next : Stage) → InRange (Instruction h) → eqb left 0 ≡ b → cond b None (Some (within (left - 1) None)) ≡ Some next → Said next cs → Body left (Instruction h ∷ cs)
unfolding body_commands
said_instruction left h cs true next r t e s = absurd (never next e)
said_instruction left h cs false next r t e s =
    let same : next ≡ within (left - 1) None = cc in
    let w : Inside (left - 1) None cs = subst (λ q. Said q cs) same s in
    let n = w.count in
    let some : left ≡ 0 → ⊥ = eqb-false left 0 t in
    record {
      form = ap (λ ds. Instruction h ∷ ds) w.form;
      count = omega arith;
      instructions = ((r, w.rows, order_from_follows (records_of cs) w.order), w.instructions);
    }

said_end : (left : ℕ) (cs : List Command) (next : Stage) → then_some (eqb left 0) closed ≡ Some next → Said next cs → Body left (FileEnd ∷ cs)
unfolding body_commands
said_end left cs next e s =
    let g = then_some_inv (eqb left 0) closed next e in
    let none : cs ≡ [] = subst (λ q. Said q cs) (sym g.1) s in
    let z = eqb-true left 0 g.0 in
    record {
      form = ap (λ ds. FileEnd ∷ ds) none ∙ ap (λ ds. body_commands (instructions_of ds)) (sym none);
      count = ap (λ ds. length (instructions_of ds)) none ∙ sym z;
      instructions = subst (λ ds. AllByRecursion InstructionInForm (instructions_of ds)) (sym none) tt;
    }

said_record : (left : ℕ) (before : Option (Kind × ℕ)) (r : Row) (cs : List Command) (next : Stage) → RowInRange r → then_some (follows before (order_of r) && regimes_ascend r) (within left (Some (order_of r))) ≡ Some next → Said next cs → Inside left before (Record r ∷ cs)
said_record left before r cs next h e s =
    let g = then_some_inv (follows before (order_of r) && regimes_ascend r) (within left (Some (order_of r))) next e in
    let t = and_parts (follows before (order_of r)) (regimes_ascend r) g.0 in
    let w : Inside left (Some (order_of r)) cs = subst (λ q. Said q cs) (sym g.1) s in
    record {
      form = ap (λ ds. Record r ∷ ds) w.form;
      count = w.count;
      instructions = w.instructions;
      rows = ((h, (decides_regimes r).0 t.1), w.rows);
      order = (t.0, w.order);
    }

said_close : (left : ℕ) (before : Option (Kind × ℕ)) (cs : List Command) → Body left cs → Inside left before (InstructionEnd ∷ cs)
said_close left before cs w = record { form = ap (λ ds. InstructionEnd ∷ ds) w.form; count = w.count; instructions = w.instructions; rows = tt; order = tt }

said : (stage : Stage) (cs : List Command) → AllByRecursion InRange cs → run stage cs ≡ Some closed → Said stage cs
said opening cs r e = tt
said (between left) [] r e = let z : ◌≡◌ {A = ℕ} 0 1 = cc in absurd (omega arith)
said (between left) (Header h ∷ cs) r e = absurd (never closed e)
said (between left) (Instruction h ∷ cs) r e =
    let g = run_first (between left) closed (Instruction h) cs e in
    said_instruction left h cs (eqb left 0) g.0 r.0 refl g.1 (said g.0 cs r.1 g.2)
said (between left) (Record q ∷ cs) r e = absurd (never closed e)
said (between left) (InstructionEnd ∷ cs) r e = absurd (never closed e)
said (between left) (FileEnd ∷ cs) r e =
    let g = run_first (between left) closed FileEnd cs e in
    said_end left cs g.0 g.1 (said g.0 cs r.1 g.2)
said (within left before) [] r e = let z : ◌≡◌ {A = ℕ} 0 1 = cc in absurd (omega arith)
said (within left before) (Header h ∷ cs) r e = absurd (never closed e)
said (within left before) (Instruction h ∷ cs) r e = absurd (never closed e)
said (within left before) (Record q ∷ cs) r e =
    let g = run_first (within left before) closed (Record q) cs e in
    said_record left before q cs g.0 r.0 g.1 (said g.0 cs r.1 g.2)
said (within left before) (InstructionEnd ∷ cs) r e = said_close left before cs (said (between left) cs r.1 e)
said (within left before) (FileEnd ∷ cs) r e = absurd (never closed e)
said closed [] r e = refl
said closed (c ∷ cs) r e = absurd (never closed e)

-- commands that lead from the opening to the end are those of a well-formed file
pub record Saying (cs : List Command) : Type 0 where
  pub form : WellFormed (file_of cs)
  pub commands : commands_of (file_of cs) ≡ cs

pub saying : (cs : List Command) → AllByRecursion InRange cs → run opening cs ≡ Some closed → Saying cs
saying [] r e = let z : ◌≡◌ {A = ℕ} 0 1 = cc in absurd (omega arith)
saying (Header h ∷ cs) r e =
    let b : Body h.count cs = said (between h.count) cs r.1 e in
    let n = b.count in
    let c = r.0.2 in
    record {
      form = record { source = r.0.0; number = r.0.1; count = (omega arith, omega arith); instructions = b.instructions };
      commands =
          ap (λ k. Header (record { source = h.source; number = h.number; count = k }) ∷ body_commands (instructions_of cs)) n
          ∙ ap (λ ds. Header h ∷ ds) (sym b.form);
    }
saying (Instruction h ∷ cs) r e = absurd (never closed e)
saying (Record q ∷ cs) r e = absurd (never closed e)
saying (InstructionEnd ∷ cs) r e = absurd (never closed e)
saying (FileEnd ∷ cs) r e = absurd (never closed e)
