use Rattle.std.proofs.Common.{◌≡◌, ℕ, ◌+◌, ◌-◌, ◌<◌, Some, None, sym, refl, ap, ◌∙◌, rules, arith}
use Rattle.std.proofs.lemmas.Bool.Decides.{nat_tests}
use Rattle.std.proofs.lemmas.Result.{err_from_is_err_and}
use Rattle.commands.specs.declared.command.Command.{Command}
use Rattle.commands.specs.declared.command.Command.TheVariants.{Header, Instruction, Record, InstructionEnd, FileEnd}
use Rattle.commands.specs.declared.command.Heading.{Heading}
use Rattle.instructions.specs.declared.faults.FileFault.{FileFault}
use Rattle.instructions.specs.Files.{onward}
use Rattle.instructions.specs.Stages.{between, within, after}
use Rattle.instructions.proofs.Onward.{read_next, read_misplaced, read_cause, carried, carried_fault}
use Rattle.instructions.proofs.file.checks.read_instructions.Goals as goal

-- while instructions are to come, nothing else is in place
elsewhere : (left : ℕ) (c : Command) → 0 < left → ((h : Heading) → c ≡ Instruction h → ⊥) → after (between left) c ≡ None
elsewhere left (Header h) some n = refl
elsewhere left (Instruction h) some n = absurd (n h refl)
elsewhere left (Record r) some n = refl
elsewhere left InstructionEnd some n = refl
elsewhere left FileEnd some n = grind (arith, nat_tests)

pub returns-in_err-command : goal.returns-in_err-command
returns-in_err-command c =
    let q = err_from_is_err_and c.from_residual.result c.from_residual.ensures.1 in
    let h = c.in_err-command.ensures in
    let inv = c.loop.invariant in
    rw (q.1, q.2)
    (record {
      value = inv.0 ∙ read_cause inv.1 _ (between (c.args.count - c.loop.counter)) _ tt h.value;
      bytes = h.bytes ∙ inv.1;
    })

pub returns-in_err-read_instruction-in-Instruction : goal.returns-in_err-read_instruction-in-Instruction
returns-in_err-read_instruction-in-Instruction c =
    let q = err_from_is_err_and c.from_residual-in_err-read_instruction-in-Instruction.result c.from_residual-in_err-read_instruction-in-Instruction.ensures.1 in
    let h = c.in_ok-command.ensures in
    let inv = c.loop.invariant in
    let left = c.args.count - c.loop.counter in
    let some : 0 < c.args.count - c.loop.counter = omega arith in
    let stage : after (between (c.args.count - c.loop.counter)) c.in_ok-command.field-0 ≡ Some (within (c.args.count - c.loop.counter - 1) None) = search rules in
    let i = c.in_err-read_instruction-in-Instruction.ensures in
    rw (q.1, q.2)
    (record {
      value =
          inv.0
          ∙ read_next inv.1 _ (between left) _ (within (left - 1) None) h.value h.at stage
          ∙ carried_fault (h.bytes ∙ inv.1) c.command.new.self.at (within (left - 1) None) _ (i.value (left - 1));
      bytes = i.bytes ∙ h.bytes ∙ inv.1;
    })

pub loop-preserved : goal.loop-preserved
loop-preserved c =
    let h = c.in_ok-command.ensures in
    let inv = c.loop.invariant in
    let left = c.args.count - c.loop.counter in
    let some : 0 < c.args.count - c.loop.counter = omega arith in
    let stage : after (between (c.args.count - c.loop.counter)) c.in_ok-command.field-0 ≡ Some (within (c.args.count - c.loop.counter - 1) None) = search rules in
    let less : c.args.count - c.loop.counter - 1 ≡ c.args.count - (c.loop.counter + 1) = omega arith in
    let i = c.in_ok-read_instruction-in-Instruction.ensures in (
      inv.0
          ∙ read_next inv.1 _ (between left) _ (within (left - 1) None) h.value h.at stage
          ∙ carried (h.bytes ∙ inv.1) c.command.new.self.at _ (within (left - 1) None) (between (left - 1)) (i.value (left - 1))
          ∙ ap (λ n. onward c.args.reader.now.bytes.now c.read_instruction.new.reader.at (between n)) less,
      i.bytes ∙ h.bytes ∙ inv.1,
    )

pub returns-in_default : goal.returns-in_default
returns-in_default c =
    let h = c.in_ok-command.ensures in
    let inv = c.loop.invariant in
    let stage : after (between (c.args.count - c.loop.counter)) c.in_ok-command.field-0 ≡ None = elsewhere _ _ (omega arith) c.in_default.not-Instruction in
    record {
      value = inv.0 ∙ read_misplaced inv.1 _ (between (c.args.count - c.loop.counter)) _ h.value stage ∙ sym (ap (λ (f : FileFault). Some f) c.out_of_place-misplaced.ensures);
      bytes = h.bytes ∙ inv.1;
    }
