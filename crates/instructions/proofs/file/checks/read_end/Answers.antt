use Rattle.std.proofs.Common.{◌≡◌, Some, None, sym, refl, ap, ◌∙◌, rules}
use Rattle.std.proofs.lemmas.Result.{err_from_is_err_and}
use Rattle.instructions.specs.declared.faults.FileFault.{FileFault}
use Rattle.instructions.specs.Stages.{between, closed, after}
use Rattle.instructions.proofs.Onward.{read_next, read_misplaced, read_cause}
use Rattle.instructions.proofs.file.checks.read_end.Goals as goal

pub returns-in_err-command-clause-value : goal.returns-in_err-command-clause-value
returns-in_err-command-clause-value c =
    let q = err_from_is_err_and c.from_residual.result c.from_residual.ensures.1 in
    rw (q.1, q.2) (read_cause refl _ (between 0) _ tt c.in_err-command.ensures.value)

pub returns-in-FileEnd-clause-value : goal.returns-in-FileEnd-clause-value
returns-in-FileEnd-clause-value c =
    let h = c.in_ok-command.ensures in
    let stage : after (between 0) c.in_ok-command.field-0 ≡ Some closed = search rules in
    read_next refl _ (between 0) _ closed h.value h.at stage

pub returns-in_default-clause-value : goal.returns-in_default-clause-value
returns-in_default-clause-value c =
    let stage : after (between 0) c.in_ok-command.field-0 ≡ None = search rules in
    read_misplaced refl _ (between 0) _ c.in_ok-command.ensures.value stage ∙ sym (ap (λ (f : FileFault). Some f) c.out_of_place-misplaced.ensures)
