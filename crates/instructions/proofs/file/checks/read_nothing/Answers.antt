use Rattle.std.proofs.Common.{Some, sym, refl, ap, ◌∙◌}
use Rattle.std.proofs.lemmas.Result.{err_from_is_err_and}
use Rattle.instructions.specs.declared.faults.FileFault.{FileFault}
use Rattle.instructions.specs.Stages.{closed}
use Rattle.instructions.proofs.Onward.{read_misplaced, read_there, onward_end}
use Rattle.instructions.proofs.file.checks.read_nothing.Goals as goal

pub returns-then-reader : goal.returns-then-reader
returns-then-reader c = record { value = onward_end _ _ c.if-reader.true }

pub returns-in_err-command : goal.returns-in_err-command
returns-in_err-command c =
    let q = err_from_is_err_and c.from_residual.result c.from_residual.ensures.1 in
    rw (q.1, q.2) (record { value = read_there refl _ closed _ c.if-reader.false c.in_err-command.ensures.value })

pub returns : goal.returns
returns c = record { value = read_misplaced refl _ closed _ c.in_ok-command.ensures.value refl ∙ sym (ap (λ (f : FileFault). Some f) c.out_of_place-misplaced.ensures) }
