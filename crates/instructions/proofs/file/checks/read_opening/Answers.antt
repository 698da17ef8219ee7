use Rattle.std.proofs.Common.{◌≡◌, Some, None, sym, refl, ap, ◌∙◌, rules}
use Rattle.std.proofs.lemmas.Result.{err_from_is_err_and}
use Rattle.instructions.specs.declared.faults.FileFault.{FileFault}
use Rattle.instructions.specs.Stages.{opening, between, after}
use Rattle.instructions.proofs.Onward.{read_next, read_misplaced, read_cause}
use Rattle.instructions.proofs.file.checks.read_opening.Goals as goal

pub returns-in_err-header-clause-value : goal.returns-in_err-header-clause-value
returns-in_err-header-clause-value c =
    let q = err_from_is_err_and c.from_residual.result c.from_residual.ensures.1 in
    rw (q.1, q.2) (read_cause refl _ opening _ tt c.in_err-header.ensures.value)

pub returns-in-Header-clause-value : goal.returns-in-Header-clause-value
returns-in-Header-clause-value c =
    let h = c.in_ok-header.ensures in
    let stage : after opening c.in_ok-header.field-0 ≡ Some (between c.in-Header.header.count) = search rules in
    read_next refl _ opening _ (between c.in-Header.header.count) h.value h.at stage

pub returns-in_default : goal.returns-in_default
returns-in_default c =
    let h = c.in_ok-header.ensures in
    let stage : after opening c.in_ok-header.field-0 ≡ None = search rules in
    record {
      value = read_misplaced refl _ opening _ h.value stage ∙ sym (ap (λ (f : FileFault). Some f) c.out_of_place-misplaced.ensures);
      header = tt;
      bytes = h.bytes;
    }
