use Rattle.std.proofs.Common.{◌≡◌, ◌&&◌, true, rules}
use Rattle.std.proofs.lemmas.Result.{err_from_is_err_and}
use Rattle.fields.specs.Days.{is_day}
use Rattle.fields.specs.declared.consumption.ConsumptionSet.{ConsumptionSet}
use Rattle.commands.specs.Numbers.{byte, word}
use Rattle.commands.specs.Ranges.{is_end}
use Rattle.commands.proofs.SetReads.{row_made, row_unmade}
use Rattle.commands.proofs.records.read_advance.Goals as goal

pub returns-in_err-set : goal.returns-in_err-set
returns-in_err-set c =
    let xs = c.args.operands.now in
    let q = err_from_is_err_and c.from_residual.result c.from_residual.ensures.1 in
    rw (q.1, q.2) (row_unmade (byte xs 4) 5 xs c.in-len5-up.len_at_least _ _ c.in_err-set.field-0.0 c.in_err-set.ensures)

pub returns-then-end-le-LAST_DAY : goal.returns-then-end-le-LAST_DAY
returns-then-end-le-LAST_DAY c =
    let xs = c.args.operands.now in
    let start : c.from_be_bytes-start.result ≡ word xs 0 = search rules in
    let end : c.from_be_bytes-end.result ≡ word xs 2 = search rules in
    let test : (is_day (word xs 0) && is_end (word xs 2)) ≡ true = search rules in
    rw (start, end)
    (row_made (byte xs 4) 5 xs c.in-len5-up.len_at_least (is_day (word xs 0) && is_end (word xs 2)) (λ (s : ConsumptionSet). record { start = word xs 0; end = word xs 2; set = s }) c.in_ok-set.set c.in_ok-set.ensures test)
