use Rattle.sources.proofs.Placed.{none_behind, first_behind}
use Rattle.sources.proofs.opening.clash_behind.Goals as goal

pub returns-in_err-behind : goal.returns-in_err-behind
returns-in_err-behind c = rw c.from_residual.ensures (none_behind c.args.sources.now c.args.first _ c.requires c.in_err-behind.ensures)

pub returns : goal.returns
returns c = first_behind c.args.sources.now c.args.first _ c.requires c.in_ok-behind.behind c.in_ok-behind.ensures
