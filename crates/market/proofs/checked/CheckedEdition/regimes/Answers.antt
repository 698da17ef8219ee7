use Rattle.std.proofs.Common.{Some, None}
use Rattle.market.proofs.Finding.{regimes_are}
use Rattle.market.proofs.checked.CheckedEdition.regimes.Goals as goal

pub returns-in_err-found : goal.returns-in_err-found
returns-in_err-found c =
    rw c.from_residual-in_err-found.ensures
    (regimes_are c.args.self.now c.in_ok-if_lawful.field-0 c.in_ok-if_lawful.ensures c.args.configuration _ c.configurations.ensures None c.in_err-found.ensures)

pub returns : goal.returns
returns c = regimes_are c.args.self.now c.in_ok-if_lawful.field-0 c.in_ok-if_lawful.ensures c.args.configuration _ c.configurations.ensures (Some c.in_ok-found.found.now) c.in_ok-found.ensures
