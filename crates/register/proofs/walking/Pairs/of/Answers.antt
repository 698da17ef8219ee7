use Rattle.std.proofs.Common.{ap}
use Rattle.register.specs.Walks.{pairs_of}
use Rattle.register.proofs.Keeping.{systems_all}
use Rattle.register.proofs.Nexts.{above_start}
use Rattle.register.proofs.walking.Pairs.of.Goals as goal

pub returns : goal.returns
returns g c =
    let register = c.args.register.now in
    record { all = ap pairs_of (above_start (g.R.Register.folders register) (systems_all _ (g.R.Register.in_form register).systems)) }
