use Rattle.std.proofs.Common.{◌≡◌, drop, None, Option, Result}
use Rattle.std.specs.Prelude.{⊤}
use Rattle.std.specs.Result.{result_err}
use Rattle.market.specs.Tests.{first_broken}
use Rattle.market.proofs.rules.check_each.Given as goal

-- what is left of the list tells
abbrev pub invariant-loop-place : goal.invariant-loop-place
invariant-loop-place g l =
    goal.F-IsAlwaysCallable g l.check
    × ((rule : Option g.row.X.Denot → g.row.X.Denot → Option g.row.R.Denot) → ((before : Option g.row.X.Denot) (x : g.row.X.Denot) (r : Result ⊤ g.row.R.Denot) → goal.F-post g l.check before x r → result_err r ≡ rule before x) → first_broken (λ x. x) rule l.before l.place (drop l.place l.entries) ≡ first_broken (λ x. x) rule None 0 l.entries)
