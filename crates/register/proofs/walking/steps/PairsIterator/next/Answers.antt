use Rattle.std.proofs.Common.{sym, ap, ◌∙◌, rules}
use Rattle.std.proofs.iter.Next.{firm}
use Rattle.register.specs.Walks.{above, pairs_of, taken}
use Rattle.register.proofs.Nexts.{next_none, next_some, fewer}
use Rattle.register.proofs.Rising.{rising_from_ascend}
use Rattle.register.proofs.walking.steps.PairsIterator.next.Goals as goal

pub returns-clause-steps : goal.returns-clause-steps
returns-clause-steps g c =
    let register = c.args.self.now.register.now in
    next_some c.args.self.now.last c.in_ok-pair.pair (g.R.Register.folders register) (rising_from_ascend _ (g.R.Register.in_form register).ascend) (sym c.next.ensures ∙ c.in_ok-pair.was)

pub returns-clause-goes : goal.returns-clause-goes
returns-clause-goes g c =
    firm (tt, tt, fewer c.args.self.now.last c.in_ok-pair.pair (g.R.Register.folders c.args.self.now.register.now) (returns-clause-steps g c)) (λ h. search rules)

pub returns-in_err-pair-clause-steps : goal.returns-in_err-pair-clause-steps
returns-in_err-pair-clause-steps g c =
    let self = c.args.self.now in
    let folders = g.R.Register.folders self.register.now in
    ap pairs_of (next_none self.last folders (sym c.next.ensures ∙ c.in_err-pair.was)) ∙ sym (ap (λ r. taken r (pairs_of (above self.last folders))) c.from_residual.ensures)
