use Rattle.std.proofs.Common.{◌-◌, take, ap, ◌∙◌}
use Rattle.ordered.proofs.Shifts.{out_front, none_out}
use Rattle.ordered.proofs.shifting.take_out.Goals as goal

pub returns-then-gone : goal.returns-then-gone
returns-then-gone c =
    ap (take (c.args.used - (c.args.gone.end - c.args.gone.start))) c.copy_within.ensures.after
    ∙ out_front c.args.entries.now c.args.used c.args.gone.start c.args.gone.end c.requires.within c.requires.ends c.requires.place

pub returns-else-gone : goal.returns-else-gone
returns-else-gone c = none_out c.args.entries.now c.args.used c.args.gone.start c.args.gone.end c.requires.ends c.if-gone.false
