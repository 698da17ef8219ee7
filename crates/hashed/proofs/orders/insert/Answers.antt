use Rattle.std.proofs.Common.{◌+◌, take, set, ap, ◌∙◌}
use Rattle.register.proofs.Shifts.{put_front}
use Rattle.hashed.proofs.orders.insert.Goals as goal

pub returns : goal.returns
returns c =
    ap (λ l. take (c.args.used + 1) (set l c.args.at c.args.entry)) c.copy_within.ensures.after
    ∙ put_front c.args.order.now c.args.used c.args.at c.args.entry c.requires.within c.requires.place
