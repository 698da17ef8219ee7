use Rattle.std.proofs.Common.{◌+◌, take, set, ap, ◌∙◌}
use Rattle.register.proofs.Shifts.{put_front}
use Rattle.ordered.proofs.shifting.put.Goals as goal

pub returns : goal.returns
returns c =
    ap (λ l. take (c.args.used + 1) (set l c.args.at c.args.entry)) c.copy_within.ensures.after
    ∙ put_front c.args.entries.now c.args.used c.args.at c.args.entry c.requires.room c.requires.place
