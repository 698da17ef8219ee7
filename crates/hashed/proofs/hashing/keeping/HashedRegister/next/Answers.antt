use Rattle.std.proofs.Common.{◌<◌, length, get_or, Some, sym, ap, ◌∙◌, arith}
use Rattle.std.proofs.lemmas.List.{length-map}
use Rattle.blocks.specs.Block.{folder_of}
use Rattle.hashed.specs.Table.{folders_of}
use Rattle.hashed.proofs.Readings.{pair_at_lem}
use Rattle.hashed.proofs.Searches.{past_all, next_at}
use Rattle.hashed.proofs.hashing.keeping.HashedRegister.next.Goals as goal

pub returns-then-at-self : goal.returns-then-at-self
returns-then-at-self c =
    let t = c.args.self.now in
    sym (past_all (folders_of t.blocks.now) t.order.now t.count (omega (arith, t.sound.used, t.sound.listed)) t.sound.ordered c.args.pair c.locate-at.result c.if-at-self.true c.locate-at.ensures.before)

pub returns : goal.returns
returns c =
    let t = c.args.self.now in
    let bs = t.blocks.now in
    let place = get_or t.order.now c.locate-at.result 0 in
    let h : get_or c.args.self.now.order.now c.locate-at.result 0 < length c.args.self.now.blocks.now = omega (arith, t.sound.ordered.inside c.locate-at.result c.if-at-self.false, t.sound.used, t.sound.blocked, length-map t.blocks.now folder_of) in
    sym (next_at (folders_of bs) t.order.now t.count (omega (arith, t.sound.used, t.sound.listed)) t.sound.ordered c.args.pair c.locate-at.result c.if-at-self.false c.locate-at.ensures.before c.locate-at.ensures.behind
    ∙ ap Some (pair_at_lem bs place c.index-blocks-self.result h))
