use Rattle.std.proofs.Common.{◌<◌, length, sym, arith}
use Rattle.std.proofs.lemmas.List.{length-map}
use Rattle.blocks.specs.Block.{folder_of}
use Rattle.hashed.proofs.Readings.{rows_none, rows_read}
use Rattle.hashed.proofs.hashing.Hashed.block.Goals as goal

pub returns-in_err-at : goal.returns-in_err-at
returns-in_err-at c =
    let t = c.args.self.now in
    rw c.from_residual.ensures (rows_none t.blocks.now t.count c.args.pair (sym c.in_err-at.ensures.value))

pub returns : goal.returns
returns c =
    let t = c.args.self.now in
    let h : c.in_ok-at.at < length c.args.self.now.blocks.now = omega (arith, c.in_ok-at.ensures.within, c.args.self.now.sound.used, c.args.self.now.sound.blocked, length-map c.args.self.now.blocks.now folder_of) in
    rows_read t.blocks.now t.count c.args.pair c.in_ok-at.at (sym c.in_ok-at.ensures.value) c.index-blocks-at.result h c.index-blocks-at.is
