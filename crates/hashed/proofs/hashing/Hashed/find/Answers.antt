use Rattle.std.proofs.Common.{◌≡◌, ◌<◌, false, length, Some, sym, ap, ◌∙◌, subst, arith}
use Rattle.std.proofs.lemmas.List.{length-map}
use Rattle.blocks.specs.Block.{folder_of}
use Rattle.register.specs.Folders.{same}
use Rattle.hashed.specs.Table.{folders_of, links_of, pair_at}
use Rattle.hashed.proofs.Readings.{link_at, folder_read}
use Rattle.hashed.proofs.Walks.{Walk, up_to, walk_start, walk_on, walk_falls}
use Rattle.hashed.proofs.hashing.Hashed.find.Goals as goal

pub loop-link-init : goal.loop-link-init
loop-link-init c =
    let t = c.args.self.now in
    walk_start t.heads.now (folders_of t.blocks.now) (links_of t.blocks.now) t.count c.args.pair t.sound.linked c.home.result c.home.ensures.value c.home.ensures.below

-- the walk at the block that was looked at, and its link
at_block : (c : goal.After-link-in-Some-1) → Walk (pair_at (folders_of c.args.self.now.blocks.now)) (length c.args.self.now.heads.now) c.args.pair c.args.self.now.count (Some c.in-Some.at)
at_block c = subst (Walk (pair_at (folders_of c.args.self.now.blocks.now)) (length c.args.self.now.heads.now) c.args.pair c.args.self.now.count) c.in-Some.is c.loop-link.invariant

within : (c : goal.After-link-in-Some-1) → c.in-Some.at < length c.args.self.now.blocks.now
within c = omega (arith, (at_block c).within, c.args.self.now.sound.used, c.args.self.now.sound.blocked, length-map c.args.self.now.blocks.now folder_of)

pub loop-link-smaller : goal.loop-link-smaller
loop-link-smaller c =
    let t = c.args.self.now in
    let link = link_at t.blocks.now c.in-Some.at c.index-blocks-place.result (within c) ∙ ap (λ b. b.link) (sym c.index-blocks-place.is) in
    omega (arith, (at_block c).within, ap up_to c.in-Some.is, ap up_to link, walk_falls t.heads.now (folders_of t.blocks.now) (links_of t.blocks.now) t.count c.args.pair t.sound.linked c.in-Some.at (omega (arith, (at_block c).within)))

pub loop-link-preserved : goal.loop-link-preserved
loop-link-preserved c =
    let t = c.args.self.now in
    let h = within c in
    let other : same c.args.pair (pair_at (folders_of c.args.self.now.blocks.now) c.in-Some.at) ≡ false =
    ap (λ f. same c.args.pair f.pair) (folder_read t.blocks.now c.in-Some.at c.index-blocks-place.result h c.index-blocks-place.is) ∙ sym c.if-eq.ensures in
    subst (Walk (pair_at (folders_of t.blocks.now)) (length t.heads.now) c.args.pair t.count) (link_at t.blocks.now c.in-Some.at c.index-blocks-place.result h ∙ ap (λ b. b.link) (sym c.index-blocks-place.is))
    (walk_on t.heads.now (folders_of t.blocks.now) (links_of t.blocks.now) t.count c.args.pair t.sound.linked c.in-Some.at (at_block c) other)
