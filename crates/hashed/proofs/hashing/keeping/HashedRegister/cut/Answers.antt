use Rattle.std.proofs.Common.{◌<◌, true, length, sym, ap, ◌∙◌, arith}
use Rattle.blocks.specs.Holding.{cut_rows}
use Rattle.register.specs.declared.pairs.Pair.{Pair}
use Rattle.register.specs.Folders.{cut_folders}
use Rattle.register.proofs.Keeping.{systems_changed}
use Rattle.hashed.specs.Memory.{held_folders}
use Rattle.hashed.specs.Table.{folders_of, links_of}
use Rattle.hashed.proofs.Filings.{changed_absent}
use Rattle.hashed.proofs.OtherRows.{absent, held_now, sound_now}
use Rattle.hashed.proofs.hashing.keeping.HashedRegister.cut.Goals as goal

pub invariant_of-self : goal.invariant_of-self
invariant_of-self c =
    let t = c.args.self.now in
    let fs = folders_of t.blocks.now in
    let v = cut_rows c.args.kind c.args.day in
    let is = sym c.in-Some.ensures.value in
    let within : c.in-Some.place < length (folders_of c.args.self.now.blocks.now) = omega (arith, c.in-Some.ensures.within, c.args.self.now.sound.used, c.args.self.now.sound.blocked) in
    let after = folders_of c.cut_at.new.blocks in
    record {
      sound = sound_now fs t.count c.with_view-pair.result c.in-Some.place is v within after t.heads.now (links_of t.blocks.now) t.order.now t.places t.sound _ c.cut_at.ensures.links c.cut_at.ensures.folders;
      systems = systems_changed true c.with_view-pair.result v (held_folders t) _ (held_now fs t.count c.with_view-pair.result c.in-Some.place is v within after c.cut_at.ensures.folders) t.systems;
    }

pub returns-in-Some-clause-after : goal.returns-in-Some-clause-after
returns-in-Some-clause-after c =
    let t = c.args.self.now in
    let within : c.in-Some.place < length (folders_of c.args.self.now.blocks.now) = omega (arith, c.in-Some.ensures.within, c.args.self.now.sound.used, c.args.self.now.sound.blocked) in
    held_now (folders_of t.blocks.now) t.count c.with_view-pair.result c.in-Some.place (sym c.in-Some.ensures.value) (cut_rows c.args.kind c.args.day) within (folders_of c.cut_at.new.blocks) c.cut_at.ensures.folders
    ∙ ap (λ (p : Pair). cut_folders p c.args.kind c.args.day (held_folders t)) c.with_view-pair.ensures

pub returns-in_default-clause-after : goal.returns-in_default-clause-after
returns-in_default-clause-after c =
    let t = c.args.self.now in
    sym (changed_absent c.with_view-pair.result (cut_rows c.args.kind c.args.day) (held_folders t) (absent (folders_of t.blocks.now) t.count c.with_view-pair.result (sym c.in_default.ensures.value)))
    ∙ ap (λ (p : Pair). cut_folders p c.args.kind c.args.day (held_folders t)) c.with_view-pair.ensures
