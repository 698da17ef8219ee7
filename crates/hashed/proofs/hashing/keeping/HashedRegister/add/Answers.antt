use Rattle.std.proofs.Common.{◌<◌, cond, length, sym, ap, ◌∙◌, arith}
use Rattle.std.proofs.lemmas.Bool.{and_left}
use Rattle.blocks.specs.Holding.{added_rows}
use Rattle.register.specs.declared.pairs.Pair.{Pair}
use Rattle.register.specs.Folders.{added_folders, addable}
use Rattle.register.proofs.Keeping.{systems_changed}
use Rattle.hashed.specs.Memory.{held_folders}
use Rattle.hashed.specs.Table.{folders_of, links_of}
use Rattle.hashed.proofs.OtherRows.{absent, takes_answer, held_if, sound_if}
use Rattle.hashed.proofs.hashing.keeping.HashedRegister.add.Goals as goal

pub invariant_of-self : goal.invariant_of-self
invariant_of-self c =
    let t = c.args.self.now in
    let fs = folders_of t.blocks.now in
    let v = added_rows c.args.row in
    let is = sym c.in-Some.ensures.value in
    let within : c.in-Some.place < length (folders_of c.args.self.now.blocks.now) = omega (arith, c.in-Some.ensures.within, c.args.self.now.sound.used, c.args.self.now.sound.blocked) in
    let after = folders_of c.add_at.new.blocks in
    record {
      sound = sound_if fs t.count c.with_view-pair.result c.in-Some.place is v within after t.heads.now (links_of t.blocks.now) t.order.now t.places t.sound _ c.add_at.ensures.links c.add_at.result c.add_at.ensures.folders;
      systems = systems_changed c.add_at.result c.with_view-pair.result v (held_folders t) _ (held_if fs t.count c.with_view-pair.result c.in-Some.place is v within after c.add_at.result c.add_at.ensures.folders) t.systems;
    }

pub returns-in-Some-clause-answer : goal.returns-in-Some-clause-answer
returns-in-Some-clause-answer c =
    let t = c.args.self.now in
    takes_answer (folders_of t.blocks.now) t.count c.with_view-pair.result c.in-Some.place (sym c.in-Some.ensures.value) c.args.row c.add_at.result c.add_at.ensures.answer
    ∙ ap (λ (p : Pair). addable p c.args.row (held_folders t)) c.with_view-pair.ensures

pub returns-in-Some-clause-after : goal.returns-in-Some-clause-after
returns-in-Some-clause-after c =
    let t = c.args.self.now in
    let within : c.in-Some.place < length (folders_of c.args.self.now.blocks.now) = omega (arith, c.in-Some.ensures.within, c.args.self.now.sound.used, c.args.self.now.sound.blocked) in
    held_if (folders_of t.blocks.now) t.count c.with_view-pair.result c.in-Some.place (sym c.in-Some.ensures.value) (added_rows c.args.row) within (folders_of c.add_at.new.blocks) c.add_at.result c.add_at.ensures.folders
    ∙ ap (λ (p : Pair). cond c.add_at.result (added_folders p c.args.row (held_folders t)) (held_folders t)) c.with_view-pair.ensures

pub returns-in-None-clause-answer : goal.returns-in-None-clause-answer
returns-in-None-clause-answer c =
    let t = c.args.self.now in
    sym (and_left _ _ (absent (folders_of t.blocks.now) t.count c.with_view-pair.result (sym c.in-None.ensures.value)))
    ∙ ap (λ (p : Pair). addable p c.args.row (held_folders t)) c.with_view-pair.ensures
