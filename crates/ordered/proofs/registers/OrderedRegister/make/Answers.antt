use Rattle.std.proofs.Common.{◌+◌, take, sym, ap, ◌∙◌, subst, rules}
use Rattle.std.specs.List.{insert}
use Rattle.register.specs.declared.pairs.Pair.{Pair}
use Rattle.register.specs.Folders.{made}
use Rattle.register.specs.Systems.{Numbered}
use Rattle.ordered.specs.Entries.{folders_in}
use Rattle.ordered.proofs.Sounds.{Kept, made_again, room_for_folder, make_kept}
use Rattle.ordered.proofs.registers.OrderedRegister.make.Goals as goal

pub returns-in-None-clause-after : goal.returns-in-None-clause-after
returns-in-None-clause-after c =
    let self = c.args.self.now in
    made_again self c.with_view-pair.result (rw c.sorted.ensures at c.in-None.ensures) ∙ ap (λ p. made p (folders_in self.entries.now self.used)) c.with_view-pair.ensures

pub put-requires-clause-room : goal.put-requires-clause-room
put-requires-clause-room c = room_for_folder c.args.self.now c.if-self.true

pub invariant_of-self : goal.invariant_of-self
invariant_of-self c =
    let self = c.args.self.now in
    let found = rw c.sorted.ensures at c.in-Some.ensures in
    let numbered : Numbered c.with_view-pair.result.system = subst (λ (p : Pair). Numbered p.system) (sym c.with_view-pair.ensures) (c.args.system.low, c.args.system.high) in
    let kept : Kept c.put.new.entries (c.args.self.now.used + 1) (c.args.self.now.held + 1) c.args.self.now.places =
    make_kept self c.put.new.entries c.put.auto.entries c.with_view-pair.result c.in-Some.at numbered found.0 found.1 c.if-self.true (c.put.ensures ∙ ap (insert (take self.used self.entries.now) c.in-Some.at) c.folder.ensures) in
    search rules
