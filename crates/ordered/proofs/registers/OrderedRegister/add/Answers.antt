use Rattle.std.proofs.Common.{◌+◌, take, ap, ◌∙◌, rules}
use Rattle.std.specs.List.{insert}
use Rattle.ordered.proofs.Sounds.{Kept, room_for_row, add_kept}
use Rattle.ordered.proofs.registers.OrderedRegister.add.Goals as goal

pub put-requires-clause-room : goal.put-requires-clause-room
put-requires-clause-room c =
    let found = rw c.sorted.ensures at c.in-Some.ensures in
    room_for_row c.args.self.now c.with_view-pair.result c.args.row found.0

pub invariant_of-self : goal.invariant_of-self
invariant_of-self c =
    let self = c.args.self.now in
    let found = rw c.sorted.ensures at c.in-Some.ensures in
    let kept : Kept c.put.new.entries (c.args.self.now.used + 1) c.args.self.now.held c.args.self.now.places =
    add_kept self c.put.new.entries c.put.auto.entries c.with_view-pair.result c.in-Some.at c.args.row found.0 found.1 (c.put.ensures ∙ ap (insert (take self.used self.entries.now) c.in-Some.at) c.of_row.ensures) in
    search rules
