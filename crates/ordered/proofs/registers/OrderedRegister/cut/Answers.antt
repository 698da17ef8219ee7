use Rattle.std.proofs.Common.{◌-◌, ap, ◌∙◌, rules}
use Rattle.register.specs.Folders.{cut_folders}
use Rattle.ordered.specs.Entries.{folders_in}
use Rattle.ordered.proofs.Sounds.{Kept, cut_after, cut_kept}
use Rattle.ordered.proofs.registers.OrderedRegister.cut.Goals as goal

pub invariant_of-self : goal.invariant_of-self
invariant_of-self c =
    let self = c.args.self.now in
    let gone = c.part-gone.result in
    let part = rw c.sorted.ensures at c.part-gone.ensures.part in
    let kept : Kept c.take_out.new.entries (c.args.self.now.used - c.len-count.result) c.args.self.now.held c.args.self.now.places =
    rw c.len-count.ensures.value (cut_kept self c.take_out.new.entries c.take_out.auto.entries c.with_view-pair.result c.args.kind c.args.day gone.start gone.end c.part-gone.ensures.ends part c.take_out.ensures) in
    search rules

pub returns-clause-after : goal.returns-clause-after
returns-clause-after c =
    let self = c.args.self.now in
    let gone = c.part-gone.result in
    let part = rw c.sorted.ensures at c.part-gone.ensures.part in
    ap (λ n. folders_in c.take_out.new.entries (self.used - n)) c.len-count.ensures.value
    ∙ cut_after self c.take_out.new.entries c.take_out.auto.entries c.with_view-pair.result c.args.kind c.args.day gone.start gone.end c.part-gone.ensures.ends part c.take_out.ensures
    ∙ ap (λ p. cut_folders p c.args.kind c.args.day (folders_in self.entries.now self.used)) c.with_view-pair.ensures
