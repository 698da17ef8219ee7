use Rattle.std.proofs.Common.{◌≤◌, length, sym, ap, ◌∙◌, rules}
use Rattle.std.proofs.lemmas.Bool.{ltb-false}
use Rattle.std.specs.Option.{is_some}
use Rattle.register.specs.Folders.{below}
use Rattle.ordered.proofs.Makes.{unheld, put_folder, no_pairs, higher_pairs, held_there}
use Rattle.ordered.proofs.Points.{ascends, split}
use Rattle.ordered.proofs.Probes.{pair_front}
use Rattle.ordered.proofs.finding.Sorted.folder_place.Goals as goal

pub returns-in-Some : goal.returns-in-Some
returns-in-Some c =
    let self = c.args.self.now in
    let read = c.in-Some.ensures.lookup in
    held_there c.args.pair self.entries.now c.partition_point-at.result self.order read.3.0 c.in-Some.entry.now read.1 (sym c.if-eq.ensures)

pub returns-in_default : goal.returns-in_default
returns-in_default c =
    let self = c.args.self.now in
    let p = c.args.pair in
    let xs = self.entries.now in
    let at = c.partition_point-at in
    let found = split xs (ascends xs self.order) (λ e. below e.pair p) (pair_front p) at.result at.ensures.bound at.ensures.partitioned (λ a r q k. search rules) in
    let read = c.in-Some.ensures.lookup in
    let high = higher_pairs p xs at.result self.order read.3.0 c.in-Some.entry.now read.1 found.1 (sym c.if-eq.ensures) in
    (unheld p xs at.result self.order at.ensures.bound found.0 high, put_folder p xs at.result self.order at.ensures.bound found.0 high)

pub returns-in_default-2 : goal.returns-in_default-2
returns-in_default-2 c =
    let self = c.args.self.now in
    let p = c.args.pair in
    let xs = self.entries.now in
    let at = c.partition_point-at in
    let found = split xs (ascends xs self.order) (λ e. below e.pair p) (pair_front p) at.result at.ensures.bound at.ensures.partitioned (λ a r q k. search rules) in
    let past : length c.args.self.now.entries.now ≤ c.partition_point-at.result = ltb-false _ _ (sym c.get.ensures.lookup.0 ∙ ap is_some c.in_default.is) in
    let high = no_pairs p xs at.result self.order past in
    (unheld p xs at.result self.order at.ensures.bound found.0 high, put_folder p xs at.result self.order at.ensures.bound found.0 high)
