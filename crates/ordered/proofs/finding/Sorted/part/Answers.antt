use Rattle.std.proofs.Common.{◌≡◌, ◌+◌, ◌-◌, ◌≤◌, List, length, take, drop, sym, ap, subst, rules, arith}
use Rattle.std.proofs.lemmas.List.{take_rest}
use Rattle.std.specs.List.{AllByRecursion}
use Rattle.ordered.specs.declared.entries.Entry.{Entry}
use Rattle.ordered.specs.Entries.{Part}
use Rattle.ordered.specs.Keys.{key_of, lower, key_at, Before, NotBefore}
use Rattle.ordered.proofs.Parts.{parted}
use Rattle.ordered.proofs.Points.{Ascends, ascends, ascends_drop, split}
use Rattle.ordered.proofs.Probes.{key_front}
use Rattle.ordered.proofs.finding.Sorted.part.Goals as goal

pub returns : goal.returns
returns c =
    let self = c.args.self.now in
    let xs = self.entries.now in
    let first = key_at c.args.pair c.level-level.result c.args.day in
    let next = key_at c.args.pair (c.level-level.result + 1) 0 in
    let from = c.partition_point-from in
    let count = c.partition_point-count in
    let start = split xs (ascends xs self.order) (λ e. lower (key_of e) first) (key_front first) from.result from.ensures.bound from.ensures.partitioned (λ a r q k. search rules) in
    let behind = take (length xs - from.result) (drop from.result xs) in
    let rest = take_rest xs from.result in
    let end = split behind (subst Ascends (sym rest) (ascends_drop from.result xs (ascends xs self.order))) (λ e. lower (key_of e) next) (key_front next) count.result count.ensures.bound count.ensures.partitioned (λ a r q k. search rules) in
    let upto : AllByRecursion (Before next) (take count.result (drop from.result xs)) = subst (λ (l : List Entry). AllByRecursion (Before next) (take count.result l)) rest end.0 in
    let past : AllByRecursion (NotBefore next) (drop count.result (drop from.result xs)) = subst (λ (l : List Entry). AllByRecursion (NotBefore next) (drop count.result l)) rest end.1 in
    let few : count.result ≤ length (drop from.result xs) = omega (arith, count.ensures.bound, ap length rest) in
    let whole : count.result ≡ from.result + count.result - from.result = omega arith in
    let part = parted c.args.pair c.args.kind c.args.day xs from.result count.result c.level-level.result c.level-level.ensures from.ensures.bound start.0 start.1 few upto past in
    record { part = subst (Part c.args.pair c.args.kind c.args.day xs from.result) whole part; ends = omega arith }
