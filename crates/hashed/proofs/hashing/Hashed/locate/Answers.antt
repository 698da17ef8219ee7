use Rattle.std.proofs.Common.{rules, ◌≤◌, length, take, arith}
use Rattle.std.proofs.lemmas.List.{length-take-le}
use Rattle.std.proofs.lemmas.List.Sorted.{IsPartitionPoint-from_clause}
use borrow.Author.Tests.{tests}
use Rattle.hashed.specs.Table.{folders_of}
use Rattle.hashed.proofs.Searches.{up_to, parted, front, behind}
use Rattle.hashed.proofs.hashing.Hashed.locate.Goals as goal

pub returns : goal.returns
returns c =
    let fs = folders_of c.args.self.now.blocks.now in
    let order = c.args.self.now.order.now in
    let count = c.args.self.now.count in
    let listed : c.args.self.now.count ≤ length c.args.self.now.order.now = omega (arith, c.args.self.now.sound.used, c.args.self.now.sound.listed) in
    let ordered = c.args.self.now.sound.ordered in
    let bound = c.partition_point.ensures.bound in
    let point =
    IsPartitionPoint-from_clause (up_to fs order count listed ordered c.args.pair) (take count order) c.partition_point.result c.partition_point.ensures.partitioned
    (parted fs order count listed ordered c.args.pair) (λ a r f h. search (rules, tests)) in
    record {
      within = omega (arith, bound, length-take-le count order listed);
      before = front fs order count listed ordered c.args.pair c.partition_point.result bound point;
      behind = behind fs order count listed ordered c.args.pair c.partition_point.result bound point;
    }
