use Rattle.std.proofs.Common.{◌≤◌, rules}
use Rattle.market.proofs.Sides.{reached, passed, start_end, between}
use Rattle.market.proofs.ascents.Ascending+Combination.of_configuration.Goals as goal

pub slice_bounds-result-count : goal.slice_bounds-result-count
slice_bounds-result-count c =
    let list = c.args.self.now in
    let start = reached list.entries.now list.ascend c.args.id _ c.partition_point-start.ensures.partitioned (λ a r q k. search rules) in
    let end = passed list.entries.now list.ascend c.args.id _ c.partition_point-end.ensures.partitioned (λ a r q k. search rules) in
    start_end _ _ _ _ start end c.partition_point-start.ensures.bound

pub slice_bounds-result-start : goal.slice_bounds-result-start
slice_bounds-result-start c =
    let h : c.partition_point-start.result ≤ c.partition_point-end.result = slice_bounds-result-count c in
    search rules

pub returns : goal.returns
returns c =
    let list = c.args.self.now in
    let start = reached list.entries.now list.ascend c.args.id _ c.partition_point-start.ensures.partitioned (λ a r q k. search rules) in
    let end = passed list.entries.now list.ascend c.args.id _ c.partition_point-end.ensures.partitioned (λ a r q k. search rules) in
    between _ _ _ _ start end c.partition_point-start.ensures.bound c.partition_point-end.ensures.bound
