use Rattle.std.proofs.Common.{sym, rules}
use Rattle.std.proofs.lemmas.List.Sorted.{answers_always}
use Rattle.market.proofs.Searched.{search_some, search_none}
use Rattle.market.proofs.ascents.Ascending.find.Goals as goal

pub returns-in_err-place : goal.returns-in_err-place
returns-in_err-place g c =
    let list = c.args.self.now in
    let found = c.binary_search_by_key.ensures.position g.X.Keyed.key_of (answers_always _ _ _ (λ f a r q called. search rules)) in
    rw c.from_residual.ensures (sym (search_none g.met.X.Key.Ord.total g.X.Keyed.key_of list.entries.now list.ascend c.args.key _ g.met.X.Key.Ord.matches_eq _ c.in_err-place.ensures.value found))

pub returns : goal.returns
returns g c =
    let list = c.args.self.now in
    let facts = c.binary_search_by_key.ensures in
    let found = facts.position g.X.Keyed.key_of (answers_always _ _ _ (λ f a r q called. search rules)) in
    sym (search_some g.met.X.Key.Ord.total g.X.Keyed.key_of list.entries.now list.ascend c.args.key _ g.met.X.Key.Ord.matches_eq _ _ c.in_ok-place.ensures.value facts.bound found _)
