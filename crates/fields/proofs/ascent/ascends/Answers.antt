use Rattle.std.proofs.Common.{rules, ltb}
use Rattle.std.proofs.lemmas.Bool.Decides.{Decides-at}
use Rattle.std.proofs.lemmas.List.Sorted.{answers_always}
use Rattle.fields.proofs.AscentTests.{ascending_decides, ascending_by_neighbours}
use Rattle.fields.proofs.ascent.ascends.Goals as goal

pub returns : goal.returns
returns c =
    let ns = c.args.numbers.now in
    let e = ascending_by_neighbours ns c.is_sorted_by.result (c.is_sorted_by.ensures.cases ltb (answers_always _ _ _ (λ f a r g h. search rules))) in
    record { value = e; law = Decides-at _ _ e (ascending_decides ns) }
