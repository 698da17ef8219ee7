use Rattle.std.proofs.Common.{rules}
use Rattle.std.proofs.lemmas.Iterator.{YieldsList-from_slice, cases_from_any}
use borrow.Author.Tests.{tests}
use Rattle.timeline.specs.Spans.{span_term, Meet}
use Rattle.timeline.proofs.Searches.{somewhere}
use Rattle.timeline.proofs.spans.meets_any.Goals as goal

pub returns : goal.returns
returns g c =
    let term = span_term g.T.Dated.start_of g.T.Span.end_of in
    let meets = Meet (term c.args.row.now) in
    somewhere term meets c.args.others.now c.any.result
    (cases_from_any _ _ _ (λ row. meets (term row)) (λ row. meets (term row) → ⊥) c.any.ensures.ran (YieldsList-from_slice c.args.others.now cc) (λ x q k. search (rules, tests)) (λ x q k. search (rules, tests)))
