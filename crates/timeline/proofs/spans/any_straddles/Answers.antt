use Rattle.std.proofs.Common.{rules}
use Rattle.std.proofs.lemmas.Iterator.{YieldsList-from_slice, cases_from_any}
use borrow.Author.Tests.{tests}
use Rattle.timeline.specs.Spans.{span_term, Straddles}
use Rattle.timeline.proofs.Searches.{somewhere}
use Rattle.timeline.proofs.spans.any_straddles.Goals as goal

pub returns : goal.returns
returns g c =
    let term = span_term g.T.Dated.start_of g.T.Span.end_of in
    somewhere term (Straddles c.args.day) c.args.rows.now c.any.result
    (cases_from_any _ _ _ (λ row. Straddles c.args.day (term row)) (λ row. Straddles c.args.day (term row) → ⊥) c.any.ensures.ran (YieldsList-from_slice c.args.rows.now cc) (λ x q k. search (rules, tests)) (λ x q k. search (rules, tests)))
