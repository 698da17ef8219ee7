use Rattle.timeline.specs.Spans.{span_term}
use Rattle.timeline.proofs.Searches.{apart_all, apart_more, overlap_here}
use Rattle.timeline.proofs.spans.overlaps.Goals as goal

pub loop-i-preserved : goal.loop-i-preserved
loop-i-preserved g c =
    apart_more (span_term g.T.Dated.start_of g.T.Span.end_of) c.args.rows.now c.loop-i.i c.index-rows-i.result c.loop-i-test.true c.index-rows-i.is c.loop-i.invariant c.if-meets_any.ensures

pub returns : goal.returns
returns g c = apart_all (span_term g.T.Dated.start_of g.T.Span.end_of) c.args.rows.now c.loop-i.i c.loop-i-test.false c.loop-i.invariant

pub returns-then-meets_any : goal.returns-then-meets_any
returns-then-meets_any g c =
    overlap_here (span_term g.T.Dated.start_of g.T.Span.end_of) c.args.rows.now c.loop-i.i c.index-rows-i.result c.loop-i-test.true c.index-rows-i.is c.if-meets_any.ensures
