use Rattle.timeline.specs.Spans.{span_term}
use Rattle.timeline.proofs.Searches.{Apart}
use Rattle.timeline.proofs.spans.overlaps.Given as goal

abbrev pub invariant-loop-i : goal.invariant-loop-i
invariant-loop-i g l = Apart (span_term g.T.Dated.start_of g.T.Span.end_of) l.rows l.i
