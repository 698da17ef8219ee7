use Rattle.std.proofs.Common.{rules, ◌≡◌, map, ltb, sym, ◌∙◌}
use Rattle.std.proofs.lemmas.Iterator.{YieldsList-from_slice}
use Rattle.std.proofs.lemmas.Iterator.Consumers.{YieldsList-at, count_from_yields_List}
use Rattle.std.proofs.lemmas.Iterator.Search.{YieldsList-from_take_while}
use Rattle.std.proofs.lemmas.List.Folds.{length-prefix_len}
use borrow.Author.Tests.{tests}
use Rattle.timeline.specs.Finding.{before}
use Rattle.timeline.proofs.Cuts.{before_within, before_law, before_counts}
use Rattle.timeline.proofs.finding.kept.Goals as goal

pub returns : goal.returns
returns g c =
    let start = g.T.Dated.start_of in
    let rows = c.args.rows.now in
    let early = λ (row : g.row.T.Denot). ltb (start row) c.args.cut in
    let e : c.count.result ≡ before c.args.cut (map start rows) =
    count_from_yields_List c.take_while.result c.count.result c.count.ensures.ran
    (YieldsList-from_take_while _ early (YieldsList-at c.take_while.ensures.source (YieldsList-from_slice rows cc)) c.take_while.ensures.closure c.take_while.ensures.done (λ x b q k. search (rules, tests)))
    ∙ length-prefix_len early rows
    ∙ sym (before_counts start c.args.cut rows) in
    record { value = e; within = before_within start c.args.cut rows _ e; law = before_law start c.args.cut rows _ e }
