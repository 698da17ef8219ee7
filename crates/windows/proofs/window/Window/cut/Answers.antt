use Rattle.std.proofs.Common.{◌≡◌, map, length, take, sym, ap, ◌∙◌, subst, arith}
use Rattle.std.proofs.lemmas.List.{length-take, take-take}
use Rattle.fields.specs.Ascent.{Ascending}
use Rattle.timeline.specs.Finding.{before}
use Rattle.windows.proofs.Ascents.{rows_taken}
use Rattle.windows.proofs.window.Window.cut.Goals as goal

pub returns : goal.returns
returns g c =
    let rows = c.args.self.now.rows in
    let count = c.args.self.now.count in
    let long = ap length c.rows.ensures ∙ length-take count rows in
    let kept = c.kept-count.ensures.value ∙ ap (λ xs. before c.args.day (map g.T.Dated.start_of xs)) c.rows.ensures in
    let e : take c.kept-count.result rows ≡ take (before c.args.day (map g.T.Dated.start_of (take count rows))) (take count rows) =
    sym (take-take c.kept-count.result count rows (omega (arith, c.kept-count.ensures.within))) ∙ ap (λ n. take n (take count rows)) kept in
    record { after = e; ascends = λ up. subst (λ xs. Ascending (map g.T.Dated.start_of xs)) (sym e) (rows_taken g.T.Dated.start_of (take count rows) up _) }
