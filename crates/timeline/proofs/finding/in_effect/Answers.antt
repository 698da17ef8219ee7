use Rattle.std.proofs.Common.{rules, ◌≡◌, ◌<◌, ◌∙◌, length, map, leb, ap, arith}
use Rattle.std.specs.Bool.{then_some}
use Rattle.std.proofs.lemmas.List.{length-map}
use Rattle.timeline.specs.Finding.{term, in_effect}
use Rattle.timeline.proofs.Latest.{effect_then, effect_none, by_started}
use Rattle.timeline.proofs.finding.in_effect.Goals as goal

pub returns-in_err-place : goal.returns-in_err-place
returns-in_err-place g c =
    let start = g.T.Dated.start_of in
    let last = g.T.Dated.last_of in
    let rows = c.args.rows.now in
    let e : c.from_residual.result ≡ in_effect c.args.day (map (term start last) rows) =
    c.from_residual.ensures ∙ effect_none start last c.args.day rows c.in_err-place.ensures.value in
    record { value = e; within = search rules; started = by_started start last c.args.day rows _ e }

pub returns : goal.returns
returns g c =
    let start = g.T.Dated.start_of in
    let last = g.T.Dated.last_of in
    let rows = c.args.rows.now in
    let place = c.in_ok-place.place in
    let found = c.in_ok-place.ensures in
    let h : place < length rows = omega (arith, found.law.0, length-map rows start) in
    let e : c.then_some.result ≡ in_effect c.args.day (map (term start last) rows) =
    c.then_some.ensures
    ∙ ap (λ n. then_some (leb c.args.day n) place) c.last.ensures
    ∙ effect_then start last c.args.day rows place c.index-rows-place.result h c.index-rows-place.is found.value in
    record { value = e; within = search rules; started = by_started start last c.args.day rows _ e }
