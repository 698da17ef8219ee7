use Rattle.std.proofs.Common.{length, ap, ◌∙◌}
use Rattle.std.proofs.lemmas.List.{length-map}
use Rattle.register.specs.Walks.{above, pairs_of}
use Rattle.register.proofs.Nexts.{drained}
use Rattle.register.proofs.walking.walk.Goals as goal

pub returns : goal.returns
returns g c =
    let fs = g.R.Register.folders c.args.register.now in
    let came = c.count.ensures.ran in
    came.2 ∙ ap length (drained _ (λ s. pairs_of (above s.last (g.R.Register.folders s.register.now))) (λ s r t h. h) c.of.result came.0 came.1 ∙ c.of.ensures.all) ∙ length-map fs (λ f. f.pair)
