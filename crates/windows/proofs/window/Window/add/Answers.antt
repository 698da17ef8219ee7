use Rattle.std.proofs.Common.{refl, ◌∙◌, arith, rules}
use Rattle.std.proofs.lemmas.List.{length-set}
use Rattle.std.proofs.lemmas.Bool.{false≢true}
use Rattle.windows.proofs.WindowRows.{addable, follows_from, added, added_ascends}
use Rattle.windows.proofs.window.Window.add.Goals as goal

pub returns-then-not-follows : goal.returns-then-not-follows
returns-then-not-follows g c =
    record {
      answer = (λ e. absurd (false≢true e), λ a. c.if-not-follows.ensures.1 (follows_from g.T.Dated.start_of c.args.row c.args.self.now.count g.row.MAX c.args.self.now.rows c.args.self.now.places c.args.self.now.within a));
      after = search rules;
      ascends = λ up. up;
    }

pub returns : goal.returns
returns g c =
    let start = g.T.Dated.start_of in
    let window = c.args.self.now in
    let fits = c.if-not-follows.ensures.0 refl in
    record {
      answer = (λ _. addable start c.args.row window.count g.row.MAX window.rows window.places window.within fits, λ _. refl);
      after = added start c.args.row window.count g.row.MAX window.rows window.places window.within fits;
      ascends = added_ascends start c.args.row window.count g.row.MAX window.rows window.places window.within fits;
    }
