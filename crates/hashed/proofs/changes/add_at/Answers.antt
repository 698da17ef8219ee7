use Rattle.std.proofs.Common.{sym, ap, ◌∙◌}
use Rattle.blocks.specs.Holding.{added_rows, takes_row}
use Rattle.hashed.proofs.Readings.{folder_at_lem, links_stay, folder_set_if}
use Rattle.hashed.proofs.changes.add_at.Goals as goal

pub returns : goal.returns
returns c =
    let bs = c.args.blocks.now in
    let b = c.index-blocks-at.result in
    record {
      answer = c.add.ensures.answer ∙ ap (λ f. takes_row f.rows c.args.row) (sym (folder_at_lem bs c.args.at b c.requires));
      folders = folder_set_if bs c.args.at b c.requires c.add.new.self (added_rows c.args.row) c.add.result c.add.ensures.folder;
      links = links_stay bs c.args.at b c.requires c.add.new.self c.add.ensures.link;
    }
