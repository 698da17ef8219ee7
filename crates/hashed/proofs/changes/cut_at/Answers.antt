use Rattle.blocks.specs.Holding.{cut_rows}
use Rattle.hashed.proofs.Readings.{links_stay, folder_set}
use Rattle.hashed.proofs.changes.cut_at.Goals as goal

pub returns : goal.returns
returns c =
    let bs = c.args.blocks.now in
    record {
      folders = folder_set bs c.args.at c.index-blocks-at.result c.requires c.cut.new.self (cut_rows c.args.kind c.args.day) c.cut.ensures.folder;
      links = links_stay bs c.args.at c.index-blocks-at.result c.requires c.cut.new.self c.cut.ensures.link;
    }
