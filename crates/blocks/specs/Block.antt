-- The folder in a block.
use Rattle.register.specs.declared.pairs.Pair.{Pair}
use Rattle.register.specs.Folders.{Rows, Folder, no_rows}
use Rattle.blocks.specs.Holding.{kind_rows}
use Rattle.blocks.specs.declared.block.Block.{Block}

abbrev pub folder_of : Block → Folder
folder_of b = record { pair = b.pair; rows = kind_rows b.contents }

abbrev pub empty_folder : Pair → Folder
empty_folder p = record { pair = p; rows = no_rows }

-- the same pair with other rows
abbrev pub with_rows : (Rows → Rows) → Folder → Folder
with_rows change f = record { pair = f.pair; rows = change f.rows }
