-- What the lent memory means.
use Rattle.std.specs.Prelude.{List}
use Rattle.register.specs.Folders.{Folder}
use Rattle.hashed.specs.Table.{folders_of, held_in}
use Rattle.hashed.specs.declared.hashing.Hashed.{Hashed}

abbrev pub held_folders : Hashed → List Folder
held_folders h = held_in (folders_of h.blocks.now) h.count
