-- The folders of blocks are in form, whatever rows the blocks have.
use Rattle.std.specs.Prelude.{ℕ, zero, suc, ◌≤◌, List, [], ◌∷◌}
use Rattle.std.proofs.Common.{not-suc-le-zero, arith}
use Rattle.blocks.specs.Form.{folder_in_form}
use Rattle.blocks.specs.declared.block.Block.{Block}
use Rattle.register.specs.Folders.{FolderInForm, Systems, InForm}
use Rattle.register.proofs.Keeping.{all_systems}
use Rattle.register.proofs.Rising.{rising_ascends}
use Rattle.hashed.specs.Rising.{rising_gathered, all_gathered, few_gathered}
use Rattle.hashed.specs.Table.{folders_of, folder_at, held_in}

at_in_form : (blocks : List Block) (i : ℕ) → FolderInForm (folder_at (folders_of blocks) i)
at_in_form [] i = λ kind. record { kinds = tt; starts = λ i j l h. absurd (not-suc-le-zero h); few = omega arith }
at_in_form (b ∷ bs) zero = folder_in_form b
at_in_form (b ∷ bs) (suc i) = at_in_form bs i

pub in_form_lem : (blocks : List Block) (count places : ℕ) → count ≤ places → Systems (held_in (folders_of blocks) count) → InForm places (held_in (folders_of blocks) count)
in_form_lem blocks count places used systems = record {
  ascend = rising_ascends (held_in (folders_of blocks) count) (rising_gathered (folder_at (folders_of blocks)) count);
  systems = all_systems _ systems;
  folders = all_gathered FolderInForm (folder_at (folders_of blocks)) count (at_in_form blocks);
  room = omega (arith, few_gathered (folder_at (folders_of blocks)) count);
}
