-- The blocks of the register: the chains by which one is found, and their order by pair.
use Rattle.std.specs.Prelude.{◌≡◌, ℕ, zero, suc, ◌+◌, ◌*◌, ◌/◌, ◌%◌, ◌^◌, ◌<◌, ◌≤◌, min, cond, List, map, length, take, Some, None, Option, ◌==◌, slice_index, slice_index_or}
use Rattle.blocks.specs.Block.{folder_of, empty_folder}
use Rattle.blocks.specs.declared.block.Block.{Block}
use Rattle.register.specs.declared.pairs.Pair.{Pair}
use Rattle.register.specs.Folders.{Folder, same, lowest}
use Rattle.register.specs.Walks.{pairs_of}
use Rattle.hashed.specs.Filing.{gathered}

-- the folders in blocks, and the blocks' links
abbrev pub folders_of : List Block → List Folder
folders_of = map folder_of

abbrev pub links_of : List Block → List (Option ℕ)
links_of = map (λ b. b.link)

abbrev pub folder_at : List Folder → ℕ → Folder
folder_at fs i = slice_index_or fs i (empty_folder lowest)

abbrev pub pair_at : List Folder → ℕ → Pair
pair_at fs i = (folder_at fs i).pair

-- the folders of the first n blocks, ascending
abbrev pub held_in : List Folder → ℕ → List Folder
held_in fs n = gathered (folder_at fs) n

-- the chain of a pair: no proof but that of `home` in the code looks inside
unfoldable pub home_of : Pair → ℕ → ℕ
home_of p size = (p.system * 11400714819323198485 % 2 ^ 64 + p.view) % 2 ^ 64 * 14029467366897019727 % 2 ^ 64 / 4294967296 % size

-- the last of the first n blocks that belongs to the chain h
abbrev pub last : (ℕ → Pair) → ℕ → ℕ → ℕ → Option ℕ
last f size h zero = None
last f size h (suc n) = cond (home_of (f n) size == h) (Some n) (last f size h n)

-- the last of the first n blocks that has the pair
abbrev pub seek : (ℕ → Pair) → Pair → ℕ → Option ℕ
seek f p zero = None
seek f p (suc n) = cond (same p (f n)) (Some n) (seek f p n)

-- each head is the last block of its chain, and each link the one before
pub record Linked (heads : List (Option ℕ)) (fs : List Folder) (links : List (Option ℕ)) (count : ℕ) : Type 0 where
  pub heading : (h : ℕ) → h < length heads → slice_index_or heads h None ≡ last (pair_at fs) (length heads) h count
  pub linking : (b : ℕ) → b < count → slice_index_or links b None ≡ last (pair_at fs) (length heads) (home_of (pair_at fs b) (length heads)) b

-- the order has the blocks by their pairs
pub record Ordered (fs : List Folder) (order : List ℕ) (count : ℕ) : Type 0 where
  pub inside : (i : ℕ) → i < count → slice_index order i < count
  pub keyed : map (pair_at fs) (take count order) ≡ pairs_of (held_in fs count)

pub record Sound (heads : List (Option ℕ)) (fs : List Folder) (links : List (Option ℕ)) (order : List ℕ) (count places : ℕ) : Type 0 where
  pub used : count ≤ places
  pub narrow : places < 4294967296
  pub blocked : places ≤ length fs
  pub listed : places ≤ length order
  pub headed : 0 < places → 0 < length heads
  pub linked : Linked heads fs links count
  pub ordered : Ordered fs order count

-- how many folders there may be over slices of such lengths
abbrev pub places_of : ℕ → ℕ → ℕ → ℕ → ℕ
places_of most heads blocks order = cond (heads == 0) 0 (min (min (min order blocks) most) 4294967295)
