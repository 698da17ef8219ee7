-- The tests of operands and the ranges that they stand for.
use Rattle.std.proofs.Common.{◌≡◌, ℕ, ◌<◌, true, ◌&&◌, leb, arith}
use Rattle.std.proofs.lemmas.Bool.{leb-true, le-leb, and_parts, and_from}
use Rattle.commands.specs.Ranges.{is_id, is_number}
use Rattle.format.specs.WellFormed.{Between, Id, Number}

module _ (low high n : ℕ) where
  pub between_passes : Between low high n → (leb low n && leb n high) ≡ true
  between_passes h = and_from (leb low n) (leb n high) (le-leb low n h.0) (le-leb n high h.1)

  pub between_holds : (leb low n && leb n high) ≡ true → Between low high n
  between_holds t = let p = and_parts (leb low n) (leb n high) t in (leb-true low n p.0, leb-true n high p.1)

-- where the width bounds a number from above
module _ (n : ℕ) where
  pub id_holds : n < 65536 → is_id n ≡ true → Id n
  id_holds h t = (leb-true 1 n t, omega arith)

  pub number_holds : n < 4294967296 → is_number n ≡ true → Number n
  number_holds h t = (leb-true 1 n t, omega arith)
