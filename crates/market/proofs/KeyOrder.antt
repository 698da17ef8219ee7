-- The derived order of keys.
use Rattle.std.proofs.Common.{◌≡◌, ◌≤◌, true, arith}
use Rattle.std.specs.Ordering.{is_lt}
use Rattle.std.proofs.lemmas.Grind.{common_steps}
use Rattle.market.specs.Tests.{precedes}
use Rattle.market.specs.declared.keys.Key.{Key}
use Rattle.market.specs.contracts.keys.KeyOrd.TheImpl.{ghosts}

abbrev pub below : Key → Key → Type 0
below a b = is_lt (ghosts.cmp a b) ≡ true

pub below_precedes : (a b : Key) → is_lt (ghosts.cmp a b) ≡ precedes a b
below_precedes a b = grind (arith, common_steps)

pub below_configuration : (a b : Key) → below a b → a.configuration ≤ b.configuration
below_configuration a b h = grind (arith, common_steps)
