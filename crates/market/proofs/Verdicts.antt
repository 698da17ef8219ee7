-- What the verdict on an edition says of its lists.
use Rattle.market.specs.Lawful.{Lawful}
use Rattle.market.specs.Lists.{lists_of}
use Rattle.market.specs.declared.checked.LawfulEdition.{LawfulEdition}
use Rattle.market.proofs.LawfulTests.{lawful_decides}

pub sound : (lawful : LawfulEdition) → Lawful (lists_of lawful.edition)
sound lawful = (lawful_decides (lists_of lawful.edition)).0 lawful.lawful
