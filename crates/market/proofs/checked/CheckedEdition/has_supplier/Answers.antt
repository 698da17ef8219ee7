use Rattle.std.proofs.Common.{rules}
use Rattle.market.proofs.Finding.{supplier_decides}
use Rattle.market.proofs.checked.CheckedEdition.has_supplier.Goals as goal

pub returns : goal.returns
returns c = supplier_decides c.args.self.now c.args.id c.if_lawful.result _ c.if_lawful.ensures (search rules)
