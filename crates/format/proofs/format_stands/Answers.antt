use Rattle.format.proofs.Accepting.{accepts}
use Rattle.format.proofs.Blaming.{blames}
use Rattle.format.proofs.format_stands.Goals as goal

pub returns : goal.returns
returns c = record { accepts = accepts; blames = blames }
