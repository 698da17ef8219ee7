use Rattle.format.proofs.Answered.{bytes_from_fits, lawful, found}
use Rattle.format.proofs.read_file.Goals as goal

pub returns : goal.returns
returns c =
    let bytes = bytes_from_fits c.args.bytes.now c.type_inv.bytes in
    let value = c.read.ensures.value in
    record { value = value; kept = c.read.ensures.kept; lawful = lawful _ _ bytes value; found = found _ _ bytes value }
