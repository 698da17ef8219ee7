-- What the law says of the answer of a call.
use Rattle.std.proofs.Common.{◌≡◌, ℕ, suc, List, [], ◌∷◌, get_or, Ok, Err, Result, sym, ◌∙◌, w8, Fits}
use Rattle.instructions.specs.declared.faults.FileFault.{FileFault}
use Rattle.instructions.specs.Files.{File, read_file}
use Rattle.format.specs.Format.{Bytes, Lawful, Found}
use Rattle.format.proofs.Accepting.{accepts}
use Rattle.format.proofs.Blaming.{blames}

-- what a slice of bytes holds is bytes
pub bytes_from_fits : (xs : List ℕ) → ((i : ℕ) → Fits w8 (get_or xs i 0)) → Bytes xs
bytes_from_fits [] h = tt
bytes_from_fits (x ∷ xs) h = ((h 0).fits, bytes_from_fits xs (λ i. h (suc i)))

pub lawful : (xs : List ℕ) (r : Result File FileFault) → Bytes xs → r ≡ read_file xs → Lawful xs r
lawful xs (Ok file) b e = (accepts xs b file).0 (sym e)
lawful xs (Err fault) b e = blames xs b fault (sym e)

pub found : (xs : List ℕ) (r : Result File FileFault) → Bytes xs → r ≡ read_file xs → Found xs r
found xs r b e file w i = e ∙ (accepts xs b file).1 w i
