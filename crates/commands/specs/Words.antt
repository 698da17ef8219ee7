-- What causes, sources, headers and headings are in words.
use Rattle.std.specs.Prelude.{ℕ, List, ◌++◌, codes}
use Rattle.std.specs.Fmt.{decimal}
use Rattle.commands.specs.Causes.{cause_number}
use Rattle.commands.specs.declared.causes.Cause.{Cause}
use Rattle.commands.specs.declared.causes.Cause.TheVariants.{UnknownLetter, CutShort, OutOfRange, OutOfPlace}
use Rattle.commands.specs.declared.command.Header.{Header}
use Rattle.commands.specs.declared.command.Heading.{Heading}
use Rattle.commands.specs.declared.command.Source.{Source}
use Rattle.commands.specs.declared.command.Source.TheVariants.{Agent, Collector}

-- what is wrong, by itself
abbrev pub cause_name : Cause → List ℕ
cause_name UnknownLetter = codes "unknown letter"
cause_name CutShort = codes "cut short"
cause_name OutOfRange = codes "operand out of range"
cause_name OutOfPlace = codes "out of place"

-- a cause by its number, and what is wrong
abbrev pub cause_words : Cause → List ℕ
cause_words c = codes "cause " ++ (decimal (cause_number c) ++ (codes ", " ++ cause_name c))

-- a source by its role and id
abbrev pub source_words : Source → List ℕ
source_words (Agent id) = codes "registration agent " ++ decimal id
source_words (Collector id) = codes "data collector " ++ decimal id

abbrev pub header_words : Header → List ℕ
header_words h = codes "file " ++ (decimal h.number ++ (codes " of " ++ (source_words h.source ++ (codes ", instructions: " ++ decimal h.count))))

abbrev pub heading_words : Heading → List ℕ
heading_words h = codes "instruction " ++ (decimal h.number ++ (codes " for metering system " ++ (decimal h.system ++ (codes ", significant day " ++ decimal h.day))))
