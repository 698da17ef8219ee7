-- A fault as it is handed up: cause and place unchanged.
use Rattle.std.specs.Prelude.{ℕ, List, ◌++◌, codes}
use Rattle.std.specs.Fmt.{decimal}
use Rattle.commands.specs.Words.{cause_words}
use Rattle.commands.specs.declared.causes.Cause.TheVariants.{OutOfPlace}
use Rattle.instructions.specs.declared.faults.ReaderFault.{ReaderFault}
use Rattle.instructions.specs.declared.faults.InstructionFault.{InstructionFault}
use Rattle.instructions.specs.declared.faults.FileFault.{FileFault}

abbrev pub in_instruction : ReaderFault → InstructionFault
in_instruction fault = record { cause = fault.cause; place = fault.place }

abbrev pub in_file : InstructionFault → FileFault
in_file fault = record { cause = fault.cause; place = fault.place }

-- a command that may not come where it stands
abbrev pub out_of_place : ℕ → FileFault
out_of_place place = record { cause = OutOfPlace; place = place }

-- a fault in words
abbrev pub fault_words : FileFault → List ℕ
fault_words fault = cause_words fault.cause ++ (codes ", at offset " ++ decimal fault.place)
