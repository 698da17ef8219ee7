-- What the values say that reading hands out.
use Rattle.std.specs.Prelude.{Ok, Err, Result}
use Rattle.instructions.specs.declared.faults.FileFault.{FileFault}
use Rattle.instructions.specs.declared.file.InstructionFile.{InstructionFile}
use Rattle.instructions.specs.Files.{File, instructions_of, commands_in}

-- a file that has been read: the source and the number of its header, and its instructions
abbrev pub meant_file : InstructionFile → File
meant_file file = record {
  source = file.header.source;
  number = file.header.number;
  instructions = instructions_of (commands_in file.bytes.now);
}

abbrev pub said : Result InstructionFile FileFault → Result File FileFault
said (Ok file) = Ok (meant_file file)
said (Err fault) = Err fault
