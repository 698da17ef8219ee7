-- A command with its place in the file.
use Rattle.std.specs.Prelude.{ℕ, ◌+◌, Ok, Err, Result}
use Rattle.commands.specs.declared.command.Command.{Command}
use Rattle.commands.specs.declared.causes.Cause.{Cause}
use Rattle.instructions.specs.declared.faults.ReaderFault.{ReaderFault}
use Rattle.commands.specs.Commands.{width_of}

-- a fault is told with the offset of the command's letter
abbrev pub located : ℕ → Result Command Cause → Result Command ReaderFault
located place (Ok c) = Ok c
located place (Err cause) = Err (record { cause = cause; place = place })

-- where the next command begins; a fault is not passed
abbrev pub moved : ℕ → Result Command ReaderFault → ℕ
moved place (Ok c) = place + width_of c
moved place (Err fault) = place
