-- Which source a file belongs to.
use Rattle.std.specs.Prelude.{ℕ, List, Some, None, Ok, Err, Option, Result}
use Rattle.commands.specs.declared.causes.Cause.{Cause}
use Rattle.commands.specs.declared.command.Command.{Command}
use Rattle.commands.specs.declared.command.Header as headers
use Rattle.commands.specs.declared.command.Source.{Source}
use Rattle.commands.specs.Commands.{header_in, command_in}

-- the source of a header
abbrev pub source_of : Option headers.Header → Option Source
source_of None = None
source_of (Some h) = Some h.source

-- the source that the first command names
abbrev pub named : Result Command Cause → Option Source
named (Err cause) = None
named (Ok c) = source_of (header_in c)

-- which source a file belongs to: that of its header, or none if its first command is no header or has a cause
abbrev pub source_of_file : List ℕ → Option Source
source_of_file xs = named (command_in xs)
