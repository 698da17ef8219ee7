use Rattle.std.proofs.Common.{◌≡◌, arith}
use Rattle.std.proofs.lemmas.Grind.{common_steps}
use Rattle.commands.specs.Commands.{command_in}
use Rattle.commands.proofs.Widths.{read_within}
use Rattle.commands.proofs.reading.read_command.Goals as goal

pub returns-clause-within : goal.returns-clause-within
returns-clause-within c =
    let read : c.read_behind.result ≡ command_in c.args.rest.now = grind (arith, common_steps) in
    read_within c.args.rest.now c.read_behind.result read
