use Rattle.std.proofs.Common.{◌≡◌, Ok, rules}
use Rattle.commands.specs.Commands.{command_in}
use Rattle.instructions.proofs.Walked.{split_at, stopped}
use Rattle.instructions.proofs.walking.Walk.command.Goals as goal

pub returns-in_err-command : goal.returns-in_err-command
returns-in_err-command c = rw c.from_residual.ensures (stopped c.args.self.now.rest.now c.read_command.result c.read_command.ensures.value c.in_err-command.ensures.value)

pub returns : goal.returns
returns c =
    let read : command_in c.args.self.now.rest.now ≡ Ok c.in_ok-command.command = search rules in
    split_at c.args.self.now.rest.now c.in_ok-command.command c.width.result read c.width.ensures
