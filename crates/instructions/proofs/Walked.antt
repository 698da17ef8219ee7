-- Walking the commands of a file one by one.
use Rattle.std.proofs.Common.{◌≡◌, ℕ, ◌-◌, ◌<◌, List, [], length, take, drop, None, Ok, Err, Result, sym, ap, ◌∙◌, subst, arith}
use Rattle.std.specs.Result.{result_ok}
use Rattle.std.proofs.lemmas.List.{take_rest, length-drop}
use Rattle.commands.specs.declared.command.Command.{Command}
use Rattle.commands.specs.declared.causes.Cause.{Cause}
use Rattle.commands.specs.Commands.{command_in, width_of, heading_in, record_in}
use Rattle.instructions.specs.Files.{commands_in, records_of, instructions_of, taken, begun}
use Rattle.instructions.specs.Walks.{Split}
use Rattle.instructions.proofs.Onward.{width_some, commands_next, commands_stop}
use Rattle.commands.proofs.Widths.{width_within}

shorter : (xs : List ℕ) (c : Command) → command_in xs ≡ Ok c → length (drop (width_of c) xs) < length xs
shorter xs c e =
    let some = width_some c in
    let fits = width_within xs c e in
    rw length-drop (omega arith)

pub split_at : (xs : List ℕ) (c : Command) (width : ℕ) → command_in xs ≡ Ok c → width ≡ width_of c → Split xs c (take (length xs - width) (drop width xs))
split_at xs c width e w =
    let rest : drop (width_of c) xs ≡ take (length xs - width) (drop width xs) = sym (take_rest xs width ∙ ap (λ n. drop n xs) w) in
    subst (λ (ys : List ℕ). Split xs c ys) rest (record { commands = commands_next xs c e; shorter = shorter xs c e })

pub stopped : (xs : List ℕ) (r : Result Command Cause) → r ≡ command_in xs → None ≡ result_ok r → commands_in xs ≡ []
stopped xs (Ok c) e n = absurd (cc)
stopped xs (Err cause) e n = commands_stop xs cause (sym e)

-- the record at the front of what is left
pub record_next : {xs ys : List ℕ} {c : Command} → Split xs c ys → records_of (commands_in xs) ≡ taken (record_in c) (records_of (commands_in ys))
record_next s = ap records_of s.commands

-- a command that opens an instruction, and one that does not
pub instruction_next : {xs ys : List ℕ} {c : Command} → Split xs c ys → instructions_of (commands_in xs) ≡ begun (heading_in c) (records_of (commands_in ys)) (instructions_of (commands_in ys))
instruction_next s = ap instructions_of s.commands
