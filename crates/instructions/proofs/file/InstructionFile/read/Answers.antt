use Rattle.std.proofs.Common.{◌≡◌, drop, None, sym, refl, ap, ◌∙◌}
use Rattle.commands.specs.Commands.{command_in}
use Rattle.instructions.specs.Files.{onward, first_fault}
use Rattle.instructions.specs.Stages.{opening, between, closed}
use Rattle.instructions.proofs.Onward.{carried, carried_fault, read_whole, read_first}
use Rattle.instructions.proofs.file.InstructionFile.read.Goals as goal

pub returns : goal.returns
returns c =
    let xs = c.args.bytes.now in
    let r = c.new-reader.ensures in
    let o = c.in_ok-header.ensures in
    let b = c.in_ok-read_instructions.ensures in
    let e = c.in_ok-read_end.ensures in
    let n = c.in_ok-read_nothing.ensures in
    let h = c.in_ok-header.header in
    let s1 = r.bytes in
    let s2 = o.bytes ∙ s1 in
    let s3 = b.bytes ∙ s2 in
    let s4 = e.bytes ∙ s3 in
    let none : first_fault xs ≡ None =
    sym (ap (λ p. onward xs p opening) r.at)
    ∙ carried s1 _ _ opening (between h.count) o.value
    ∙ carried s2 _ _ (between h.count) (between 0) b.value
    ∙ carried s3 _ _ (between 0) closed e.value
    ∙ carried_fault s4 _ closed None n.value in
    let head = read_first xs h (sym (ap (λ ys. command_in (drop c.new-reader.result.at ys)) s1 ∙ ap (λ p. command_in (drop p xs)) r.at) ∙ o.header) in
    record { value = read_whole xs h none head; kept = (refl, head) }
