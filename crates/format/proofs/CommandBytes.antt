-- Commands and their bytes: a command in range is read back from what is written of it, and a command that is read is in range and written as it stood.
use Rattle.std.proofs.Common.{◌≡◌, ℕ, suc, ◌+◌, ◌≤◌, Bool, true, false, cond, ◌&&◌, eqb, List, [], ◌∷◌, ◌++◌, length, drop, Some, None, Ok, Option, sym, refl, ap, ◌∙◌, subst, arith}
use Rattle.std.proofs.lemmas.List.{length-append}
use Rattle.std.proofs.lemmas.Bool.{le-leb, and_parts, and_from, eqb-true}
use Rattle.fields.specs.Codes.{letter}
use Rattle.fields.specs.Days.{is_day}
use Rattle.rows.specs.Rows.{kind_of_row}
use Rattle.rows.specs.declared.row.Row.{Row}
use Rattle.rows.specs.declared.row.Row.TheVariants as row
use Rattle.commands.specs.declared.command.Command.{Command}
use Rattle.commands.specs.declared.command.Command.TheVariants.{Header, Instruction, Record, InstructionEnd, FileEnd}
use Rattle.commands.specs.declared.command.Header as headers
use Rattle.commands.specs.declared.command.Heading.{Heading}
use Rattle.commands.specs.declared.command.Letter.{Letter}
use Rattle.commands.specs.declared.command.Letter.TheVariants as announced
use Rattle.commands.specs.declared.command.Source.{Source}
use Rattle.commands.specs.declared.command.Source.TheVariants.{Agent, Collector}
use Rattle.commands.specs.Commands.{letter_of, fixed_size, set_size, whole, ranged, record_of, commanded, behind, known, command_in, width_of}
use Rattle.format.specs.Format.{Bytes}
use Rattle.commands.specs.Numbers.{byte, word, long, huge}
use Rattle.commands.specs.Ranges.{is_id, is_number, is_count, is_system}
use Rattle.commands.specs.Records.{source_of, header, heading}
use Rattle.format.specs.WellFormed.{Between, Id, Number, SourceInRange, HeadingInRange, InRange}
use Rattle.format.specs.Written.{word_bytes, long_bytes, huge_bytes, row_bytes, source_bytes, command_bytes}
use Rattle.commands.proofs.Inversions.{then_some_inv, made_some, ranged_ok, whole_ok, commanded_ok}
use Rattle.format.proofs.Letters.{code_of, record_back, letter_code}
use Rattle.format.proofs.NumberBytes.{word_of, long_of, huge_of, byte_at, word_at, long_at, huge_at, word_below, long_below}
use Rattle.format.proofs.RangeTests.{between_passes, between_holds, id_holds, number_holds}
use Rattle.format.proofs.RowBytes.{row_read, row_written}
use Rattle.format.proofs.SetBytes.{set_length}
use Rattle.format.proofs.Steps.{then_some_is, whole_is}

row_length : (r : Row) → length (row_bytes r) ≡ fixed_size (kind_of_row r) + set_size r
row_length (row.Registration r) = refl
row_length (row.Appointment r) = refl
row_length (row.Collector r) = refl
row_length (row.Profile r) = refl
row_length (row.Measurement r) = refl
row_length (row.Energisation r) = refl
row_length (row.LineLoss r) = refl
row_length (row.Group r) = refl
row_length (row.Advance r) = let n = set_length r.set in omega arith
row_length (row.Estimate r) = let n = set_length r.set in omega arith

source_length : (s : Source) → length (source_bytes s) ≡ 3
source_length (Agent id) = refl
source_length (Collector id) = refl

pub command_length : (c : Command) → length (command_bytes c) ≡ width_of c
command_length (Header h) = let s = source_length h.source in simp length-append (omega arith)
command_length (Instruction h) = refl
command_length (Record r) = let n = row_length r in omega arith
command_length InstructionEnd = refl
command_length FileEnd = refl

header_written : (s : Source) (number count : ℕ) (rest : List ℕ) → SourceInRange s → Number number → Between 1 256 count → header ((source_bytes s ++ long_bytes number ++ word_bytes count) ++ rest) ≡ Some (record { source = s; number = number; count = count })
header_written (Agent id) number count rest i n c =
    simp (word_of, long_of) (then_some_is _ _ (and_from (is_id id && is_number number) (is_count count) (and_from (is_id id) (is_number number) (le-leb 1 id i.0) (le-leb 1 number n.0)) (between_passes 1 256 count c)))
header_written (Collector id) number count rest i n c =
    simp (word_of, long_of) (then_some_is _ _ (and_from (is_id id && is_number number) (is_count count) (and_from (is_id id) (is_number number) (le-leb 1 id i.0) (le-leb 1 number n.0)) (between_passes 1 256 count c)))

heading_written : (h : Heading) (rest : List ℕ) → HeadingInRange h → heading ((huge_bytes h.system ++ long_bytes h.number ++ word_bytes h.day) ++ rest) ≡ Some h
heading_written h rest r = simp (word_of, long_of, huge_of) (then_some_is _ h (and_from (is_system h.system && is_number h.number) (is_day h.day) (and_from (is_system h.system) (is_number h.number) (between_passes 1 9999999999999 h.system r.system) (le-leb 1 h.number r.number.0)) (between_passes 1 60000 h.day r.day)))

operands_written : {X : Type 0} (f : X → Command) (n : ℕ) (xs : List ℕ) (o : Option X) (x : X) → n ≤ length xs → o ≡ Some x → commanded f (whole n xs (ranged o)) ≡ Ok (f x)
operands_written f n xs o x h e = ap (commanded f) (whole_is n xs (ranged o) h ∙ ap ranged e)

pub command_written : (c : Command) (rest : List ℕ) → InRange c → command_in (command_bytes c ++ rest) ≡ Ok c
command_written (Header h) rest r =
    let xs = (source_bytes h.source ++ long_bytes h.number ++ word_bytes h.count) ++ rest in
    let s = source_length h.source in
    operands_written (λ (g : headers.Header). Header g) 9 xs (header xs) h (simp length-append (omega arith)) (header_written h.source h.number h.count rest r.0 r.1 r.2)
command_written (Instruction h) rest r =
    let xs = (huge_bytes h.system ++ long_bytes h.number ++ word_bytes h.day) ++ rest in
    operands_written (λ (g : Heading). Instruction g) 14 xs (heading xs) h (omega arith) (heading_written h rest r)
command_written (Record r) rest h = ap (λ o. known o (row_bytes r ++ rest)) (record_back (kind_of_row r)) ∙ ap (commanded (λ (q : Row). Record q)) (row_written r rest h)
command_written InstructionEnd rest h = refl
command_written FileEnd rest h = refl

-- what is read of a command
pub record CommandRead (xs : List ℕ) (c : Command) : Type 0 where
  pub range : InRange c
  pub long : width_of c ≤ length xs
  pub bytes : command_bytes c ++ drop (width_of c) xs ≡ xs

-- what is read of a source
source_read : (code id : ℕ) (s : Source) → Id id → source_of code id ≡ Some s → SourceInRange s × (source_bytes s ≡ code ∷ word_bytes id)
source_read code id s h e = by (eqb code (letter "S")) (eqb code (letter "C")) (eqb-true code (letter "S")) (eqb-true code (letter "C")) e
  where
    by : (a b : Bool) → (a ≡ true → code ≡ letter "S") → (b ≡ true → code ≡ letter "C") → cond a (Some (Agent id)) (cond b (Some (Collector id)) None) ≡ Some s → SourceInRange s × (source_bytes s ≡ code ∷ word_bytes id)
    by true b p q f = let same : Agent id ≡ s = cc in subst (λ t. SourceInRange t × (source_bytes t ≡ code ∷ word_bytes id)) same (h, ap (λ c. c ∷ word_bytes id) (sym (p refl)))
    by false true p q f = let same : Collector id ≡ s = cc in subst (λ t. SourceInRange t × (source_bytes t ≡ code ∷ word_bytes id)) same (h, ap (λ c. c ∷ word_bytes id) (sym (q refl)))
    by false false p q f = let z : ◌≡◌ {A = ℕ} 0 1 = cc in absurd (omega arith)

behind_read : (l : Letter) (xs : List ℕ) (c : Command) → Bytes xs → behind l xs ≡ Ok c → CommandRead (code_of l ∷ xs) c
behind_read announced.Header xs c b e =
    let g = commanded_ok _ (whole 9 xs (ranged (header xs))) c e in
    let w = whole_ok 9 xs (ranged (header xs)) g.0 g.1 in
    let m = made_some (is_id (word xs 1) && is_number (long xs 3) && is_count (word xs 7)) _ (source_of (byte xs 0) (word xs 1)) g.0 (ranged_ok (header xs) g.0 w.1) in
    let t = and_parts (is_id (word xs 1) && is_number (long xs 3)) (is_count (word xs 7)) m.2 in
    let u = and_parts (is_id (word xs 1)) (is_number (long xs 3)) t.0 in
    let l = w.0 in
    let s = source_read (byte xs 0) (word xs 1) m.0 (id_holds (word xs 1) (word_below xs b 1 (omega arith)) u.0) m.1 in
    subst (CommandRead (letter "H" ∷ xs)) (ap (λ (h : headers.Header). Header h) m.3 ∙ g.2)
    (record {
      range = (s.0, number_holds (long xs 3) (long_below xs b 3 (omega arith)) u.1, between_holds 1 256 (word xs 7) t.1);
      long = omega arith;
      bytes =
          ap (λ ys. letter "H" ∷ (ys ++ long_bytes (long xs 3) ++ word_bytes (word xs 7)) ++ drop 9 xs) s.1
          ∙ ap (λ ys. letter "H" ∷ byte xs 0 ∷ (word_bytes (word xs 1) ++ (long_bytes (long xs 3) ++ ys))) (word_at xs b 7 l)
          ∙ ap (λ ys. letter "H" ∷ byte xs 0 ∷ (word_bytes (word xs 1) ++ ys)) (long_at xs b 3 (omega arith))
          ∙ ap (λ ys. letter "H" ∷ byte xs 0 ∷ ys) (word_at xs b 1 (omega arith))
          ∙ ap (λ ys. letter "H" ∷ ys) (byte_at xs 0 (omega arith));
    })
behind_read announced.Instruction xs c b e =
    let g = commanded_ok _ (whole 14 xs (ranged (heading xs))) c e in
    let w = whole_ok 14 xs (ranged (heading xs)) g.0 g.1 in
    let m = then_some_inv (is_system (huge xs 0) && is_number (long xs 8) && is_day (word xs 12)) _ g.0 (ranged_ok (heading xs) g.0 w.1) in
    let t = and_parts (is_system (huge xs 0) && is_number (long xs 8)) (is_day (word xs 12)) m.0 in
    let u = and_parts (is_system (huge xs 0)) (is_number (long xs 8)) t.0 in
    let l = w.0 in
    subst (CommandRead (letter "I" ∷ xs)) (ap (λ (h : Heading). Instruction h) m.1 ∙ g.2)
    (record {
      range = record {
        system = between_holds 1 9999999999999 (huge xs 0) u.0;
        number = number_holds (long xs 8) (long_below xs b 8 (omega arith)) u.1;
        day = between_holds 1 60000 (word xs 12) t.1;
      };
      long = omega arith;
      bytes =
          ap (λ ys. letter "I" ∷ (huge_bytes (huge xs 0) ++ (long_bytes (long xs 8) ++ ys))) (word_at xs b 12 l)
          ∙ ap (λ ys. letter "I" ∷ (huge_bytes (huge xs 0) ++ ys)) (long_at xs b 8 (omega arith))
          ∙ ap (λ ys. letter "I" ∷ ys) (huge_at xs b 0 (omega arith));
    })
behind_read (announced.Record k) xs c b e =
    let g = commanded_ok _ (record_of k xs) c e in
    let r = g.0 in
    let w = row_read k xs r b g.1 in
    let l = w.long in
    let more : 1 + fixed_size (kind_of_row r) + set_size r ≡ suc (fixed_size (kind_of_row r) + set_size r) = omega arith in
    subst (CommandRead (code_of (announced.Record k) ∷ xs)) g.2
    (record {
      range = w.range;
      long = omega arith;
      bytes =
          ap (λ n. command_bytes (Record r) ++ drop n (code_of (announced.Record k) ∷ xs)) more
          ∙ ap (λ ys. code_of (announced.Record (kind_of_row r)) ∷ ys) w.bytes
          ∙ ap (λ j. code_of (announced.Record j) ∷ xs) w.kind;
    })
behind_read announced.InstructionEnd xs c b e = let same : InstructionEnd ≡ c = cc in subst (CommandRead (letter "Z" ∷ xs)) same (record { range = tt; long = omega arith; bytes = refl })
behind_read announced.FileEnd xs c b e = let same : FileEnd ≡ c = cc in subst (CommandRead (letter "X" ∷ xs)) same (record { range = tt; long = omega arith; bytes = refl })

known_ok : (o : Option Letter) (xs : List ℕ) (c : Command) → known o xs ≡ Ok c → (l : Letter) × (o ≡ Some l) × (behind l xs ≡ Ok c)
known_ok None xs c e = let z : ◌≡◌ {A = ℕ} 0 1 = cc in absurd (omega arith)
known_ok (Some l) xs c e = (l, refl, e)

pub command_read : (xs : List ℕ) (c : Command) → Bytes xs → command_in xs ≡ Ok c → CommandRead xs c
command_read [] c b e = let z : ◌≡◌ {A = ℕ} 0 1 = cc in absurd (omega arith)
command_read (x ∷ xs) c b e =
    let g = known_ok (letter_of x) xs c e in
    subst (λ y. CommandRead (y ∷ xs) c) (letter_code x g.0 g.1) (behind_read g.0 xs c b.1 g.2)
