-- Records and their bytes: a row in range is read back from what is written of it, and a row that is read is in range and written as it stood.
use Rattle.std.proofs.Common.{◌≡◌, ℕ, ◌+◌, ◌*◌, ◌≤◌, Bool, true, ◌&&◌, List, ◌∷◌, ◌++◌, length, drop, Some, Ok, Err, Option, sym, refl, ap, ◌∙◌, subst, arith}
use Rattle.std.specs.Option.{option_map}
use Rattle.std.proofs.lemmas.List.{length-append}
use Rattle.std.proofs.lemmas.Bool.{leb-true, le-leb, and_parts, and_from, cond-true}
use Rattle.fields.specs.Days.{is_day}
use Rattle.fields.specs.Groups.{group_letter}
use Rattle.fields.specs.MeasurementClasses.{class_letter}
use Rattle.rows.specs.Rows.{kind_of_row}
use Rattle.fields.specs.Sets.{regimes_of, values_of}
use Rattle.fields.specs.Statuses.{status_letter}
use Rattle.fields.specs.declared.consumption.ConsumptionSet.{ConsumptionSet}
use Rattle.rows.specs.declared.kinds.Kind.{Kind}
use Rattle.rows.specs.declared.kinds.Kind.TheVariants as kind
use Rattle.rows.specs.declared.row.State.{State}
use Rattle.rows.specs.declared.row.Row.{Row}
use Rattle.rows.specs.declared.row.Row.TheVariants.{Registration, Appointment, Collector, Profile, Measurement, Energisation, LineLoss, Group, Advance, Estimate}
use Rattle.commands.specs.declared.causes.Cause.TheVariants.{OutOfRange}
use Rattle.commands.specs.Commands.{fixed_size, whole, ranged, sought, listed, record_of, set_size}
use Rattle.format.specs.Format.{Bytes}
use Rattle.commands.specs.Numbers.{byte, word}
use Rattle.commands.specs.Ranges.{is_id, is_end, is_profile_class, is_line_loss_class, is_set_size}
use Rattle.commands.specs.Records.{made, supplier, collector, profile, measurement, energisation, line_loss, group, state, appointment, sets, advance, estimate}
use Rattle.format.specs.WellFormed.{Between, Day, End, RowInRange, SetInRange}
use Rattle.format.specs.Written.{word_bytes, reading_bytes, row_bytes}
use Rattle.commands.proofs.Widths.{listed_ok}
use Rattle.commands.proofs.Inversions.{then_some_inv, made_some, mapped_ok, whole_ok, cond_ok}
use Rattle.format.proofs.Letters.{class_back, status_back, group_back, class_letter_lem, status_letter_lem, group_letter_lem}
use Rattle.format.proofs.NumberBytes.{word_of, word_at, byte_at, word_below}
use Rattle.format.proofs.RangeTests.{between_passes, between_holds, id_holds}
use Rattle.format.proofs.SetBytes.{set_read, set_written, set_length}
use Rattle.format.proofs.Steps.{then_some_is, made_is, whole_is}

dated : (start : ℕ) (b : Bool) → Day start → b ≡ true → (is_day start && b) ≡ true
dated start b d t = and_from (is_day start) b (between_passes 1 60000 start d) t

-- the readings that are sought are there
sought_is : (s : ConsumptionSet) (size : ℕ) (xs : List ℕ) → SetInRange s → size + 6 * s.count ≤ length xs → sought s.count size xs ≡ Ok tt
sought_is s size xs h l =
    cond-true (is_set_size s.count) (whole (size + 6 * s.count) xs (Ok tt)) (Err OutOfRange) (between_passes 1 4 s.count (h.some, s.few))
    ∙ whole_is (size + 6 * s.count) xs (Ok tt) l

set_fits : (s : ConsumptionSet) (rest : List ℕ) → 6 * s.count ≤ length (reading_bytes (regimes_of s) (values_of s) ++ rest)
set_fits s rest = let n = set_length s in simp length-append (omega arith)

-- what is read at the operands of fixed size
fixed : (xs : List ℕ) (size : ℕ) (o : Option Row) (r : Row) → size ≤ length xs → o ≡ Some r → whole size xs (ranged o) ≡ Ok r
fixed xs size o r h e = whole_is size xs (ranged o) h ∙ ap ranged e

-- and with the readings of a set behind them
sized : (xs : List ℕ) (size : ℕ) (s : ConsumptionSet) (o : Option Row) (r : Row) → SetInRange s → size + 6 * s.count ≤ length xs → o ≡ Some r → whole size xs (listed (sought s.count size xs) o) ≡ Ok r
sized xs size s o r h l e = whole_is size xs (listed (sought s.count size xs) o) (omega arith) ∙ ap (λ q. listed q o) (sought_is s size xs h l) ∙ ap ranged e

-- a state row that is in range is read back
state_is : {V : Type 0} (said : List ℕ → Option V) (xs : List ℕ) (start : ℕ) (v : V) → Day start → word xs 0 ≡ start → said xs ≡ Some v → state said xs ≡ Some (record { start = start; value = v })
state_is said xs start v d w e =
    ap (λ n. made (is_day n) (λ u. record { start = n; value = u }) (said xs)) w
    ∙ made_is (is_day start) (λ u. record { start = start; value = u }) (said xs) v e (between_passes 1 60000 start d)

pub row_written : (r : Row) (rest : List ℕ) → RowInRange r → record_of (kind_of_row r) (row_bytes r ++ rest) ≡ Ok r
row_written (Registration r) rest (d, i) =
    let xs = row_bytes (Registration r) ++ rest in
    fixed xs 4 _ (Registration r) (omega arith)
    (ap (option_map (λ s. Registration s)) (state_is supplier xs r.start r.value d (word_of r.start) (simp word_of (then_some_is _ r.value (le-leb 1 r.value.id i.0)))))
row_written (Appointment r) rest (d, e) =
    let xs = row_bytes (Appointment r) ++ rest in
    fixed xs 4 _ (Appointment r) (omega arith)
    (let read : appointment xs ≡ Some r = simp word_of (then_some_is _ r (dated r.start (is_end r.end) d (le-leb r.end 60000 e))) in ap (option_map (λ s. Appointment s)) read)
row_written (Collector r) rest (d, i) =
    let xs = row_bytes (Collector r) ++ rest in
    fixed xs 4 _ (Collector r) (omega arith)
    (ap (option_map (λ s. Collector s)) (state_is collector xs r.start r.value d (word_of r.start) (simp word_of (then_some_is _ r.value (le-leb 1 r.value.id i.0)))))
row_written (Profile r) rest (d, c, i) =
    let xs = row_bytes (Profile r) ++ rest in
    fixed xs 5 _ (Profile r) (omega arith)
    (ap (option_map (λ s. Profile s)) (state_is profile xs r.start r.value d (word_of r.start) (simp word_of (then_some_is _ r.value (and_from (is_profile_class r.value.class) (is_id r.value.configuration) (between_passes 1 16 r.value.class c) (le-leb 1 r.value.configuration i.0))))))
row_written (Measurement r) rest d =
    let xs = row_bytes (Measurement r) ++ rest in
    fixed xs 3 _ (Measurement r) (omega arith)
    (ap (option_map (λ s. Measurement s)) (state_is measurement xs r.start r.value d (word_of r.start) (class_back r.value)))
row_written (Energisation r) rest d =
    let xs = row_bytes (Energisation r) ++ rest in
    fixed xs 3 _ (Energisation r) (omega arith)
    (ap (option_map (λ s. Energisation s)) (state_is energisation xs r.start r.value d (word_of r.start) (status_back r.value)))
row_written (LineLoss r) rest (d, n) =
    let xs = row_bytes (LineLoss r) ++ rest in
    fixed xs 4 _ (LineLoss r) (omega arith)
    (ap (option_map (λ s. LineLoss s)) (state_is line_loss xs r.start r.value d (word_of r.start) (simp word_of (then_some_is _ r.value (le-leb r.value.number 999 n)))))
row_written (Group r) rest d =
    let xs = row_bytes (Group r) ++ rest in
    fixed xs 3 _ (Group r) (omega arith)
    (ap (option_map (λ s. Group s)) (state_is group xs r.start r.value d (word_of r.start) (group_back r.value)))
row_written (Advance r) rest (d, e, h) =
    let xs = row_bytes (Advance r) ++ rest in
    let l = set_fits r.set rest in
    let start = word_of r.start in
    let end = word_of r.end in
    let test = dated (word xs 0) (is_end (word xs 2)) (subst Day (sym start) d) (le-leb (word xs 2) 60000 (subst End (sym end) e)) in
    sized xs 5 r.set _ (Advance r) h (omega arith)
    (ap (option_map (λ s. Advance s))
    (made_is (is_day (word xs 0) && is_end (word xs 2)) _ (sets r.set.count xs 5) r.set (set_written r.set xs 5 rest h.regimes h.values refl) test
    ∙ (λ i. Some (record { start = start i; end = end i; set = r.set }))))
row_written (Estimate r) rest (d, h) =
    let xs = row_bytes (Estimate r) ++ rest in
    let l = set_fits r.set rest in
    let start = word_of r.start in
    sized xs 3 r.set _ (Estimate r) h (omega arith)
    (ap (option_map (λ s. Estimate s))
    (made_is (is_day (word xs 0)) _ (sets r.set.count xs 3) r.set (set_written r.set xs 3 rest h.regimes h.values refl) (between_passes 1 60000 (word xs 0) (subst Day (sym start) d))
    ∙ (λ i. Some (record { start = start i; set = r.set }))))

-- what is read of a record
pub record RowRead (k : Kind) (xs : List ℕ) (r : Row) : Type 0 where
  pub kind : kind_of_row r ≡ k
  pub range : RowInRange r
  pub long : fixed_size (kind_of_row r) + set_size r ≤ length xs
  pub bytes : row_bytes r ++ drop (fixed_size (kind_of_row r) + set_size r) xs ≡ xs

module _ (xs : List ℕ) (b : Bytes xs) where
  two_words : 4 ≤ length xs → word_bytes (word xs 0) ++ (word_bytes (word xs 2) ++ drop 4 xs) ≡ xs
  two_words h = ap (λ ys. word_bytes (word xs 0) ++ ys) (word_at xs b 2 h) ∙ word_at xs b 0 (omega arith)

  word_letter : (code : ℕ) → code ≡ byte xs 2 → 3 ≤ length xs → word_bytes (word xs 0) ++ (code ∷ drop 3 xs) ≡ xs
  word_letter code e h = ap (λ x. word_bytes (word xs 0) ++ (x ∷ drop 3 xs)) e ∙ ap (λ ys. word_bytes (word xs 0) ++ ys) (byte_at xs 2 h) ∙ word_at xs b 0 (omega arith)

-- what is read of a record with no set
plain : {X : Type 0} (xs : List ℕ) (size : ℕ) (f : X → Row) (o : Option X) (r : Row) → whole size xs (ranged (option_map f o)) ≡ Ok r → (size ≤ length xs) × ((x : X) × (o ≡ Some x) × (f x ≡ r))
plain xs size f o r e = let w = whole_ok size xs (ranged (option_map f o)) r e in (w.0, mapped_ok f o r w.1)

-- of a state row
stating : {V : Type 0} (xs : List ℕ) (size : ℕ) (f : State V → Row) (said : List ℕ → Option V) (r : Row) → whole size xs (ranged (option_map f (state said xs))) ≡ Ok r → (size ≤ length xs) × ((v : V) × (said xs ≡ Some v) × Day (word xs 0) × (f (record { start = word xs 0; value = v }) ≡ r))
stating xs size f said r e =
    let p = plain xs size f (state said xs) r e in
    let m = made_some (is_day (word xs 0)) (λ v. record { start = word xs 0; value = v }) (said xs) p.1.0 p.1.1 in
    (p.0, (m.0, m.1, between_holds 1 60000 (word xs 0) m.2, ap f m.3 ∙ p.1.2))

-- and of one with a set behind the n that stands at a place
counted : {X : Type 0} (xs : List ℕ) (at : ℕ) (f : X → Row) (o : Option X) (r : Row) → whole (at + 1) xs (listed (sought (byte xs at) (at + 1) xs) (option_map f o)) ≡ Ok r → ((x : X) × (o ≡ Some x) × (f x ≡ r)) × Between 1 4 (byte xs at) × (at + 1 + 6 * byte xs at ≤ length xs)
counted xs at f o r e =
    let w = whole_ok (at + 1) xs (listed (sought (byte xs at) (at + 1) xs) (option_map f o)) r e in
    let l = listed_ok (sought (byte xs at) (at + 1) xs) (option_map f o) r w.1 in
    let c = cond_ok (is_set_size (byte xs at)) (whole (at + 1 + 6 * byte xs at) xs (Ok tt)) OutOfRange tt l.0 in
    (mapped_ok f o r l.1, between_holds 1 4 (byte xs at) c.0, (whole_ok (at + 1 + 6 * byte xs at) xs (Ok tt) tt c.1).0)

record SetThere (xs : List ℕ) (at : ℕ) (s : ConsumptionSet) : Type 0 where
  pub range : SetInRange s
  pub long : at + 1 + 6 * s.count ≤ length xs
  pub bytes : s.count ∷ (reading_bytes (regimes_of s) (values_of s) ++ drop (at + 1 + 6 * s.count) xs) ≡ drop at xs

set_there : (xs : List ℕ) → Bytes xs → (at : ℕ) (s : ConsumptionSet) → Between 1 4 (byte xs at) → at + 1 + 6 * byte xs at ≤ length xs → sets (byte xs at) xs (at + 1) ≡ Some s → SetThere xs at s
set_there xs b at s n h e =
    let g = set_read (byte xs at) xs (at + 1) s b n.1 h e in
    let c = g.count in
    record {
      range = record { some = omega arith; regimes = g.regimes; values = g.values };
      long = omega arith;
      bytes =
          ap (λ k. k ∷ (reading_bytes (regimes_of s) (values_of s) ++ drop (at + 1 + 6 * k) xs)) c
          ∙ ap (λ ys. byte xs at ∷ ys) g.bytes
          ∙ byte_at xs at (omega arith);
    }

pub row_read : (k : Kind) (xs : List ℕ) (r : Row) → Bytes xs → record_of k xs ≡ Ok r → RowRead k xs r
row_read kind.Registration xs r b e =
    let w = stating xs 4 (λ s. Registration s) supplier r e in
    let s = w.1 in
    let g = then_some_inv (is_id (word xs 2)) _ s.0 s.1 in
    subst (RowRead kind.Registration xs) (ap (λ v. Registration (record { start = word xs 0; value = v })) g.1 ∙ s.3)
    (record { kind = refl; range = (s.2, id_holds (word xs 2) (word_below xs b 2 w.0) g.0); long = w.0; bytes = two_words xs b w.0 })
row_read kind.Appointment xs r b e =
    let w = plain xs 4 (λ a. Appointment a) _ r e in
    let g = then_some_inv (is_day (word xs 0) && is_end (word xs 2)) _ w.1.0 w.1.1 in
    let t = and_parts (is_day (word xs 0)) (is_end (word xs 2)) g.0 in
    subst (RowRead kind.Appointment xs) (ap (λ a. Appointment a) g.1 ∙ w.1.2)
    (record { kind = refl; range = (between_holds 1 60000 (word xs 0) t.0, leb-true (word xs 2) 60000 t.1); long = w.0; bytes = two_words xs b w.0 })
row_read kind.Collector xs r b e =
    let w = stating xs 4 (λ s. Collector s) collector r e in
    let s = w.1 in
    let g = then_some_inv (is_id (word xs 2)) _ s.0 s.1 in
    subst (RowRead kind.Collector xs) (ap (λ v. Collector (record { start = word xs 0; value = v })) g.1 ∙ s.3)
    (record { kind = refl; range = (s.2, id_holds (word xs 2) (word_below xs b 2 w.0) g.0); long = w.0; bytes = two_words xs b w.0 })
row_read kind.Profile xs r b e =
    let w = stating xs 5 (λ s. Profile s) profile r e in
    let s = w.1 in
    let g = then_some_inv (is_profile_class (byte xs 2) && is_id (word xs 3)) _ s.0 s.1 in
    let t = and_parts (is_profile_class (byte xs 2)) (is_id (word xs 3)) g.0 in
    subst (RowRead kind.Profile xs) (ap (λ v. Profile (record { start = word xs 0; value = v })) g.1 ∙ s.3)
    (record {
      kind = refl;
      range = (s.2, between_holds 1 16 (byte xs 2) t.0, id_holds (word xs 3) (word_below xs b 3 w.0) t.1);
      long = w.0;
      bytes = ap (λ ys. word_bytes (word xs 0) ++ (byte xs 2 ∷ ys)) (word_at xs b 3 w.0) ∙ word_letter xs b (byte xs 2) refl (omega arith);
    })
row_read kind.Measurement xs r b e =
    let w = stating xs 3 (λ s. Measurement s) measurement r e in
    let s = w.1 in
    subst (RowRead kind.Measurement xs) s.3
    (record { kind = refl; range = s.2; long = w.0; bytes = word_letter xs b (class_letter s.0) (class_letter_lem (byte xs 2) s.0 s.1) w.0 })
row_read kind.Energisation xs r b e =
    let w = stating xs 3 (λ s. Energisation s) energisation r e in
    let s = w.1 in
    subst (RowRead kind.Energisation xs) s.3
    (record { kind = refl; range = s.2; long = w.0; bytes = word_letter xs b (status_letter s.0) (status_letter_lem (byte xs 2) s.0 s.1) w.0 })
row_read kind.LineLoss xs r b e =
    let w = stating xs 4 (λ s. LineLoss s) line_loss r e in
    let s = w.1 in
    let g = then_some_inv (is_line_loss_class (word xs 2)) _ s.0 s.1 in
    subst (RowRead kind.LineLoss xs) (ap (λ v. LineLoss (record { start = word xs 0; value = v })) g.1 ∙ s.3)
    (record { kind = refl; range = (s.2, leb-true (word xs 2) 999 g.0); long = w.0; bytes = two_words xs b w.0 })
row_read kind.Group xs r b e =
    let w = stating xs 3 (λ s. Group s) group r e in
    let s = w.1 in
    subst (RowRead kind.Group xs) s.3
    (record { kind = refl; range = s.2; long = w.0; bytes = word_letter xs b (group_letter s.0) (group_letter_lem (byte xs 2) s.0 s.1) w.0 })
row_read kind.Advance xs r b e =
    let w = counted xs 4 (λ a. Advance a) (advance xs) r e in
    let m = made_some (is_day (word xs 0) && is_end (word xs 2)) _ (sets (byte xs 4) xs 5) w.0.0 w.0.1 in
    let t = and_parts (is_day (word xs 0)) (is_end (word xs 2)) m.2 in
    let g = set_there xs b 4 m.0 w.1 w.2 m.1 in
    subst (RowRead kind.Advance xs) (ap (λ a. Advance a) m.3 ∙ w.0.2)
    (record {
      kind = refl;
      range = (between_holds 1 60000 (word xs 0) t.0, leb-true (word xs 2) 60000 t.1, g.range);
      long = g.long;
      bytes = ap (λ ys. word_bytes (word xs 0) ++ (word_bytes (word xs 2) ++ ys)) g.bytes ∙ two_words xs b (let l = g.long in omega arith);
    })
row_read kind.Estimate xs r b e =
    let w = counted xs 2 (λ q. Estimate q) (estimate xs) r e in
    let m = made_some (is_day (word xs 0)) _ (sets (byte xs 2) xs 3) w.0.0 w.0.1 in
    let g = set_there xs b 2 m.0 w.1 w.2 m.1 in
    subst (RowRead kind.Estimate xs) (ap (λ q. Estimate q) m.3 ∙ w.0.2)
    (record {
      kind = refl;
      range = (between_holds 1 60000 (word xs 0) m.2, g.range);
      long = g.long;
      bytes = ap (λ ys. word_bytes (word xs 0) ++ ys) g.bytes ∙ word_at xs b 0 (let l = g.long in omega arith);
    })
