-- The readings of a consumption set and their bytes.
use Rattle.std.proofs.Common.{◌≡◌, ℕ, zero, suc, ◌+◌, ◌*◌, ◌<◌, ◌≤◌, true, List, [], ◌∷◌, ◌++◌, length, get_or, take, drop, ℤ, pos, nat_abs, Some, sym, refl, ap, ◌∙◌, subst, append_assoc, add-zero, add_assoc, add-one, arith, w32, to_z, of_z}
use Rattle.std.specs.List.{AllByRecursion}
use Rattle.std.proofs.ByRecursion.{All-push, All-get_or}
use Rattle.std.proofs.lemmas.Bool.{leb-true, le-leb, and_parts, and_from}
use Rattle.std.proofs.lemmas.List.{take_more, take_all}
use Rattle.fields.specs.Sets.{regimes_of, values_of, empty_set, pushed}
use Rattle.fields.specs.declared.consumption.ConsumptionSet.{ConsumptionSet}
use Rattle.format.specs.Format.{Bytes}
use Rattle.commands.specs.Numbers.{word, signed}
use Rattle.commands.specs.Ranges.{is_reading, is_id, is_value}
use Rattle.commands.specs.Records.{made, sets}
use Rattle.format.specs.WellFormed.{Id, Value}
use Rattle.format.specs.Written.{word_bytes, long_bytes, reading_bytes}
use Rattle.commands.proofs.Inversions.{made_some}
use Rattle.format.proofs.NumberBytes.{joint, word_at, signed_at, word_below, word_of, signed_back, word_drop, long_drop}
use Rattle.format.proofs.ReadingLists.{regimes_length, values_length, same_readings, pushed_count, pushed_regimes, pushed_values}
use Rattle.format.proofs.Steps.{then_some_is}

-- one reading more
reading_more : (rs : List ℕ) (vs : List ℤ) (r : ℕ) (v : ℤ) → length rs ≡ length vs → reading_bytes (rs ++ r ∷ []) (vs ++ v ∷ []) ≡ reading_bytes rs vs ++ (word_bytes r ++ long_bytes (of_z w32 v))
reading_more [] [] r v e = refl
reading_more [] (w ∷ vs) r v e = absurd (omega arith)
reading_more (q ∷ rs) [] r v e = absurd (omega arith)
reading_more (q ∷ rs) (w ∷ vs) r v e = ap (λ ys. word_bytes q ++ long_bytes (of_z w32 w) ++ ys) (reading_more rs vs r v (omega arith))

-- six bytes each
reading_length : (rs : List ℕ) (vs : List ℤ) → length rs ≡ length vs → length (reading_bytes rs vs) ≡ 6 * length rs
reading_length [] [] e = refl
reading_length [] (v ∷ vs) e = absurd (omega arith)
reading_length (r ∷ rs) [] e = absurd (omega arith)
reading_length (r ∷ rs) (v ∷ vs) e = let on = reading_length rs vs (omega arith) in omega arith

pub set_length : (s : ConsumptionSet) → length (reading_bytes (regimes_of s) (values_of s)) ≡ 6 * s.count
set_length s = reading_length (regimes_of s) (values_of s) (regimes_length s ∙ sym (values_length s)) ∙ ap (λ n. 6 * n) (regimes_length s)

-- what is read of n readings
pub record SetRead (n : ℕ) (xs : List ℕ) (i : ℕ) (s : ConsumptionSet) : Type 0 where
  pub count : s.count ≡ n
  pub regimes : AllByRecursion Id (regimes_of s)
  pub values : AllByRecursion Value (values_of s)
  pub bytes : reading_bytes (regimes_of s) (values_of s) ++ drop (i + 6 * n) xs ≡ drop i xs

reading_in_range : (regime : ℕ) (value : ℤ) → regime < 65536 → is_reading regime value ≡ true → Id regime × Value value
reading_in_range regime value h t =
    let p = and_parts (is_id regime) (is_value value) t in
    let low = leb-true 1 regime p.0 in
    ((low, omega arith), leb-true (nat_abs value) 2000000000 p.1)

module _ (xs : List ℕ) (b : Bytes xs) (i n : ℕ) (t : ConsumptionSet) (few : n < 4) (long : i + 6 * suc n ≤ length xs) where
  -- the next reading
  set_step : SetRead n xs i t → is_reading (word xs (i + 6 * n)) (signed xs (i + 6 * n + 2)) ≡ true → SetRead (suc n) xs i (pushed t (word xs (i + 6 * n)) (signed xs (i + 6 * n + 2)))
  set_step g e =
      let k = i + 6 * n in
      let count = g.count in
      let room : t.count < 4 = omega arith in
      let ranges = reading_in_range (word xs k) (signed xs (k + 2)) (word_below xs b k (omega arith)) e in
      let rs = pushed_regimes t (word xs k) (signed xs (k + 2)) room in
      let vs = pushed_values t (word xs k) (signed xs (k + 2)) room in
      let same : length (regimes_of t) ≡ length (values_of t) = regimes_length t ∙ sym (values_length t) in
      let next : i + 6 * suc n ≡ k + 6 = omega arith in
      let here : word_bytes (word xs k) ++ (long_bytes (of_z w32 (signed xs (k + 2))) ++ drop (i + 6 * suc n) xs) ≡ drop k xs =
      ap (λ m. word_bytes (word xs k) ++ (long_bytes (of_z w32 (signed xs (k + 2))) ++ drop m xs)) next
      ∙ joint xs (word_bytes (word xs k)) (long_bytes (of_z w32 (signed xs (k + 2)))) k 2 4 (word_at xs b k (omega arith)) (signed_at xs b (k + 2) (omega arith)) in
      record {
        count = let c = pushed_count t (word xs k) (signed xs (k + 2)) room in omega arith;
        regimes = subst (AllByRecursion Id) (sym rs) (All-push Id (regimes_of t) (word xs k) g.regimes ranges.0);
        values = subst (AllByRecursion Value) (sym vs) (All-push Value (values_of t) (signed xs (k + 2)) g.values ranges.1);
        bytes =
            ap (λ (ys : List ℕ). ys ++ drop (i + 6 * suc n) xs) (ap (λ (ys : List ℕ). reading_bytes ys (values_of (pushed t (word xs k) (signed xs (k + 2))))) rs ∙ ap (reading_bytes (regimes_of t ++ word xs k ∷ [])) vs ∙ reading_more (regimes_of t) (values_of t) (word xs k) (signed xs (k + 2)) same)
            ∙ append_assoc (reading_bytes (regimes_of t) (values_of t)) (word_bytes (word xs k) ++ long_bytes (of_z w32 (signed xs (k + 2)))) (drop (i + 6 * suc n) xs)
            ∙ ap (λ (ys : List ℕ). reading_bytes (regimes_of t) (values_of t) ++ ys) here
            ∙ g.bytes;
      }

pub set_read : (n : ℕ) (xs : List ℕ) (i : ℕ) (s : ConsumptionSet) → Bytes xs → n ≤ 4 → i + 6 * n ≤ length xs → sets n xs i ≡ Some s → SetRead n xs i s
set_read zero xs i s b few long e =
    let empty : empty_set ≡ s = cc in
    subst (SetRead 0 xs i) empty (record { count = refl; regimes = tt; values = tt; bytes = ap (λ k. drop k xs) (add-zero i) })
set_read (suc n) xs i s b few long e =
    let m = made_some (is_reading (word xs (i + 6 * n)) (signed xs (i + 6 * n + 2))) (λ t. pushed t (word xs (i + 6 * n)) (signed xs (i + 6 * n + 2))) (sets n xs i) s e in
    subst (SetRead (suc n) xs i) m.3 (set_step xs b i n m.0 (omega arith) long (set_read n xs i m.0 b (omega arith) (omega arith) m.1) m.2)

-- each reading stands six bytes behind the one before
reading_at : (rs : List ℕ) (vs : List ℤ) (rest : List ℕ) (k : ℕ) → AllByRecursion Value vs → length rs ≡ length vs → k < length rs → (word (reading_bytes rs vs ++ rest) (6 * k) ≡ get_or rs k 0) × (signed (reading_bytes rs vs ++ rest) (6 * k + 2) ≡ get_or vs k (pos 0))
reading_at [] vs rest k h e l = absurd (omega arith)
reading_at (r ∷ rs) [] rest k h e l = absurd (omega arith)
reading_at (r ∷ rs) (v ∷ vs) rest zero h e l = (word_of r, signed_back v (reading_bytes rs vs ++ rest) h.0)
reading_at (r ∷ rs) (v ∷ vs) rest (suc k) h e l =
    let ys = reading_bytes (r ∷ rs) (v ∷ vs) ++ rest in
    let on = reading_at rs vs rest k h.1 (omega arith) (omega arith) in
    let p : 6 * suc k ≡ 6 + 6 * k = omega arith in
    let q : 6 * suc k + 2 ≡ 6 + (6 * k + 2) = omega arith in (
      ap (word ys) p ∙ word_drop ys 6 (6 * k) ∙ on.0,
      ap (signed ys) q ∙ ap (to_z w32) (long_drop ys 6 (6 * k + 2)) ∙ on.1,
    )

-- what is read of the first n readings of a set
record SetBegun (s : ConsumptionSet) (n : ℕ) (xs : List ℕ) (i : ℕ) : Type 0 where
  pub set : ConsumptionSet
  pub read : sets n xs i ≡ Some set
  pub count : set.count ≡ n
  pub regimes : regimes_of set ≡ take n (regimes_of s)
  pub values : values_of set ≡ take n (values_of s)

one_more : {X : Type 0} (xs ys : List X) (n : ℕ) (d x : X) → n < length xs → ys ≡ take n xs → x ≡ get_or xs n d → ys ++ x ∷ [] ≡ take (suc n) xs
one_more xs ys n d x h p q = ap (λ zs. zs ++ x ∷ []) p ∙ ap (λ z. take n xs ++ z ∷ []) q ∙ sym (take_more xs n d h) ∙ ap (λ k. take k xs) (add-one n)

reading_passes : (regime : ℕ) (value : ℤ) → Id regime → Value value → is_reading regime value ≡ true
reading_passes regime value r v = and_from (is_id regime) (is_value value) (le-leb 1 regime r.0) (le-leb (nat_abs value) 2000000000 v)

module _ (s : ConsumptionSet) (xs : List ℕ) (i : ℕ) (rest : List ℕ) (rs : AllByRecursion Id (regimes_of s)) (vs : AllByRecursion Value (values_of s)) (e : drop i xs ≡ reading_bytes (regimes_of s) (values_of s) ++ rest) where
  begun_more : (n : ℕ) → n < s.count → SetBegun s n xs i → SetBegun s (suc n) xs i
  begun_more n h before =
      let t = before.set in
      let regime = word xs (i + 6 * n) in
      let value = signed xs (i + 6 * n + 2) in
      let few = s.few in
      let rl = regimes_length s in
      let vl = values_length s in
      let at = reading_at (regimes_of s) (values_of s) rest n vs (rl ∙ sym vl) (omega arith) in
      let regime-is : regime ≡ get_or (regimes_of s) n 0 = word_drop xs i (6 * n) ∙ ap (λ ys. word ys (6 * n)) e ∙ at.0 in
      let value-is : value ≡ get_or (values_of s) n (pos 0) =
      ap (signed xs) (add_assoc i (6 * n) 2) ∙ ap (to_z w32) (long_drop xs i (6 * n + 2)) ∙ ap (λ ys. signed ys (6 * n + 2)) e ∙ at.1 in
      let id = All-get_or Id (regimes_of s) n 0 (omega arith) rs in
      let small = All-get_or Value (values_of s) n (pos 0) (omega arith) vs in
      let test = reading_passes regime value (subst Id (sym regime-is) id) (subst Value (sym value-is) small) in
      let count = before.count in
      let room : t.count < 4 = omega arith in
      record {
        set = pushed t regime value;
        read = ap (made (is_reading regime value) (λ u. pushed u regime value)) before.read ∙ then_some_is (is_reading regime value) (pushed t regime value) test;
        count = let c = pushed_count t regime value room in omega arith;
        regimes = pushed_regimes t regime value room ∙ one_more (regimes_of s) (regimes_of t) n 0 regime (omega arith) before.regimes regime-is;
        values = pushed_values t regime value room ∙ one_more (values_of s) (values_of t) n (pos 0) value (omega arith) before.values value-is;
      }

  begun : (n : ℕ) → n ≤ s.count → SetBegun s n xs i
  begun zero h = record { set = empty_set; read = refl; count = refl; regimes = refl; values = refl }
  begun (suc n) h = begun_more n h (begun n (omega arith))

  -- a set that stands there is read
  pub set_written : sets s.count xs i ≡ Some s
  set_written =
      let all = begun s.count (omega arith) in
      let rl = regimes_length s in
      let vl = values_length s in
      all.read
      ∙ ap (λ (t : ConsumptionSet). Some t) (same_readings all.set s all.count (all.regimes ∙ take_all s.count (regimes_of s) (omega arith)) (all.values ∙ take_all s.count (values_of s) (omega arith)))
