-- Reading the regimes of a consumption set one by one.
use Rattle.std.proofs.Common.{◌≡◌, ℕ, zero, suc, ◌+◌, ◌-◌, ◌*◌, ◌<◌, ◌≤◌, Bool, true, false, cond, leb, List, [], ℤ, length, get_or, take, drop, Some, None, Ok, Err, Option, Result, sym, refl, ap, ◌∙◌, add-zero, add-suc, add-one, w32, to_z, arith}
use Rattle.std.specs.Bool.{then_some}
use Rattle.std.specs.Simd.{first_chunks}
use Rattle.std.proofs.lemmas.Bool.{le-leb, cond-true}
use Rattle.std.proofs.lemmas.Bool.Decides.{nat_tests}
use Rattle.std.proofs.lemmas.List.{get_or-take, get_or-drop, drop-drop, length-drop, take_rest}
use Rattle.fields.specs.Sets.{pushed}
use Rattle.fields.specs.declared.consumption.ConsumptionSet.{ConsumptionSet}
use Rattle.commands.specs.declared.causes.Cause.{Cause}
use Rattle.commands.specs.declared.causes.Cause.TheVariants.{CutShort, OutOfRange}
use Rattle.commands.specs.Commands.{whole, ranged, sought, listed}
use Rattle.commands.specs.Numbers.{byte, word, long, signed}
use Rattle.commands.specs.Ranges.{is_reading, is_set_size}
use Rattle.commands.specs.Records.{made, with_regime, sets}

chunk_there : (m k : ℕ) (xs : List ℕ) → k < m → get_or (first_chunks 6 m xs) k [] ≡ take 6 (drop (6 * k) xs)
chunk_there zero k xs h = absurd (omega arith)
chunk_there (suc m) zero xs h = refl
chunk_there (suc m) (suc k) xs h =
    chunk_there m k (drop 6 xs) (omega arith)
    ∙ ap (take 6) (drop-drop (6 * k) 6 xs ∙ ap (λ n. drop n xs) (let e : 6 + 6 * k ≡ 6 * suc k = omega arith in e))

-- six bytes say the same at a place of one list and at a place of another
module _ (ys xs : List ℕ) (p q : ℕ) (same : (i j l : ℕ) → i < 6 → p + i ≡ j → q + i ≡ l → byte ys j ≡ byte xs l) where
  regime_same : word ys p ≡ word xs q
  regime_same =
      let a = same 0 p q (omega arith) (omega arith) (omega arith) in
      let b = same 1 (p + 1) (q + 1) (omega arith) (omega arith) (omega arith) in
      omega arith

  value_same : signed ys (p + 2) ≡ signed xs (q + 2)
  value_same =
      let a = same 2 (p + 2) (q + 2) (omega arith) (omega arith) (omega arith) in
      let b = same 3 (p + 2 + 1) (q + 2 + 1) (omega arith) (omega arith) (omega arith) in
      let c = same 4 (p + 2 + 2) (q + 2 + 2) (omega arith) (omega arith) (omega arith) in
      let d = same 5 (p + 2 + 2 + 1) (q + 2 + 2 + 1) (omega arith) (omega arith) (omega arith) in
      ap (to_z w32) (let e : long ys (p + 2) ≡ long xs (q + 2) = omega arith in e)

-- a set behind a place is the set at the front of what stands there
pub sets_from : (n at : ℕ) (xs : List ℕ) → sets n (drop at xs) 0 ≡ sets n xs at
sets_from zero at xs = refl
sets_from (suc n) at xs =
    let same : (i j l : ℕ) → i < 6 → 0 + 6 * n + i ≡ j → at + 6 * n + i ≡ l → byte (drop at xs) j ≡ byte xs l =
    λ i j l s e f. get_or-drop at xs j 0 ∙ ap (byte xs) (omega arith) in
    ap (λ o. with_regime o (word (drop at xs) (0 + 6 * n)) (signed (drop at xs) (0 + 6 * n + 2))) (sets_from n at xs)
    ∙ ap (λ w. with_regime (sets n xs at) w (signed (drop at xs) (0 + 6 * n + 2))) (regime_same (drop at xs) xs (0 + 6 * n) (at + 6 * n) same)
    ∙ ap (with_regime (sets n xs at) (word xs (at + 6 * n))) (value_same (drop at xs) xs (0 + 6 * n) (at + 6 * n) same)

none_on : (k m : ℕ) (xs : List ℕ) (i : ℕ) → sets k xs i ≡ None → sets (k + m) xs i ≡ None
none_on k zero xs i e = rw add-zero e
none_on k (suc m) xs i e = rw add-suc (ap (λ o. with_regime o (word xs (i + 6 * (k + m))) (signed xs (i + 6 * (k + m) + 2))) (none_on k m xs i e))

then_some_ok : {X : Type 0} (b : Bool) (x y : X) → ◌≡◌ {A = Result X Cause} (Ok y) (ranged (then_some b x)) → (b ≡ true) × (y ≡ x)
then_some_ok true x y e = (refl, (cc))
then_some_ok false x y e = absurd (cc)

then_some_err : {X : Type 0} (b : Bool) (x : X) (cause : Cause) → ◌≡◌ {A = Result X Cause} (Err cause) (ranged (then_some b x)) → (b ≡ false) × (cause ≡ OutOfRange)
then_some_err true x cause e = absurd (cc)
then_some_err false x cause e = (refl, (cc))

-- the regimes as they are read: six bytes each, the first n of m
module _ (n m k : ℕ) (xs : List ℕ) (regimes : List (List ℕ)) (all : regimes ≡ take n (first_chunks 6 m xs)) (h : k < n) (enough : n ≤ m) where
  abbrev next : List ℕ
  next = get_or regimes k []

  next_byte : (i j l : ℕ) → i < 6 → 0 + i ≡ j → 0 + 6 * k + i ≡ l → byte next j ≡ byte xs l
  next_byte i j l s e f =
      ap (λ ys. byte (get_or ys k []) j) all
      ∙ ap (λ ys. byte ys j) (get_or-take n (first_chunks 6 m xs) k [] h ∙ chunk_there m k xs (omega arith))
      ∙ get_or-take 6 (drop (6 * k) xs) j 0 (omega arith)
      ∙ get_or-drop (6 * k) xs j 0
      ∙ ap (byte xs) (omega arith)

  abbrev in_range : Bool
  in_range = is_reading (word next 0) (signed next 2)

  module _ (s : ConsumptionSet) (e : sets k xs 0 ≡ Some s) where
    step : sets (k + 1) xs 0 ≡ then_some in_range (pushed s (word next 0) (signed next 2))
    step =
        ap (λ j. sets j xs 0) (add-one k)
        ∙ ap (λ o. with_regime o (word xs (0 + 6 * k)) (signed xs (0 + 6 * k + 2))) e
        ∙ sym (ap (λ w. with_regime (Some s) w (signed xs (0 + 6 * k + 2))) (regime_same next xs 0 (0 + 6 * k) next_byte))
        ∙ sym (ap (with_regime (Some s) (word next 0)) (value_same next xs 0 (0 + 6 * k) next_byte))

    pub regime_more : (regime : ℕ) (value : ℤ) → ◌≡◌ {A = Result (ℕ × ℤ) Cause} (Ok (regime, value)) (ranged (then_some in_range (word next 0, signed next 2))) → sets (k + 1) xs 0 ≡ Some (pushed s regime value)
    regime_more regime value r =
        let g = then_some_ok in_range (word next 0, signed next 2) (regime, value) r in
        step
        ∙ ap (λ b. then_some b (pushed s (word next 0) (signed next 2))) g.0
        ∙ sym (ap (λ (p : ℕ × ℤ). Some (pushed s p.0 p.1)) g.1)

    -- a regime out of range leaves no set, however many follow
    pub regime_stop : (cause : Cause) → ◌≡◌ {A = Result (ℕ × ℤ) Cause} (Err cause) (ranged (then_some in_range (word next 0, signed next 2))) → (cause ≡ OutOfRange) × (sets n xs 0 ≡ None)
    regime_stop cause r =
        let g = then_some_err in_range (word next 0, signed next 2) cause r in
        let j : (k + 1) + (n - (k + 1)) ≡ n = omega arith in
        (g.1, sym (ap (λ i. sets i xs 0) j) ∙ none_on (k + 1) (n - (k + 1)) xs 0 (step ∙ ap (λ b. then_some b (pushed s (word next 0) (signed next 2))) g.0))

leb_less : (a b at : ℕ) → at ≤ b → leb (0 + a) (b - at) ≡ leb (at + a) b
leb_less a b at h = grind (arith, nat_tests)

-- a set that is read of the bytes behind a place is read from that place on
set_behind : (n at : ℕ) (xs : List ℕ) → at ≤ length xs → listed (sought n 0 (drop at xs)) (sets n (drop at xs) 0) ≡ listed (sought n at xs) (sets n xs at)
set_behind n at xs h =
    ap (listed (sought n 0 (drop at xs))) (sets_from n at xs)
    ∙ ap (λ (t : Bool). listed (cond (is_set_size n) (cond t (Ok tt) (Err CutShort)) (Err OutOfRange)) (sets n xs at))
    (ap (leb (0 + 6 * n)) (length-drop at xs) ∙ leb_less (6 * n) (length xs) at h)

listed_made : {X Y : Type 0} (b : Bool) (f : X → Y) (t : Result (Unit {0}) Cause) (o : Option X) (x : X) → Ok x ≡ listed t o → b ≡ true → listed t (made b f o) ≡ Ok (f x)
listed_made b f (Err d) o x e h = absurd (cc)
listed_made b f (Ok t) None x e h = absurd (cc)
listed_made b f (Ok t) (Some y) x e h = ap (λ c. ranged (then_some c (f y))) h ∙ (cc)

listed_unmade : {X Y : Type 0} (b : Bool) (f : X → Y) (t : Result (Unit {0}) Cause) (o : Option X) (cause : Cause) → Err cause ≡ listed t o → listed t (made b f o) ≡ Err cause
listed_unmade b f (Err d) o cause e = cc
listed_unmade b f (Ok t) None cause e = cc
listed_unmade b f (Ok t) (Some y) cause e = absurd (cc)

-- a row that ends in a set, by what is read of the bytes behind its operands of fixed size
module _ {Y : Type 0} (n at : ℕ) (xs : List ℕ) (enough : at ≤ length xs) (b : Bool) (f : ConsumptionSet → Y) where
  abbrev behind : List ℕ
  behind = take (length xs - at) (drop at xs)

  same : listed (sought n 0 behind) (sets n behind 0) ≡ listed (sought n at xs) (sets n xs at)
  same = ap (λ ys. listed (sought n 0 ys) (sets n ys 0)) (take_rest xs at) ∙ set_behind n at xs enough

  here : (r : Result Y Cause) → whole at xs r ≡ r
  here r = cond-true (leb at (length xs)) r (Err CutShort) (le-leb at (length xs) enough)

  pub row_made : (s : ConsumptionSet) → Ok s ≡ listed (sought n 0 behind) (sets n behind 0) → b ≡ true → Ok (f s) ≡ whole at xs (listed (sought n at xs) (made b f (sets n xs at)))
  row_made s e h = sym (here _ ∙ listed_made b f (sought n at xs) (sets n xs at) s (e ∙ same) h)

  pub row_unmade : (cause : Cause) → Err cause ≡ listed (sought n 0 behind) (sets n behind 0) → Err cause ≡ whole at xs (listed (sought n at xs) (made b f (sets n xs at)))
  row_unmade cause e = sym (here _ ∙ listed_unmade b f (sought n at xs) (sets n xs at) cause (e ∙ same))
