-- Two consumption sets with the same fields are one set: what a ghost field says has one proof.
use Rattle.std.proofs.Common.{◌≡◌, ℕ, ◌<◌, ◌≤◌, Bool, true, false, ltb, List, ℤ, pos, sym, refl}
use mathlib.Core.HLevel.{×_prop, is_prop→PathP}
use native.Mathlib.Bridge.{le_prop}
use native.Mathlib.Nat.{ℕ_set}
use base.Stored.{Coded, Coded-set, coded_ℕ, coded_ℤ, coded_list}
use Rattle.fields.specs.Padding.{Padded}
use Rattle.std.proofs.lemmas.Bool.{false≢true, lt-ltb, le-ltb}
use Rattle.fields.specs.Sets.{with_one, if_room, pushed}
use Rattle.fields.specs.declared.consumption.ConsumptionSet.{ConsumptionSet}

padded_prop : {X : Type 0} (c : Coded X) (blank : X) (count : ℕ) (xs : List X) → IsProp (Padded blank count xs)
padded_prop c blank count xs = ×_prop (ℕ_set _ _) (Coded-set (coded_list c) _ _)

pub set_path : (s t : ConsumptionSet) → s.count ≡ t.count → s.regimes ≡ t.regimes → s.values ≡ t.values → s ≡ t
set_path s t p q r = λ i. record {
  count = p i;
  regimes = q i;
  values = r i;
  few = is_prop→PathP (λ j. p j ≤ 4) (λ j. le_prop) s.few t.few i;
  regimes_padded = is_prop→PathP (λ j. Padded 0 (p j) (q j)) (λ j. padded_prop coded_ℕ 0 (p j) (q j)) s.regimes_padded t.regimes_padded i;
  values_padded = is_prop→PathP (λ j. Padded (pos 0) (p j) (r j)) (λ j. padded_prop coded_ℤ (pos 0) (p j) (r j)) s.values_padded t.values_padded i;
}

if_room_lem : (s : ConsumptionSet) (regime : ℕ) (value : ℤ) (h : s.count < 4) (b : Bool) (e : ltb s.count 4 ≡ b) → b ≡ true → if_room s regime value b e ≡ with_one s regime value h
if_room_lem s regime value h true e t = set_path _ _ refl refl refl
if_room_lem s regime value h false e t = absurd (false≢true t)

-- one regime more, where there is room
pub pushed_room : (s : ConsumptionSet) (regime : ℕ) (value : ℤ) (h : s.count < 4) → pushed s regime value ≡ with_one s regime value h
pushed_room s regime value h = if_room_lem s regime value h (ltb s.count 4) refl (lt-ltb s.count 4 h)

no_room : (s : ConsumptionSet) (regime : ℕ) (value : ℤ) (b : Bool) (e : ltb s.count 4 ≡ b) → b ≡ false → if_room s regime value b e ≡ s
no_room s regime value true e f = absurd (false≢true (sym f))
no_room s regime value false e f = refl

pub pushed_full : (s : ConsumptionSet) (regime : ℕ) (value : ℤ) → 4 ≤ s.count → pushed s regime value ≡ s
pushed_full s regime value h = no_room s regime value (ltb s.count 4) refl (le-ltb s.count 4 h)
