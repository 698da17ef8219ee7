-- Consumption sets: at most four regimes with a value each, and zeros behind them.
use Rattle.std.specs.Prelude.{◌≡◌, ℕ, ◌+◌, ◌<◌, Bool, true, false, List, take, replicate, ℤ, pos, nat_lt, slice_set, refl}
use Rattle.std.proofs.Common.{arith, lit≤}
use Rattle.std.proofs.lemmas.Bool.{ltb-true}
use Rattle.fields.specs.Padding.{padded_more}
use Rattle.fields.specs.declared.consumption.ConsumptionSet.{ConsumptionSet}

-- the regimes of a set, and their values
abbrev pub regimes_of : ConsumptionSet → List ℕ
regimes_of s = take s.count s.regimes

abbrev pub values_of : ConsumptionSet → List ℤ
values_of s = take s.count s.values

-- the set of no regime
abbrev pub empty_set : ConsumptionSet
empty_set = record {
  count = 0;
  regimes = replicate 4 0;
  values = replicate 4 (pos 0);
  few = lit≤ tt;
  regimes_padded = (refl, refl);
  values_padded = (refl, refl);
}

-- one regime more with its value
abbrev pub with_one : (s : ConsumptionSet) → ℕ → ℤ → s.count < 4 → ConsumptionSet
with_one s regime value h = record {
  count = s.count + 1;
  regimes = slice_set s.regimes s.count regime;
  values = slice_set s.values s.count value;
  few = omega arith;
  regimes_padded = padded_more 0 s.count s.regimes regime s.regimes_padded;
  values_padded = padded_more (pos 0) s.count s.values value s.values_padded;
}

abbrev pub if_room : (s : ConsumptionSet) → ℕ → ℤ → (room : Bool) → nat_lt s.count 4 ≡ room → ConsumptionSet
if_room s regime value true e = with_one s regime value (ltb-true s.count 4 e)
if_room s regime value false e = s

-- the same, where there is room; a set of four stays as it is
abbrev pub pushed : ConsumptionSet → ℕ → ℤ → ConsumptionSet
pushed s regime value = if_room s regime value (nat_lt s.count 4) refl
