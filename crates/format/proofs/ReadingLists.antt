-- Consumption sets as lists of readings: their lengths, one reading more, and that a set is what its readings are.
use Rattle.std.proofs.Common.{◌≡◌, ℕ, ◌+◌, ◌-◌, ◌<◌, List, [], ◌∷◌, ◌++◌, length, take, replicate, ℤ, pos, sym, ap, ◌∙◌, arith}
use Rattle.std.proofs.lemmas.List.{take-append-drop, take_more_set, length-take-le}
use Rattle.fields.specs.Padding.{Padded}
use Rattle.fields.specs.Sets.{regimes_of, values_of, pushed}
use Rattle.fields.specs.declared.consumption.ConsumptionSet.{ConsumptionSet}
use Rattle.fields.proofs.SetPaths.{set_path, pushed_room}

module _ (s : ConsumptionSet) where
  pub regimes_length : length (regimes_of s) ≡ s.count
  regimes_length = let few = s.few in let four = s.regimes_padded.0 in length-take-le s.count s.regimes (omega arith)

  pub values_length : length (values_of s) ≡ s.count
  values_length = let few = s.few in let four = s.values_padded.0 in length-take-le s.count s.values (omega arith)

-- the entries in use tell the rest
padded_same : {X : Type 0} (blank : X) (m n : ℕ) (xs ys : List X) → Padded blank m xs → Padded blank n ys → m ≡ n → take m xs ≡ take n ys → xs ≡ ys
padded_same blank m n xs ys p q e t =
    sym (take-append-drop m xs)
    ∙ ap (λ zs. take m xs ++ zs) p.1
    ∙ ap (λ k. take m xs ++ replicate (4 - k) blank) e
    ∙ ap (λ zs. zs ++ replicate (4 - n) blank) t
    ∙ ap (λ zs. take n ys ++ zs) (sym q.1)
    ∙ take-append-drop n ys

pub same_readings : (s t : ConsumptionSet) → s.count ≡ t.count → regimes_of s ≡ regimes_of t → values_of s ≡ values_of t → s ≡ t
same_readings s t c r v =
    set_path s t c
    (padded_same 0 s.count t.count s.regimes t.regimes s.regimes_padded t.regimes_padded c r)
    (padded_same (pos 0) s.count t.count s.values t.values s.values_padded t.values_padded c v)

-- one reading more, where there is room
module _ (s : ConsumptionSet) (regime : ℕ) (value : ℤ) (room : s.count < 4) where
  pub pushed_count : (pushed s regime value).count ≡ s.count + 1
  pushed_count = ap (λ (t : ConsumptionSet). t.count) (pushed_room s regime value room)

  pub pushed_regimes : regimes_of (pushed s regime value) ≡ regimes_of s ++ regime ∷ []
  pushed_regimes =
      let four = s.regimes_padded.0 in
      ap regimes_of (pushed_room s regime value room) ∙ take_more_set s.regimes s.count regime (omega arith)

  pub pushed_values : values_of (pushed s regime value) ≡ values_of s ++ value ∷ []
  pushed_values =
      let four = s.values_padded.0 in
      ap values_of (pushed_room s regime value room) ∙ take_more_set s.values s.count value (omega arith)
