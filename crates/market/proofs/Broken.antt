-- The first entry of a list that breaks a rule, and what it means that none does.
use Rattle.std.proofs.Common.{◌≡◌, ℕ, zero, suc, ◌+◌, ◌<◌, Bool, true, false, cond, List, [], ◌∷◌, ◌++◌, map, length, get_or, Some, None, Option, sym, refl, ap, ◌∙◌, subst, ⊎_elim, le_of_suc-le-suc, not-suc-le-zero, add-zero, arith}
use Rattle.std.specs.List.{slice_get, AllByRecursion}
use Rattle.std.specs.Option.{option_map, option_or}
use Rattle.std.proofs.lemmas.Bool.{cases_Bool, cond-true, cond-false}
use Rattle.std.proofs.lemmas.Option.{none-some}
use Rattle.market.specs.Orders.{Ordered, first, previous}
use Rattle.market.specs.Tests.{told, first_broken}

module _ {X : Type 0} (test : X → Bool) where
  pub first_passes : (xs : List X) (x : X) → first test xs ≡ Some x → test x ≡ true
  first_passes [] x e = absurd (none-some x e)
  first_passes (y ∷ ys) x e =
      ⊎_elim (λ t. let s : y ≡ x = cc (cond-true (test y) (Some y) (first test ys) t) in ap test (sym s) ∙ t)
      (λ f. first_passes ys x (sym (cond-false (test y) (Some y) (first test ys) f) ∙ e))
      (cases_Bool (test y))

  pub first_none : (xs : List X) → first test xs ≡ None → AllByRecursion (λ x. test x ≡ false) xs
  first_none [] e = tt
  first_none (y ∷ ys) e =
      ⊎_elim (λ t. absurd (none-some y (sym e ∙ cond-true (test y) (Some y) (first test ys) t)))
      (λ f. (f, first_none ys (sym (cond-false (test y) (Some y) (first test ys) f) ∙ e)))
      (cases_Bool (test y))

  pub first_append : (xs ys : List X) → first test (xs ++ ys) ≡ option_or (first test xs) (first test ys)
  first_append [] ys = refl
  first_append (x ∷ xs) ys =
      elim (test x) as (λ t. cond t (Some x) (first test (xs ++ ys)) ≡ option_or (cond t (Some x) (first test xs)) (first test ys)) [ true ↦ refl | false ↦ first_append xs ys ]

module _ {X K R : Type 0} (key : X → K) (rule : Option K → X → Option R) where
  -- no entry breaks a rule
  abbrev pub Clear : Option K → List X → Type 0
  Clear before [] = Unit {0}
  Clear before (x ∷ xs) = (rule before x ≡ None) × Clear (Some (key x)) xs

  none_told : (o : Option R) (place : ℕ) (later : Option (R × ℕ)) → told o place later ≡ None → (o ≡ None) × (later ≡ None)
  none_told None place later e = (refl, e)
  none_told (Some r) place later e = absurd (none-some (r, place) (sym e))

  pub clear : (before : Option K) (place : ℕ) (xs : List X) → first_broken key rule before place xs ≡ None → Clear before xs
  clear before place [] e = tt
  clear before place (x ∷ xs) e = let p = none_told (rule before x) place _ e in (p.0, clear (Some (key x)) (suc place) xs p.1)

  pub clear_all : (P : X → Type 0) → ((before : Option K) (x : X) → rule before x ≡ None → P x) → (before : Option K) (xs : List X) → Clear before xs → AllByRecursion P xs
  clear_all P each before [] h = tt
  clear_all P each before (x ∷ xs) h = (each before x h.0, clear_all P each (Some (key x)) xs h.1)

  module _ (Below : K → K → Type 0) (onward : (a b c : K) → Below a b → Below b c → Below a c) (each : (b : K) (x : X) → rule (Some b) x ≡ None → Below b (key x)) where
    above : (b : K) (xs : List X) → Clear (Some b) xs → (j : ℕ) (d : K) → j < length (map key xs) → Below b (get_or (map key xs) j d)
    above b [] h j d l = absurd (not-suc-le-zero l)
    above b (x ∷ xs) h zero d l = each b x h.0
    above b (x ∷ xs) h (suc j) d l = onward _ _ _ (each b x h.0) (above (key x) xs h.1 j d (le_of_suc-le-suc l))

    pub clear_ordered : (before : Option K) (xs : List X) → Clear before xs → Ordered Below (map key xs)
    clear_ordered before [] h i j d l m = absurd (not-suc-le-zero m)
    clear_ordered before (x ∷ xs) h i zero d l m = absurd (not-suc-le-zero l)
    clear_ordered before (x ∷ xs) h zero (suc j) d l m = above (key x) xs h.1 j d (le_of_suc-le-suc m)
    clear_ordered before (x ∷ xs) h (suc i) (suc j) d l m = clear_ordered (Some (key x)) xs h.1 i j d (le_of_suc-le-suc l) (le_of_suc-le-suc m)

  -- what stands before a place of a list that itself has something before it
  abbrev earlier : Option K → List K → ℕ → Option K
  earlier before ks zero = before
  earlier before ks (suc i) = slice_get ks i

  -- the entry at a place breaks the rule
  abbrev pub AtPlace : (Option K → List K → ℕ → Option K) → Option K → List X → R → ℕ → Type 0
  AtPlace before_at before xs r i = (i < length xs) × ((d : X) → rule (before_at before (map key xs) i) (get_or xs i d) ≡ Some r)

  earlier_more : (k : K) (ks : List K) (i : ℕ) → earlier (Some k) ks i ≡ slice_get (k ∷ ks) i
  earlier_more k ks zero = refl
  earlier_more k ks (suc i) = refl

  placed : (before : Option K) (place : ℕ) (xs : List X) (r : R) (n : ℕ) → first_broken key rule before place xs ≡ Some (r, n) → (i : ℕ) × (n ≡ place + i) × AtPlace earlier before xs r i
  placed before place [] r n e = absurd (none-some (r, n) e)
  placed before place (x ∷ xs) r n e = here (rule before x) refl (λ f. placed (Some (key x)) (suc place) xs r n f) e
    where
      here : (o : Option R) → rule before x ≡ o → (first_broken key rule (Some (key x)) (suc place) xs ≡ Some (r, n) → (i : ℕ) × (n ≡ suc place + i) × AtPlace earlier (Some (key x)) xs r i) → told o place (first_broken key rule (Some (key x)) (suc place) xs) ≡ Some (r, n) → (i : ℕ) × (n ≡ place + i) × AtPlace earlier before (x ∷ xs) r i
      here None is later f =
          let p = later f in
          (suc p.0, omega (arith, p.1), (omega (arith, p.2.0), λ d. ap (λ b. rule b (get_or xs p.0 d)) (sym (earlier_more (key x) (map key xs) p.0)) ∙ p.2.1 d))
      here (Some s) is later f =
          let same : ◌≡◌ {A = R × ℕ} (s, place) (r, n) = cc in
          (0, sym (ap (λ p. p.1) same) ∙ sym (add-zero place), (omega arith, λ d. is ∙ ap (λ p. Some p.0) same))

  none_before : (ks : List K) (i : ℕ) → earlier None ks i ≡ previous ks i
  none_before ks zero = refl
  none_before ks (suc i) = refl

  pub broken_at : (xs : List X) (r : R) (n : ℕ) → first_broken key rule None 0 xs ≡ Some (r, n) → (n < length xs) × ((d : X) → rule (previous (map key xs) n) (get_or xs n d) ≡ Some r)
  broken_at xs r n e =
      let p = placed None 0 xs r n e in
      let s : p.0 ≡ n = omega (arith, p.1) in
      let at : AtPlace earlier None xs r n = subst (AtPlace earlier None xs r) s p.2 in
      (at.0, λ d. ap (λ b. rule b (get_or xs n d)) (sym (none_before (map key xs) n)) ∙ at.1 d)

-- the entries of a list as a rule reads them
pub broken_map : {X Y K R : Type 0} (f : X → Y) (key : Y → K) (rule : Option K → Y → Option R) (before : Option X) (place : ℕ) (xs : List X) → first_broken (λ x. x) (λ b x. rule (option_map (λ y. key (f y)) b) (f x)) before place xs ≡ first_broken key rule (option_map (λ y. key (f y)) before) place (map f xs)
broken_map f key rule before place [] = refl
broken_map f key rule before place (x ∷ xs) = ap (told (rule (option_map (λ y. key (f y)) before) (f x)) place) (broken_map f key rule (Some x) (suc place) xs)
