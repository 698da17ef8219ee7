-- What is looked up in an edition is what a plain search finds in its lists, if they are lawful.
use Rattle.std.proofs.Common.{◌≡◌, ℕ, suc, Bool, true, false, cond, ◌&&◌, eqb, List, [], ◌∷◌, map, get_or, Some, None, MatchOption, Decides, Option, sym, refl, ap, ◌∙◌, ⊎_elim, arith, Bor}
use Rattle.std.specs.Bool.{then_some}
use Rattle.std.specs.List.{ContainsAt as Has}
use Rattle.std.specs.Option.{option_map}
use Rattle.std.proofs.lemmas.Bool.{cases_Bool, both_ways, cond-true, cond-false, and_left}
use Rattle.std.proofs.lemmas.Bool.Decides.{Decides-and, Decides-eqb}
use Rattle.market.specs.Faults.{is_lawful}
use Rattle.market.specs.Keys.{is_of, is_on}
use Rattle.market.specs.Lawful.{Precedes, key_of}
use Rattle.market.specs.Lists.{listed}
use Rattle.market.specs.Lookups.{lists_in, HasSupplier, regimes_of, default_on}
use Rattle.market.specs.Orders.{Ordered, first}
use Rattle.market.specs.declared.checked.CheckedEdition.{CheckedEdition}
use Rattle.market.specs.declared.checked.LawfulEdition.{LawfulEdition}
use Rattle.market.specs.declared.edition.Combination.{Combination}
use Rattle.market.specs.declared.edition.Configuration.{Configuration}
use Rattle.market.specs.declared.keys.Key.{Key}
use Rattle.market.proofs.LawfulTests.{lawful_decides}
use Rattle.market.proofs.Searched.{first_fails}

first_map : {X Y : Type 0} (f : X → Y) (test : Y → Bool) (xs : List X) → first test (map f xs) ≡ option_map f (first (λ x. test (f x)) xs)
first_map f test [] = refl
first_map f test (x ∷ xs) =
    elim (test (f x)) as (λ t. cond t (Some (f x)) (first test (map f xs)) ≡ option_map f (cond t (Some x) (first (λ y. test (f y)) xs))) [ true ↦ refl | false ↦ first_map f test xs ]

lent_regimes : (o : Option Configuration) → option_map (λ c. c.regimes) (option_map listed o) ≡ option_map (λ (c : Configuration). c.regimes.now) o
lent_regimes None = refl
lent_regimes (Some c) = refl

-- of a list in which at most one entry passes, the one that also passes a second test
abbrev pub narrowed : {X : Type 0} → (X → Bool) → Option X → Option X
narrowed also None = None
narrowed also (Some x) = cond (also x) (Some x) None

module _ {X : Type 0} (R : X → X → Type 0) (test also : X → Bool) (alone : (x y : X) → R x y → test x ≡ true → test y ≡ false) where
  first_both : (xs : List X) → Ordered R xs → first (λ x. test x && also x) xs ≡ narrowed also (first test xs)
  first_both [] ordered = refl
  first_both (x ∷ xs) ordered =
      let tail : Ordered R xs = λ i j d l m. ordered (suc i) (suc j) d (omega arith) (omega arith) in
      let both : X → Bool = λ y. test y && also y in
      ⊎_elim
      (λ t.
      let others : first both xs ≡ None = first_fails both xs (λ i d l. and_left _ _ (alone x (get_or xs i d) (ordered 0 (suc i) d (omega arith) (omega arith)) t)) in
      ap (λ b. cond (b && also x) (Some x) (first both xs)) t ∙ ap (cond (also x) (Some x)) others ∙ sym (ap (narrowed also) (cond-true (test x) (Some x) (first test xs) t)))
      (λ f. ap (λ b. cond (b && also x) (Some x) (first both xs)) f ∙ first_both xs tail ∙ sym (ap (narrowed also) (cond-false (test x) (Some x) (first test xs) f)))
      (cases_Bool (test x))

-- there is only one combination of a configuration, class and group
of_decides : (key : Key) (c : Combination) → Decides (is_of key c) ((c.configuration ≡ key.configuration) × ((c.class ≡ key.class) × (c.group ≡ key.group)))
of_decides key c = Decides-and _ _ (Decides-eqb c.configuration key.configuration) (Decides-and _ _ (Decides-eqb c.class key.class) (Decides-eqb c.group key.group))

alone : (key : Key) (a b : Combination) → Precedes (key_of a) (key_of b) → is_of key a ≡ true → is_of key b ≡ false
alone key a b p t =
    let d = (of_decides key a).0 t in
    ⊎_elim (λ o. let e = (of_decides key b).0 o in absurd (grind arith)) (λ f. f) (cases_Bool (is_of key b))

module _ (checked : CheckedEdition) where
  pub supplier_decides : (id : ℕ) (o : Option LawfulEdition) (r : Bool) → MatchOption o (is_lawful (lists_in checked) ≡ false) (λ l. l.edition ≡ checked.edition) → MatchOption o (r ≡ false) (λ l. Decides r (Has l.edition.suppliers.now id)) → Decides r (HasSupplier (lists_in checked) id)
  supplier_decides id None r e f = (λ t. absurd (both_ways _ f t), λ h. absurd (both_ways _ e ((lawful_decides (lists_in checked)).1 h.0)))
  supplier_decides id (Some l) r e d =
      let lawful = (lawful_decides (lists_in checked)).0 (rw e at l.lawful) in
      let there = rw e at d in
      (λ t. (lawful, there.0 t), λ h. there.1 h.1)

  -- the lawful edition that was handed out, and a list of it
  module _ (edition : LawfulEdition) (same : edition.edition ≡ checked.edition) where
    lawful : is_lawful (lists_in checked) ≡ true
    lawful = rw same at edition.lawful

    pub regimes_are : (id : ℕ) (list : Bor (List Configuration)) → list ≡ edition.edition.configurations → (o : Option Configuration) → o ≡ first (λ (c : Configuration). eqb c.id id) list.now → option_map (λ (c : Configuration). c.regimes.now) o ≡ regimes_of (lists_in checked) id
    regimes_are id list its o found =
        let there : o ≡ first (λ (c : Configuration). eqb c.id id) checked.edition.configurations.now = found ∙ ap (λ l. first (λ (c : Configuration). eqb c.id id) l.now) (its ∙ ap (λ e. e.configurations) same) in
        sym
        (cond-true _ _ _ lawful ∙ ap (option_map (λ c. c.regimes)) (first_map listed (λ c. eqb c.id id) checked.edition.configurations.now ∙ ap (option_map listed) (sym there))
        ∙ lent_regimes o)

    pub default_is : (key : Key) (day : ℕ) (list : Bor (List Combination)) → list ≡ edition.edition.combinations → (o : Option Combination) → o ≡ first (is_of key) list.now → option_map (λ c. c.default) (narrowed (is_on day) o) ≡ default_on (lists_in checked) key.configuration key.class key.group day
    default_is key day list its o found =
        let there : o ≡ first (is_of key) checked.edition.combinations.now = found ∙ ap (λ l. first (is_of key) l.now) (its ∙ ap (λ e. e.combinations) same) in
        let up = ((lawful_decides (lists_in checked)).0 lawful).combinations_ascend in
        sym (cond-true _ _ _ lawful ∙ ap (option_map (λ c. c.default)) (first_both _ (is_of key) (is_on day) (alone key) checked.edition.combinations.now up ∙ ap (narrowed (is_on day)) (sym there)))

pub default_told : (b : Bool) (c : Combination) → then_some b c.default ≡ option_map (λ c. c.default) (cond b (Some c) None)
default_told true c = refl
default_told false c = refl
