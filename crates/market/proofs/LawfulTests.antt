-- The test for a lawful edition decides it, and a fault that is told is one.
use Rattle.std.proofs.Common.{◌≡◌, ℕ, zero, suc, ◌<◌, ◌≤◌, not, ◌&&◌, leb, ◌⊎◌, List, [], map, length, get_or, pos, is_some, IfSome, Some, None, Decides, Option, sym, refl, ap, ◌∙◌, subst, inl, inr, ⊎_elim, arith}
use Rattle.std.specs.List.{slice_get, ContainsAt as Has, AllByRecursion}
use Rattle.std.specs.Option.{option_map, option_or}
use Rattle.std.proofs.ByRecursion.{All-get_or, All-map, All-weaker}
use Rattle.std.proofs.lemmas.List.{map-id, length-map, get_or-map}
use Rattle.std.proofs.lemmas.Option.{none-some, slice_get-get_or}
use Rattle.std.proofs.lemmas.Bool.{false≢true, cases_Bool, cond-true, cond-false}
use Rattle.std.proofs.lemmas.Bool.Decides.{Decides-and, not_from_Decides}
use Rattle.fields.specs.Ascent.{Ascending}
use Rattle.market.specs.Faults.{Breaks, supplier_fault, configuration_fault, combination_fault, first_fault, is_lawful}
use Rattle.market.specs.Lawful.{Lawful, Precedes, key_of}
use Rattle.market.specs.Lists.{Lists, Listed, ids_of}
use Rattle.market.specs.Orders.{Ordered, previous}
use Rattle.market.specs.Ranges.{Id, Few, Class, Group, Day, Value}
use Rattle.market.specs.Rules.{BreaksIds, KeepsId, BreaksConfiguration, KeepsCombination}
use Rattle.market.specs.Tests.{id_rule, ids_broken, regime_rule, regimes_rule, id_first, configuration_rule, configurations_broken, combination_rule, combinations_broken}
use Rattle.market.specs.declared.edition.Combination.{Combination}
use Rattle.market.specs.declared.faults.CombinationRule.{CombinationRule}
use Rattle.market.specs.declared.faults.CombinationRule.TheVariants as combination
use Rattle.market.specs.declared.faults.ConfigurationRule.{ConfigurationRule}
use Rattle.market.specs.declared.faults.ConfigurationRule.TheVariants as configuration
use Rattle.market.specs.declared.faults.EditionFault.{EditionFault}
use Rattle.market.specs.declared.faults.EditionFault.TheVariants as fault
use Rattle.market.specs.declared.faults.IdRule.{IdRule}
use Rattle.market.specs.declared.faults.IdRule.TheVariants as ids
use Rattle.market.specs.declared.keys.Key.{Key}
use Rattle.market.proofs.Broken.{clear, clear_all, clear_ordered, broken_at}
use Rattle.market.proofs.RuleTests.{decides_leb, ids_kept, combinations_kept, id_broken, combination_broken}

-- lists of ids
pub ids_clear : (numbers : List ℕ) → ids_broken numbers ≡ None → AllByRecursion Id numbers × Ascending numbers
ids_clear numbers e =
    let h = clear (λ n. n) id_rule None 0 numbers e in
    let ordered : Ordered (λ a b. a < b) (map (λ n. n) numbers) = clear_ordered (λ n. n) id_rule (λ a b. a < b) (λ a b c l m. omega arith) (λ b n f. ids_kept (Some b) n f ids.Order) None numbers h in
    let same : Ordered (λ a b. a < b) numbers = subst (Ordered (λ a b. a < b)) (map-id numbers) ordered in
    (clear_all (λ n. n) id_rule Id (λ b n f. ids_kept b n f ids.Range) None numbers h, λ i j l m. same i j 0 l m)

pub ids_told : (numbers : List ℕ) (rule : IdRule) (k : ℕ) → ids_broken numbers ≡ Some (rule, k) → BreaksIds rule numbers k
ids_told numbers rule k e =
    let p = broken_at (λ n. n) id_rule numbers rule k e in
    (p.0, id_broken _ _ rule (ap (λ ns. id_rule (previous ns k) (get_or numbers k 0)) (sym (map-id numbers)) ∙ p.1 0))

-- configurations
pub record LawfulConfiguration (c : Listed) : Type 0 where
  pub own : Id c.id
  pub few : Few (length c.regimes)
  pub each : AllByRecursion Id c.regimes
  pub ascend : Ascending c.regimes

regimes_clear : (o : Option (IdRule × ℕ)) → regime_rule o ≡ None → o ≡ None
regimes_clear None e = refl
regimes_clear (Some b) e = absurd (none-some _ (sym e))

own_clear : (o : Option IdRule) (later : Option ConfigurationRule) → id_first o later ≡ None → (o ≡ None) × (later ≡ None)
own_clear None later e = (refl, e)
own_clear (Some r) later e = absurd (none-some _ (sym e))

few_decides : (regimes : List ℕ) → Decides (leb 1 (length regimes) && leb (length regimes) 4) (Few (length regimes))
few_decides regimes = Decides-and _ _ (decides_leb 1 (length regimes)) (decides_leb (length regimes) 4)

regimes_lawful : (regimes : List ℕ) → regimes_rule regimes ≡ None → Few (length regimes) × (ids_broken regimes ≡ None)
regimes_lawful regimes e =
    ⊎_elim (λ t. ((few_decides regimes).0 t, regimes_clear (ids_broken regimes) (sym (cond-true _ _ _ t) ∙ e)))
    (λ f. absurd (none-some _ (sym e ∙ cond-false _ _ _ f)))
    (cases_Bool (leb 1 (length regimes) && leb (length regimes) 4))

configuration_clear : (before : Option ℕ) (c : Listed) → configuration_rule before c ≡ None → (id_rule before c.id ≡ None) × LawfulConfiguration c
configuration_clear before c e =
    let p = own_clear (id_rule before c.id) (regimes_rule c.regimes) e in
    let q = regimes_lawful c.regimes p.1 in
    let r = ids_clear c.regimes q.1 in
    (p.0, record { own = ids_kept before c.id p.0 ids.Range; few = q.0; each = r.0; ascend = r.1 })

pub configurations_clear : (cs : List Listed) → configurations_broken cs ≡ None → AllByRecursion LawfulConfiguration cs × Ascending (ids_of cs)
configurations_clear cs e =
    let h = clear (λ c. c.id) configuration_rule None 0 cs e in
    let ordered : Ordered (λ a b. a < b) (ids_of cs) = clear_ordered (λ c. c.id) configuration_rule (λ a b. a < b) (λ a b c l m. omega arith) (λ b c f. ids_kept (Some b) c.id (configuration_clear (Some b) c f).0 ids.Order) None cs h in
    (clear_all (λ c. c.id) configuration_rule LawfulConfiguration (λ b c f. (configuration_clear b c f).1) None cs h, λ i j l m. ordered i j 0 l m)

regime_told : (before : Option ℕ) (c : Listed) (o : Option (IdRule × ℕ)) (rule : ConfigurationRule) → ids_broken c.regimes ≡ o → regime_rule o ≡ Some rule → BreaksConfiguration rule before c
regime_told before c None rule is e = absurd (none-some rule e)
regime_told before c (Some b) rule is e =
    let s : configuration.Regime b.0 b.1 ≡ rule = cc in
    subst (λ (r : ConfigurationRule). BreaksConfiguration r before c) s (ids_told c.regimes b.0 b.1 is)

own_told : (before : Option ℕ) (c : Listed) (o : Option IdRule) (rule : ConfigurationRule) → id_rule before c.id ≡ o → id_first o (regimes_rule c.regimes) ≡ Some rule → BreaksConfiguration rule before c
own_told before c (Some r) rule is e =
    let s : configuration.Id r ≡ rule = cc in
    subst (λ (r : ConfigurationRule). BreaksConfiguration r before c) s (id_broken before c.id r is)
own_told before c None rule is e =
    ⊎_elim (λ t. regime_told before c (ids_broken c.regimes) rule refl (sym (cond-true _ _ _ t) ∙ e))
    (λ f.
    let s : configuration.RegimeCount ≡ rule = cc (cond-false _ (regime_rule (ids_broken c.regimes)) (Some configuration.RegimeCount) f) in
    subst (λ (r : ConfigurationRule). BreaksConfiguration r before c) s (not_from_Decides _ (few_decides c.regimes) f))
    (cases_Bool (leb 1 (length c.regimes) && leb (length c.regimes) 4))

pub configurations_told : (cs : List Listed) (rule : ConfigurationRule) (k : ℕ) → configurations_broken cs ≡ Some (rule, k) → (k < length cs) × ((d : Listed) → BreaksConfiguration rule (previous (ids_of cs) k) (get_or cs k d))
configurations_told cs rule k e =
    let p = broken_at (λ c. c.id) configuration_rule cs rule k e in
    (p.0, λ d. own_told _ (get_or cs k d) _ rule refl (p.1 d))

-- combinations
pub precedes_onward : (a b c : Key) → Precedes a b → Precedes b c → Precedes a c
precedes_onward a b c p q = grind arith

pub combinations_told : (numbers : List ℕ) (cs : List Combination) (rule : CombinationRule) (k : ℕ) → combinations_broken numbers cs ≡ Some (rule, k) → (k < length cs) × ((d : Combination) → KeepsCombination rule numbers (previous cs k) (get_or cs k d) → ⊥)
combinations_told numbers cs rule k e =
    let p = broken_at (λ c. c) (combination_rule numbers) cs rule k e in
    (p.0, λ d. combination_broken numbers _ _ rule (ap (λ bs. combination_rule numbers (previous bs k) (get_or cs k d)) (sym (map-id cs)) ∙ p.1 d))

-- no list has a fault
pub none_mapped : {X Y : Type 0} (f : X → Y) (o : Option X) → option_map f o ≡ None → o ≡ None
none_mapped f None e = refl
none_mapped f (Some x) e = absurd (none-some (f x) (sym e))

none_either : {X : Type 0} (o later : Option X) → option_or o later ≡ None → (o ≡ None) × (later ≡ None)
none_either None later e = (refl, e)
none_either (Some x) later e = absurd (none-some x (sym e))

pub none_lawful : (lists : Lists) → first_fault lists ≡ None → Lawful lists
unfolding first_fault
none_lawful lists e =
    let p = none_either (supplier_fault (ids_broken lists.suppliers)) _ e in
    let q = none_either (configuration_fault (configurations_broken lists.configurations)) _ p.1 in
    let suppliers = ids_clear lists.suppliers (none_mapped _ _ p.0) in
    let configurations = configurations_clear lists.configurations (none_mapped _ _ q.0) in
    let numbers = ids_of lists.configurations in
    let cs = lists.combinations in
    let h = clear (λ c. c) (combination_rule numbers) None 0 cs (none_mapped _ _ q.1) in
    let kept : (rule : CombinationRule) (before : Option Combination) (c : Combination) → combination_rule numbers before c ≡ None → KeepsCombination rule numbers before c = λ rule before c f. combinations_kept numbers before c f rule in
    let each : (P : Combination → Type 0) → ((before : Option Combination) (c : Combination) → combination_rule numbers before c ≡ None → P c) → AllByRecursion P cs = λ P f. clear_all (λ c. c) (combination_rule numbers) P f None cs h in
    let Below : Combination → Combination → Type 0 = λ a b. Precedes (key_of a) (key_of b) in
    let ordered : Ordered Below (map (λ c. c) cs) = clear_ordered (λ c. c) (combination_rule numbers) Below (λ a b c p q. precedes_onward (key_of a) (key_of b) (key_of c) p q) (λ b c f. kept combination.Order (Some b) c f) None cs h in
    record {
      suppliers = suppliers.0;
      suppliers_ascend = suppliers.1;
      configurations = All-weaker LawfulConfiguration _ (λ c l. l.own) lists.configurations configurations.0;
      configurations_ascend = configurations.1;
      few_regimes = All-weaker LawfulConfiguration _ (λ c l. l.few) lists.configurations configurations.0;
      regimes = All-weaker LawfulConfiguration _ (λ c l. l.each) lists.configurations configurations.0;
      regimes_ascend = All-weaker LawfulConfiguration _ (λ c l. l.ascend) lists.configurations configurations.0;
      combinations = each _ (kept combination.ConfigurationRange);
      classes = each _ (kept combination.ClassRange);
      groups = each _ (kept combination.GroupRange);
      first_days = each _ (kept combination.FirstDayRange);
      last_days = each _ (kept combination.LastDayRange);
      defaults = each _ (kept combination.DefaultRange);
      begun = each _ (kept combination.DayOrder);
      combinations_listed = each _ (kept combination.Listing);
      combinations_ascend = subst (Ordered Below) (map-id cs) ordered;
    }

-- a fault that is told
supplier_told : (lists : Lists) (o : Option (IdRule × ℕ)) (later : Option EditionFault) (f : EditionFault) → ids_broken lists.suppliers ≡ o → option_or (supplier_fault o) later ≡ Some f → (later ≡ Some f) ⊎ Breaks f lists
supplier_told lists None later f is e = inl e
supplier_told lists (Some b) later f is e =
    let s : fault.Supplier b.0 b.1 ≡ f = cc in
    inr (subst (λ (f : EditionFault). Breaks f lists) s (ids_told lists.suppliers b.0 b.1 is))

configuration_told : (lists : Lists) (o : Option (ConfigurationRule × ℕ)) (later : Option EditionFault) (f : EditionFault) → configurations_broken lists.configurations ≡ o → option_or (configuration_fault o) later ≡ Some f → (later ≡ Some f) ⊎ Breaks f lists
configuration_told lists None later f is e = inl e
configuration_told lists (Some b) later f is e =
    let s : fault.Configuration b.0 b.1 ≡ f = cc in
    inr (subst (λ (f : EditionFault). Breaks f lists) s (configurations_told lists.configurations b.0 b.1 is))

combination_told : (lists : Lists) (o : Option (CombinationRule × ℕ)) (f : EditionFault) → combinations_broken (ids_of lists.configurations) lists.combinations ≡ o → combination_fault o ≡ Some f → Breaks f lists
combination_told lists None f is e = absurd (none-some f e)
combination_told lists (Some b) f is e =
    let s : fault.Combination b.0 b.1 ≡ f = cc in
    subst (λ (f : EditionFault). Breaks f lists) s (combinations_told (ids_of lists.configurations) lists.combinations b.0 b.1 is)

pub some_broken : (lists : Lists) (f : EditionFault) → first_fault lists ≡ Some f → Breaks f lists
unfolding first_fault
some_broken lists f e =
    ⊎_elim (λ later. ⊎_elim (combination_told lists _ f refl) (λ b. b) (configuration_told lists _ _ f refl later)) (λ b. b)
    (supplier_told lists _ _ f refl e)

-- an edition with a broken rule is not lawful
numbers_keep : (numbers : List ℕ) (k : ℕ) → k < length numbers → AllByRecursion Id numbers → Ascending numbers → (rule : IdRule) → KeepsId rule (previous numbers k) (get_or numbers k 0)
numbers_keep numbers k h each up ids.Range = All-get_or Id numbers k 0 h each
numbers_keep numbers zero h each up ids.Order = tt
numbers_keep numbers (suc k) h each up ids.Order =
    let e : slice_get numbers k ≡ Some (get_or numbers k 0) = slice_get-get_or numbers k 0 (omega arith) in
    subst (λ (b : Option ℕ). IfSome b (λ n. n < get_or numbers (suc k) 0)) (sym e) (up k (suc k) (omega arith) h)

configurations_keep : (lists : Lists) → Lawful lists → (k : ℕ) (d : Listed) → k < length lists.configurations → (rule : ConfigurationRule) → BreaksConfiguration rule (previous (ids_of lists.configurations) k) (get_or lists.configurations k d) → ⊥
configurations_keep lists l k d h (configuration.Id rule) b =
    let cs = lists.configurations in
    let n : length (ids_of cs) ≡ length cs = length-map cs (λ c. c.id) in
    let own : KeepsId rule (previous (ids_of cs) k) (get_or (ids_of cs) k 0) = numbers_keep (ids_of cs) k (omega arith) (All-map Id (λ c. c.id) cs l.configurations) l.configurations_ascend rule in
    b (subst (KeepsId rule (previous (ids_of cs) k)) (get_or-map (λ c. c.id) cs k d 0 h) own)
configurations_keep lists l k d h configuration.RegimeCount b = b (All-get_or (λ c. Few (length c.regimes)) lists.configurations k d h l.few_regimes)
configurations_keep lists l k d h (configuration.Regime rule i) b =
    b.1 (numbers_keep (get_or lists.configurations k d).regimes i b.0 (All-get_or (λ c. AllByRecursion Id c.regimes) lists.configurations k d h l.regimes) (All-get_or (λ c. Ascending c.regimes) lists.configurations k d h l.regimes_ascend) rule)

combinations_keep : (lists : Lists) → Lawful lists → (k : ℕ) (d : Combination) → k < length lists.combinations → (rule : CombinationRule) → KeepsCombination rule (ids_of lists.configurations) (previous lists.combinations k) (get_or lists.combinations k d)
combinations_keep lists l k d h combination.ConfigurationRange = All-get_or (λ c. Id c.configuration) lists.combinations k d h l.combinations
combinations_keep lists l k d h combination.ClassRange = All-get_or (λ c. Class c.class) lists.combinations k d h l.classes
combinations_keep lists l k d h combination.GroupRange = All-get_or (λ c. Group c.group) lists.combinations k d h l.groups
combinations_keep lists l k d h combination.FirstDayRange = All-get_or (λ c. Day c.first) lists.combinations k d h l.first_days
combinations_keep lists l k d h combination.LastDayRange = All-get_or (λ c. Day c.last) lists.combinations k d h l.last_days
combinations_keep lists l k d h combination.DefaultRange = All-get_or (λ c. Value c.default) lists.combinations k d h l.defaults
combinations_keep lists l k d h combination.DayOrder = All-get_or (λ c. c.first ≤ c.last) lists.combinations k d h l.begun
combinations_keep lists l k d h combination.Listing = All-get_or (λ c. Has (ids_of lists.configurations) c.configuration) lists.combinations k d h l.combinations_listed
combinations_keep lists l zero d h combination.Order = tt
combinations_keep lists l (suc k) d h combination.Order =
    let cs = lists.combinations in
    let e : slice_get cs k ≡ Some (get_or cs k d) = slice_get-get_or cs k d (omega arith) in
    subst (λ (b : Option Combination). IfSome b (λ c. Precedes (key_of c) (key_of (get_or cs (suc k) d)))) (sym e) (l.combinations_ascend k (suc k) d (omega arith) h)

pub breaks_lawful : (lists : Lists) (f : EditionFault) → Breaks f lists → Lawful lists → ⊥
breaks_lawful lists (fault.Supplier rule k) b l = b.1 (numbers_keep lists.suppliers k b.0 l.suppliers l.suppliers_ascend rule)
breaks_lawful lists (fault.Configuration rule k) b l =
    let d : Listed = record { id = 0; regimes = [] } in
    configurations_keep lists l k d b.0 rule (b.1 d)
breaks_lawful lists (fault.Combination rule k) b l =
    let d : Combination = record { configuration = 0; class = 0; group = 0; first = 0; last = 0; default = pos 0 } in
    b.1 d (combinations_keep lists l k d b.0 rule)

by_fault : (lists : Lists) (o : Option EditionFault) → first_fault lists ≡ o → Decides (not (is_some o)) (Lawful lists)
by_fault lists None e = (λ _. none_lawful lists e, λ _. refl)
by_fault lists (Some f) e = (λ t. absurd (false≢true t), λ l. absurd (breaks_lawful lists f (some_broken lists f e) l))

pub lawful_decides : (lists : Lists) → Decides (is_lawful lists) (Lawful lists)
unfolding is_lawful
lawful_decides lists = by_fault lists (first_fault lists) refl

pub fault_told : (lists : Lists) (o : Option EditionFault) → o ≡ first_fault lists → IfSome o (λ f. Breaks f lists)
fault_told lists None e = tt
fault_told lists (Some f) e = some_broken lists f (sym e)

pub fault_decides : (lists : Lists) (o : Option EditionFault) → o ≡ first_fault lists → Decides (not (is_some o)) (Lawful lists)
fault_decides lists o e = by_fault lists o (sym e)

pub lawful_is : (lists : Lists) (o : Option EditionFault) → o ≡ first_fault lists → not (is_some o) ≡ is_lawful lists
unfolding is_lawful
lawful_is lists o e = ap (λ f. not (is_some f)) e

-- the lists are looked at one after another
module _ (lists : Lists) where
  pub fault_supplier : (f : EditionFault) → supplier_fault (ids_broken lists.suppliers) ≡ Some f → first_fault lists ≡ Some f
  unfolding first_fault
  fault_supplier f e = rw e refl

  pub fault_configuration : supplier_fault (ids_broken lists.suppliers) ≡ None → (f : EditionFault) → configuration_fault (configurations_broken lists.configurations) ≡ Some f → first_fault lists ≡ Some f
  unfolding first_fault
  fault_configuration none f e = rw (none, e) refl

  pub fault_combination : supplier_fault (ids_broken lists.suppliers) ≡ None → configuration_fault (configurations_broken lists.configurations) ≡ None → first_fault lists ≡ combination_fault (combinations_broken (ids_of lists.configurations) lists.combinations)
  unfolding first_fault
  fault_combination none also = rw (none, also) refl
