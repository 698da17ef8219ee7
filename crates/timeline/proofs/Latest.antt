-- The latest start on or before a day, and the row in effect.
use Rattle.std.proofs.Common.{⊎_elim, MatchOption, ◌≡◌, ℕ, zero, suc, ◌<◌, ◌≤◌, Bool, true, false, cond, leb, List, [], ◌∷◌, map, length, get_or, Some, None, Option, sym, refl, ap, ◌∙◌, le_of_suc-le-suc, not-suc-le-zero, arith}
use Rattle.std.specs.Bool.{then_some}
use Rattle.std.specs.List.{slice_get}
use Rattle.std.proofs.lemmas.List.{length-map, get_or-map}
use Rattle.std.proofs.lemmas.Option.{slice_get-get_or}
use Rattle.std.proofs.lemmas.Bool.{cases_lt, leb-true, leb-false}
use Rattle.timeline.specs.Finding.{further, latest_on, Latest, term, unless_past, in_effect, row_at, row_on, started, ByStarted}
use Rattle.timeline.proofs.Walks.{mapped_here}

-- what holds of the later places holds with a start put before them
later : (day s : ℕ) (ss : List ℕ) (i : ℕ) → ((k : ℕ) → i ≤ k → k < length ss → day < get_or ss k 0) → (k : ℕ) → i < k → k < suc (length ss) → day < get_or (s ∷ ss) k 0
later day s ss i law zero h l = absurd (not-suc-le-zero h)
later day s ss i law (suc k) h l = law k (le_of_suc-le-suc h) (le_of_suc-le-suc l)

all_later : (day s : ℕ) (ss : List ℕ) → day < s → ((k : ℕ) → k < length ss → day < get_or ss k 0) → (k : ℕ) → k < suc (length ss) → day < get_or (s ∷ ss) k 0
all_later day s ss h law zero l = h
all_later day s ss h law (suc k) l = law k (le_of_suc-le-suc l)

further_law : (day s : ℕ) (ss : List ℕ) (r : Option ℕ) (here : Bool) → leb s day ≡ here → Latest day ss r → Latest day (s ∷ ss) (further here r)
further_law day s ss (Some k) here e law = (omega arith, law.1, later day s ss (suc k) law.2)
further_law day s ss None true e law = (omega arith, leb-true s day e, later day s ss 0 (λ k _ l. law k l))
further_law day s ss None false e law = all_later day s ss (leb-false s day e) law

pub latest_law : (day : ℕ) (starts : List ℕ) → Latest day starts (latest_on day starts)
latest_law day [] = λ k h. absurd (not-suc-le-zero h)
latest_law day (s ∷ ss) = further_law day s ss (latest_on day ss) (leb s day) refl (latest_law day ss)

-- the law tells which place it is
none_then_some : (day : ℕ) (starts : List ℕ) (i : ℕ) → Latest day starts None → Latest day starts (Some i) → ⊥
none_then_some day starts i none some = omega (arith, none i some.0, some.1)

same_latest : (day : ℕ) (starts : List ℕ) (q r : Option ℕ) → Latest day starts q → Latest day starts r → q ≡ r
same_latest day starts None None a b = refl
same_latest day starts None (Some j) a b = absurd (none_then_some day starts j a b)
same_latest day starts (Some i) None a b = absurd (none_then_some day starts i b a)
same_latest day starts (Some i) (Some j) a b =
    ⊎_elim (λ l. absurd (omega (arith, a.2 j l b.0, b.1)))
    (λ h.
    ⊎_elim (λ m. absurd (omega (arith, b.2 i m a.0, a.1))) (λ k. let e : i ≡ j = omega arith in ap Some e) (cases_lt j i))
    (cases_lt i j)

pub latest_is : (day : ℕ) (starts : List ℕ) (r : Option ℕ) → Latest day starts r → r ≡ latest_on day starts
latest_is day starts r law = same_latest day starts r (latest_on day starts) law (latest_law day starts)

-- the same of rows and their places
module _ {X : Type 0} (start : X → ℕ) (day : ℕ) where
  abbrev pub LatestRow : List X → Option ℕ → Type 0
  LatestRow rows r =
      MatchOption r
      ((k : ℕ) (d : X) → k < length rows → day < start (get_or rows k d))
      (λ i. (i < length rows) × ((d : X) → start (get_or rows i d) ≤ day) × ((k : ℕ) (d : X) → i < k → k < length rows → day < start (get_or rows k d)))

  pub latest_row : (rows : List X) (r : Option ℕ) → LatestRow rows r → Latest day (map start rows) r
  latest_row [] None law = λ k h. absurd (not-suc-le-zero h)
  latest_row [] (Some i) law = absurd (not-suc-le-zero law.0)
  latest_row (x ∷ xs) None law =
      λ k h. let l : k < length (x ∷ xs) = omega (arith, h, length-map (x ∷ xs) start) in omega (arith, law k x l, get_or-map start (x ∷ xs) k x 0 l)
  latest_row (x ∷ xs) (Some i) law = (
    omega (arith, law.0, length-map (x ∷ xs) start),
    omega (arith, law.1 x, get_or-map start (x ∷ xs) i x 0 law.0),
    λ k m h. let l : k < length (x ∷ xs) = omega (arith, h, length-map (x ∷ xs) start) in omega (arith, law.2 k x m l, get_or-map start (x ∷ xs) k x 0 l),
  )

module _ {X : Type 0} (start last : X → ℕ) (day : ℕ) where
  -- the row at the end
  abbrev instead : X → Option X → Option X
  instead x None = Some x
  instead x (Some y) = Some y

  abbrev final : List X → Option X
  final [] = None
  final (x ∷ xs) = instead x (final xs)

  abbrev unended : Option X → Option X
  unended None = None
  unended (Some x) = cond (leb day (last x)) (Some x) None

  starts_of : (rows : List X) → map (λ t. t.0) (map (term start last) rows) ≡ map start rows
  starts_of [] = refl
  starts_of (x ∷ xs) = ap (λ ss. start x ∷ ss) (starts_of xs)

  row_cond : (rows : List X) (i : ℕ) (b : Bool) → row_at rows (cond b (Some i) None) ≡ cond b (slice_get rows i) None
  row_cond rows i true = refl
  row_cond rows i false = refl

  -- a row put before the others is the last that has started only if none of them has
  further_row : (x : X) (xs : List X) (r : Option ℕ) (here : Bool) → Latest day (map start xs) r → row_at xs r ≡ final (started start day xs) → row_at (x ∷ xs) (further here r) ≡ final (cond here (x ∷ started start day xs) (started start day xs))
  further_row x xs (Some k) true law e =
      let y : slice_get xs k ≡ Some (get_or xs k x) = slice_get-get_or xs k x (omega (arith, law.0, length-map xs start)) in
      y ∙ ap (instead x) (sym y ∙ e)
  further_row x xs (Some k) false law e = e
  further_row x xs None true law e = ap (instead x) e
  further_row x xs None false law e = e

  final_row : (rows : List X) → row_at rows (latest_on day (map start rows)) ≡ final (started start day rows)
  final_row [] = refl
  final_row (x ∷ xs) = further_row x xs (latest_on day (map start xs)) (leb (start x) day) (latest_law day (map start xs)) (final_row xs)

  unended_row : (rows : List X) (r : Option ℕ) → Latest day (map start rows) r → row_at rows (unless_past day (map (term start last) rows) r) ≡ unended (row_at rows r)
  unended_row rows None law = refl
  unended_row [] (Some i) law = absurd (not-suc-le-zero law.0)
  unended_row (x ∷ xs) (Some i) law =
      let h : i < length (x ∷ xs) = omega (arith, law.0, length-map (x ∷ xs) start) in
      let y : slice_get (x ∷ xs) i ≡ Some (get_or (x ∷ xs) i x) = slice_get-get_or (x ∷ xs) i x h in
      let t : get_or (map (term start last) (x ∷ xs)) i (0, 0) ≡ term start last (get_or (x ∷ xs) i x) = get_or-map (term start last) (x ∷ xs) i x (0, 0) h in
      row_cond (x ∷ xs) i (leb day (get_or (map (term start last) (x ∷ xs)) i (0, 0)).1)
      ∙ ap (λ u. cond (leb day u.1) (slice_get (x ∷ xs) i) None) t
      ∙ ap (λ z. cond (leb day (last (get_or (x ∷ xs) i x))) z None) y
      ∙ ap unended (sym y)

  -- the row in effect is the last of those that have started, unless it has ended
  row_on_lem : (rows : List X) → row_on start last day rows ≡ unended (final (started start day rows))
  row_on_lem rows =
      ap (λ ss. row_at rows (unless_past day (map (term start last) rows) (latest_on day ss))) (starts_of rows)
      ∙ unended_row rows (latest_on day (map start rows)) (latest_law day (map start rows))
      ∙ ap unended (final_row rows)

  pub by_started : (rows : List X) (place : Option ℕ) → place ≡ in_effect day (map (term start last) rows) → ByStarted start last day rows place
  by_started rows place p others e = ap (row_at rows) p ∙ row_on_lem rows ∙ ap (λ xs. unended (final xs)) e ∙ sym (row_on_lem others)

  effect_some : (rows : List X) (i : ℕ) (row : X) → i < length rows → row ≡ get_or rows i row → Some i ≡ latest_on day (map start rows) → in_effect day (map (term start last) rows) ≡ cond (leb day (last row)) (Some i) None
  effect_some rows i row h e found =
      ap (λ ss. unless_past day (map (term start last) rows) (latest_on day ss)) (starts_of rows)
      ∙ ap (unless_past day (map (term start last) rows)) (sym found)
      ∙ ap (λ t. cond (leb day t.1) (Some i) None) (mapped_here (term start last) rows i row (0, 0) h e)

  unless_ended : (on : Bool) (i : ℕ) → then_some on i ≡ cond on (Some i) None
  unless_ended true i = refl
  unless_ended false i = refl

  pub effect_then : (rows : List X) (i : ℕ) (row : X) → i < length rows → row ≡ get_or rows i row → Some i ≡ latest_on day (map start rows) → then_some (leb day (last row)) i ≡ in_effect day (map (term start last) rows)
  effect_then rows i row h e found = unless_ended (leb day (last row)) i ∙ sym (effect_some rows i row h e found)

  pub effect_none : (rows : List X) → None ≡ latest_on day (map start rows) → None ≡ in_effect day (map (term start last) rows)
  effect_none rows none =
      sym (ap (λ ss. unless_past day (map (term start last) rows) (latest_on day ss)) (starts_of rows)
      ∙ ap (unless_past day (map (term start last) rows)) (sym none))
