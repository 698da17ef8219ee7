-- Rows whose starts ascend still do when one kind is cut or gets a row more.
use Rattle.std.proofs.Common.{◌≡◌, ℕ, zero, suc, Bool, true, false, cond, ◌&&◌, eqb, ltb, List, [], ◌∷◌, ◌++◌, map, get_or, take, sym, refl, ap, ◌∙◌, subst}
use Rattle.std.proofs.lemmas.List.{take-map}
use Rattle.std.proofs.lemmas.Bool.{and_parts, and_from, cond_both, eqb-true}
use Rattle.register.specs.Folders.{Rows, no_rows, with_kind, kept_rows, starts_after}
use Rattle.fields.specs.Ascent.{ascending_from, ascending}
use Rattle.rows.specs.Kinds.{rank_of}
use Rattle.rows.specs.Rows.{start_of_row}
use Rattle.rows.specs.declared.kinds.Kind.{Kind}
use Rattle.rows.specs.declared.row.Row.{Row}
use Rattle.blocks.specs.Holding.{row_lists, kind_rows, StartsAscend}
use Rattle.blocks.specs.declared.contents.Contents.{Contents}

-- the starts of these rows ascend
abbrev Up : List Row → Type 0
Up rs = ascending (map start_of_row rs) ≡ true

take_from : (n s : ℕ) (ss : List ℕ) → ascending_from s ss ≡ true → ascending_from s (take n ss) ≡ true
take_from zero s ss up = refl
take_from (suc n) s [] up = refl
take_from (suc n) s (t ∷ ts) up = let p = and_parts (ltb s t) _ up in and_from _ _ p.0 (take_from n t ts p.1)

take_up : (n : ℕ) (ss : List ℕ) → ascending ss ≡ true → ascending (take n ss) ≡ true
take_up zero ss up = refl
take_up (suc n) [] up = refl
take_up (suc n) (s ∷ ss) up = take_from n s ss up

kept_up : (day : ℕ) (rs : List Row) → Up rs → Up (kept_rows day rs)
kept_up day rs up = ap ascending (sym (take-map start_of_row _ rs)) ∙ take_up _ (map start_of_row rs) up

push_from : (q : Row) (rs : List Row) (r : Row) → ascending_from (start_of_row q) (map start_of_row rs) ≡ true → starts_after (q ∷ rs) r ≡ true → ascending_from (start_of_row q) (map start_of_row (rs ++ r ∷ [])) ≡ true
push_from q [] r up after = and_from _ _ after refl
push_from q (p ∷ rs) r up after = let h = and_parts (ltb (start_of_row q) (start_of_row p)) _ up in and_from _ _ h.0 (push_from p rs r h.1 after)

push_up : (rs : List Row) (r : Row) → Up rs → starts_after rs r ≡ true → Up (rs ++ r ∷ [])
push_up [] r up after = refl
push_up (q ∷ rs) r up after = push_from q rs r up after

pub none_ascend : (c : Contents) → kind_rows c ≡ no_rows → StartsAscend c
none_ascend c e kind = ap (λ (rows : Rows). ascending (map start_of_row (rows kind))) e

module _ (c d : Contents) (up : StartsAscend c) (kind : Kind) where
  -- one kind's rows changed so that they still ascend
  with_ascend : (change : List Row → List Row) → (Up (kind_rows c kind) → Up (change (kind_rows c kind))) → kind_rows d ≡ with_kind kind change (kind_rows c) → StartsAscend d
  with_ascend change still e k =
      ap (λ (rows : Rows). ascending (map start_of_row (rows k))) e
      ∙ cond_both (eqb (rank_of k) (rank_of kind)) (change (kind_rows c k)) (kind_rows c k) Up
      (λ same. let f : kind_rows c kind ≡ kind_rows c k = ap (λ n. get_or (row_lists c) n []) (sym (eqb-true _ _ same)) in subst (λ (rs : List Row). Up (change rs)) f (still (up kind)))
      (λ other. up k)

  pub cut_ascend : (day : ℕ) → kind_rows d ≡ with_kind kind (kept_rows day) (kind_rows c) → StartsAscend d
  cut_ascend day = with_ascend (kept_rows day) (kept_up day (kind_rows c kind))

  pub add_ascend : (row : Row) (few r : Bool) → r ≡ (few && starts_after (kind_rows c kind) row) → kind_rows d ≡ cond r (with_kind kind (λ rs. rs ++ row ∷ []) (kind_rows c)) (kind_rows c) → StartsAscend d
  add_ascend row few true answer e = with_ascend (λ rs. rs ++ row ∷ []) (λ h. push_up (kind_rows c kind) row h (and_parts few _ (sym answer)).1) e
  add_ascend row few false answer e = λ k. ap (λ (rows : Rows). ascending (map start_of_row (rows k))) e ∙ up k
