-- Lent memory stays sound.
use Rattle.std.proofs.Common.{◌≡◌, ℕ, ◌+◌, ◌-◌, ◌*◌, ◌<◌, ◌≤◌, true, false, ◌&&◌, ltb, List, [], ◌∷◌, ◌++◌, length, take, drop, Some, None, sym, ap, ◌∙◌, arith}
use Rattle.std.specs.List.{insert}
use Rattle.std.proofs.lemmas.List.{length-take-le, drop-drop}
use Rattle.std.proofs.lemmas.Bool.{and_parts, ltb-true}
use Rattle.register.specs.declared.pairs.Pair.{Pair}
use Rattle.register.specs.Folders.{Folder, rows_of, holds, made, cut_folders, addable, added_folders, starts_after, with_kind, kept_rows, Systems}
use Rattle.register.specs.Systems.{Numbered}
use Rattle.register.proofs.Keeping.{systems_made, systems_changed}
use Rattle.register.proofs.Rising.{made_held}
use Rattle.rows.specs.Kinds.{maximum_of}
use Rattle.rows.specs.Rows.{kind_of_row}
use Rattle.rows.specs.declared.kinds.Kind.{Kind}
use Rattle.rows.specs.declared.row.Row.{Row}
use Rattle.ordered.specs.declared.entries.Entry.{Entry}
use Rattle.ordered.specs.Entries.{folders_of, folders_in, in_order, Few, Part, Put, per_folder}
use Rattle.ordered.specs.declared.registers.Ordered.{Ordered}
use Rattle.ordered.specs.Order.{entry}
use Rattle.ordered.specs.Form.{rising}
use Rattle.ordered.proofs.Changes.{length_made, length_changed}
use Rattle.ordered.proofs.Makes.{few_made}
use Rattle.ordered.proofs.Adds.{few_added}
use Rattle.ordered.proofs.Cuts.{cut_order, cut_folders_lem, few_cut}
use Rattle.ordered.proofs.Weights.{length_most, length_less}

pub length_added : (p : Pair) (r : Row) (fs : List Folder) → length (added_folders p r fs) ≡ length fs
length_added p r fs = length_changed p (with_kind (kind_of_row r) (λ rs. rs ++ r ∷ [])) fs

pub length_cut : (p : Pair) (k : Kind) (day : ℕ) (fs : List Folder) → length (cut_folders p k day fs) ≡ length fs
length_cut p k day fs = length_changed p (with_kind k (kept_rows day)) fs

-- what a register promises of its memory, under the names of its ghost fields
pub record Kept (memory : List Entry) (used held places : ℕ) : Type 0 where
  pub within : used ≤ length memory
  pub order : in_order (take used memory) ≡ true
  pub few : Few (take used memory)
  pub systems : Systems (folders_in memory used)
  pub counted : held ≡ length (folders_in memory used)
  pub room : held ≤ places
  pub enough : per_folder * places ≤ length memory

module _ (s : Ordered) where
  abbrev xs : List Entry
  xs = take s.used s.entries.now

  abbrev fs : List Folder
  fs = folders_of xs

  used_is : length xs ≡ s.used
  used_is = length-take-le s.used s.entries.now s.within

  -- there is memory for every folder that is held, were it full
  enough_held : per_folder * length fs ≤ length s.entries.now
  enough_held = omega (arith, s.counted, s.room, s.enough)

  -- a folder that is held is made without a change
  pub made_again : (p : Pair) → holds p fs ≡ true → fs ≡ made p fs
  made_again p h = sym (made_held p fs (rising xs s.order) h)

  pub room_for_row : (p : Pair) (r : Row) → addable p r fs ≡ true → s.used < length s.entries.now
  room_for_row p r ok =
      let rows = rows_of p fs (kind_of_row r) in
      let parts = and_parts (holds p fs) (ltb (length rows) (maximum_of (kind_of_row r)) && starts_after rows r) ok in
      let fewer = ltb-true (length rows) (maximum_of (kind_of_row r)) (and_parts (ltb (length rows) (maximum_of (kind_of_row r))) (starts_after rows r) parts.1).0 in
      omega (arith, length_less xs s.order s.few p (kind_of_row r) parts.0 fewer, used_is, enough_held)

  pub room_for_folder : s.held < s.places → s.used < length s.entries.now
  room_for_folder l = omega (arith, length_most xs s.order s.few, used_is, s.counted, s.enough)

  module _ (memory : List Entry) (same_length : length memory ≡ length s.entries.now) where
    pub make_kept : (p : Pair) (at : ℕ) → Numbered p.system → holds p fs ≡ false → Put (entry p None) xs at (made p fs) → s.held < s.places → take (s.used + 1) memory ≡ insert xs at (entry p None) → Kept memory (s.used + 1) (s.held + 1) s.places
    make_kept p at numbered n put l e =
        let folders : folders_of (take (s.used + 1) memory) ≡ made p fs = ap folders_of e ∙ put.folders in
        record {
          within = omega (arith, room_for_folder l);
          order = ap in_order e ∙ put.order;
          few = few_made p xs (take (s.used + 1) memory) n folders s.few;
          systems = systems_made true p fs _ folders numbered s.systems;
          counted = omega (arith, s.counted, ap length folders, length_made p fs n);
          room = omega arith;
          enough = omega (arith, s.enough);
        }

    pub add_kept : (p : Pair) (at : ℕ) (r : Row) → addable p r fs ≡ true → Put (entry p (Some r)) xs at (added_folders p r fs) → take (s.used + 1) memory ≡ insert xs at (entry p (Some r)) → Kept memory (s.used + 1) s.held s.places
    add_kept p at r ok put e =
        let folders : folders_of (take (s.used + 1) memory) ≡ added_folders p r fs = ap folders_of e ∙ put.folders in
        record {
          within = omega (arith, room_for_row p r ok);
          order = ap in_order e ∙ put.order;
          few = few_added p r xs (take (s.used + 1) memory) ok folders s.few;
          systems = systems_changed true p _ fs _ folders s.systems;
          counted = omega (arith, s.counted, ap length folders, length_added p r fs);
          room = s.room;
          enough = omega (arith, s.enough);
        }

    module _ (p : Pair) (k : Kind) (day start end : ℕ) (ends : start ≤ end) (part : Part p k day xs start (end - start)) (e : take (s.used - (end - start)) memory ≡ take start xs ++ drop end xs) where
      left : take (s.used - (end - start)) memory ≡ take start xs ++ drop (end - start) (drop start xs)
      left =
          let whole : start + (end - start) ≡ end = omega arith in
          e ∙ ap (λ l. take start xs ++ l) (sym (drop-drop (end - start) start xs ∙ ap (λ i. drop i xs) whole))

      pub cut_after : folders_in memory (s.used - (end - start)) ≡ cut_folders p k day fs
      cut_after = ap folders_of left ∙ cut_folders_lem p k day xs start (end - start) part s.order

      pub cut_kept : Kept memory (s.used - (end - start)) s.held s.places
      cut_kept = record {
        within = omega (arith, s.within);
        order = ap in_order left ∙ cut_order p k day xs start (end - start) part s.order;
        few = few_cut p k day xs (take (s.used - (end - start)) memory) cut_after s.few;
        systems = systems_changed true p _ fs _ cut_after s.systems;
        counted = omega (arith, s.counted, ap length cut_after, length_cut p k day fs);
        room = s.room;
        enough = omega (arith, s.enough);
      }
