-- Folders of metering systems stay so when one is made or changed.
use Rattle.std.proofs.Common.{◌≡◌, Bool, cond, List, [], ◌∷◌, sym, subst}
use Rattle.std.specs.List.{AllByRecursion}
use Rattle.std.proofs.ByRecursion.{All-get_or, all_from_every}
use Rattle.std.proofs.lemmas.Bool.{cond_both}
use Rattle.register.specs.declared.pairs.Pair.{Pair}
use Rattle.register.specs.Folders.{Rows, Folder, same, below, made, changed, Systems}
use Rattle.register.specs.Systems.{Numbered}

module _ (P : Pair → Type 0) where
  all_made : (p : Pair) (fs : List Folder) → P p → AllByRecursion (λ f. P f.pair) fs → AllByRecursion (λ f. P f.pair) (made p fs)
  all_made p [] h a = (h, tt)
  all_made p (f ∷ fs) h a =
      cond_both (same p f.pair) _ _ (AllByRecursion (λ g. P g.pair)) (λ e. a)
      (λ e. cond_both (below p f.pair) _ _ (AllByRecursion (λ g. P g.pair)) (λ l. (h, a)) (λ l. (a.0, all_made p fs h a.1)))

  all_changed : (p : Pair) (change : Rows → Rows) (fs : List Folder) → AllByRecursion (λ f. P f.pair) fs → AllByRecursion (λ f. P f.pair) (changed p change fs)
  all_changed p change [] a = tt
  all_changed p change (f ∷ fs) a = cond_both (same p f.pair) _ _ (AllByRecursion (λ g. P g.pair)) (λ e. a) (λ e. (a.0, all_changed p change fs a.1))

-- of each folder by its place, or of all of them
pub all_systems : (fs : List Folder) → Systems fs → AllByRecursion (λ f. Numbered f.pair.system) fs
all_systems fs h = all_from_every (λ f. Numbered f.pair.system) fs (λ i d _ l. h i d l)

pub systems_all : (fs : List Folder) → AllByRecursion (λ f. Numbered f.pair.system) fs → Systems fs
systems_all fs a i d l = All-get_or (λ f. Numbered f.pair.system) fs i d l a

-- what a call that may refuse leaves: a folder more, or one changed, or all as it was
pub systems_made : (b : Bool) (p : Pair) (fs after : List Folder) → after ≡ cond b (made p fs) fs → Numbered p.system → Systems fs → Systems after
systems_made b p fs after is n h =
    subst Systems (sym is)
    (cond_both b (made p fs) fs Systems (λ _. systems_all (made p fs) (all_made (λ q. Numbered q.system) p fs n (all_systems fs h))) (λ _. h))

pub systems_changed : (b : Bool) (p : Pair) (change : Rows → Rows) (fs after : List Folder) → after ≡ cond b (changed p change fs) fs → Systems fs → Systems after
systems_changed b p change fs after is h =
    subst Systems (sym is)
    (cond_both b (changed p change fs) fs Systems (λ _. systems_all (changed p change fs) (all_changed (λ q. Numbered q.system) p change fs (all_systems fs h))) (λ _. h))
