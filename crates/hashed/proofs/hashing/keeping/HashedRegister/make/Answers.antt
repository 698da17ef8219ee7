use Rattle.std.proofs.Common.{◌≡◌, true, false, None, is_some, length, sym, ap, ◌∙◌, subst, arith}
use Rattle.std.proofs.lemmas.Bool.{lt-ltb, le-ltb, or_left, or_right, or_from}
use Rattle.register.specs.declared.pairs.Pair.{Pair}
use Rattle.register.specs.Folders.{holds, made, makeable}
use Rattle.register.specs.Systems.{Numbered}
use Rattle.register.proofs.Keeping.{systems_made}
use Rattle.register.proofs.Rising.{made_held}
use Rattle.hashed.specs.Memory.{held_folders}
use Rattle.hashed.specs.Rising.{rising_gathered}
use Rattle.hashed.specs.Table.{folders_of, links_of, folder_at, pair_at, held_in, seek}
use Rattle.hashed.proofs.Filings.{none_is, holds_gathered}
use Rattle.hashed.proofs.Growth.{long_held}
use Rattle.hashed.proofs.NewBlock.{new_held, new_sound}
use Rattle.hashed.proofs.hashing.keeping.HashedRegister.make.Goals as goal

pub returns-then-is_some-clause-answer : goal.returns-then-is_some-clause-answer
returns-then-is_some-clause-answer c =
    let t = c.args.self.now in
    let held : holds c.with_view-pair.result (held_folders c.args.self.now) ≡ true = holds_gathered (folder_at (folders_of t.blocks.now)) c.with_view-pair.result t.count ∙ ap is_some (sym c.find.ensures.value) ∙ sym c.is_some.ensures ∙ c.if-is_some.true in
    sym (or_left _ _ held) ∙ ap (λ (p : Pair). makeable t.places p (held_folders t)) c.with_view-pair.ensures

pub returns-then-is_some-clause-after : goal.returns-then-is_some-clause-after
returns-then-is_some-clause-after c =
    let t = c.args.self.now in
    let held : holds c.with_view-pair.result (held_folders c.args.self.now) ≡ true = holds_gathered (folder_at (folders_of t.blocks.now)) c.with_view-pair.result t.count ∙ ap is_some (sym c.find.ensures.value) ∙ sym c.is_some.ensures ∙ c.if-is_some.true in
    sym (made_held c.with_view-pair.result (held_folders t) (rising_gathered (folder_at (folders_of t.blocks.now)) t.count) held)
    ∙ ap (λ (p : Pair). made p (held_folders t)) c.with_view-pair.ensures

pub returns-then-used-self-clause-answer : goal.returns-then-used-self-clause-answer
returns-then-used-self-clause-answer c =
    let t = c.args.self.now in
    let fs = folders_of t.blocks.now in
    let not_held : holds c.with_view-pair.result (held_in fs t.count) ≡ false = holds_gathered (folder_at fs) c.with_view-pair.result t.count ∙ ap is_some (sym c.find.ensures.value) ∙ sym c.is_some.ensures ∙ c.if-is_some.false in
    let long = long_held t.heads.now fs (links_of t.blocks.now) t.order.now t.count t.places t.sound in
    sym (or_from _ _ not_held (le-ltb (length (held_in fs t.count)) t.places (omega (arith, long))))
    ∙ ap (λ (p : Pair). makeable t.places p (held_folders t)) c.with_view-pair.ensures

pub invariant_of-self : goal.invariant_of-self
invariant_of-self c =
    let t = c.args.self.now in
    let bs = t.blocks.now in
    let absent : seek (pair_at (folders_of bs)) c.with_view-pair.result t.count ≡ None = sym c.find.ensures.value ∙ none_is c.find.result (sym c.is_some.ensures ∙ c.if-is_some.false) in
    let free = c.if-used-self.false in
    let at = c.locate-at.ensures in
    let after = new_held t.heads.now bs t.order.now t.count t.places t.sound free c.with_view-pair.result c.new.result c.new.ensures.folder absent in
    let numbered : Numbered c.with_view-pair.result.system = subst (λ (p : Pair). Numbered p.system) (sym c.with_view-pair.ensures) (c.args.system.low, c.args.system.high) in
    record {
      sound = new_sound t.heads.now bs t.order.now t.count t.places t.sound free c.with_view-pair.result c.new.result c.new.ensures.folder absent
          c.home-chain.result c.home-chain.ensures.value c.home-chain.ensures.below c.new.ensures.link
          c.locate-at.result at.within at.before at.behind c.insert.new.order c.insert.ensures (omega arith);
      systems = systems_made true c.with_view-pair.result (held_folders t) _ after numbered t.systems;
    }

pub returns-clause-answer : goal.returns-clause-answer
returns-clause-answer c =
    let t = c.args.self.now in
    let fs = folders_of t.blocks.now in
    let long = long_held t.heads.now fs (links_of t.blocks.now) t.order.now t.count t.places t.sound in
    sym (or_right _ _ (lt-ltb (length (held_in fs t.count)) t.places (omega (arith, long, c.if-used-self.false))))
    ∙ ap (λ (p : Pair). makeable t.places p (held_folders t)) c.with_view-pair.ensures

pub returns-clause-after : goal.returns-clause-after
returns-clause-after c =
    let t = c.args.self.now in
    let bs = t.blocks.now in
    let absent : seek (pair_at (folders_of bs)) c.with_view-pair.result t.count ≡ None = sym c.find.ensures.value ∙ none_is c.find.result (sym c.is_some.ensures ∙ c.if-is_some.false) in
    new_held t.heads.now bs t.order.now t.count t.places t.sound c.if-used-self.false c.with_view-pair.result c.new.result c.new.ensures.folder absent
    ∙ ap (λ (p : Pair). made p (held_folders t)) c.with_view-pair.ensures
