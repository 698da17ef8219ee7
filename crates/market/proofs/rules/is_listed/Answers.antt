use Rattle.std.proofs.Common.{is_some, sym, ap, ◌∙◌}
use Rattle.market.proofs.Listing.{configuration_listed, some_mapped}
use Rattle.market.proofs.rules.is_listed.Goals as goal

pub returns : goal.returns
returns c = c.is_some.ensures ∙ sym (some_mapped _ c.find.result) ∙ ap is_some c.find.ensures ∙ sym (configuration_listed c.args.configurations.now.entries.now c.args.id)
