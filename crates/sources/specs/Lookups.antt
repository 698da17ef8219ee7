-- What a list of sources answers of a source and of a distributor.
use Rattle.std.specs.Prelude.{◌≡◌, ℕ, ◌<◌, List, length}
use Rattle.commands.specs.declared.command.Source.{Source}
use Rattle.commands.specs.declared.command.Source.TheVariants as source
use Rattle.sources.specs.declared.listed.Listed.{Listed}
use Rattle.sources.specs.declared.listed.Listed.TheVariants as listed
use Rattle.sources.specs.Openings.{source_at}

-- a listed source is this one: its letter and its id are the same
abbrev pub Names : Source → Listed → Type 0
Names (source.Agent id) (listed.Agent also distributor) = id ≡ also
Names (source.Agent id) (listed.Collector also) = ⊥
Names (source.Collector id) (listed.Agent also distributor) = ⊥
Names (source.Collector id) (listed.Collector also) = id ≡ also

-- a listed source is an agent that serves the distributor
abbrev pub Serves : ℕ → Listed → Type 0
Serves distributor (listed.Agent id served) = distributor ≡ served
Serves distributor (listed.Collector id) = ⊥

-- some place of the list has a source of which this holds
abbrev pub Somewhere : (Listed → Type 0) → List Listed → Type 0
Somewhere P ss = (i : ℕ) × (i < length ss) × P (source_at ss i)

-- the place is the first at which this holds
abbrev pub FirstOf : (Listed → Type 0) → List Listed → ℕ → Type 0
FirstOf P ss i = (i < length ss) × P (source_at ss i) × ((j : ℕ) → j < i → P (source_at ss j) → ⊥)
