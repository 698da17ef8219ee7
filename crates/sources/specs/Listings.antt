-- Sources as an opening lists them.
use Rattle.std.specs.Prelude.{◌≡◌, ℕ, ◌≤◌, ◌⊎◌}
use Rattle.sources.specs.declared.listed.Listed.{Listed}
use Rattle.sources.specs.declared.listed.Listed.TheVariants.{Agent, Collector}

abbrev pub id_of : Listed → ℕ
id_of (Agent id distributor) = id
id_of (Collector id) = id

-- ids are 1 to 65,535, in two bytes; distributors 0 to 99
abbrev pub InRange : Listed → Type 0
InRange (Agent id distributor) = (1 ≤ id) × (distributor ≤ 99)
InRange (Collector id) = 1 ≤ id

-- no two agents share an id or a distributor, and no two collectors an id; an agent and a collector may share one
abbrev pub Clash : Listed → Listed → Type 0
Clash (Agent id distributor) (Agent also served) = (id ≡ also) ⊎ (distributor ≡ served)
Clash (Agent id distributor) (Collector also) = ⊥
Clash (Collector id) (Agent also served) = ⊥
Clash (Collector id) (Collector also) = id ≡ also
