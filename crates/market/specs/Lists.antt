-- What an edition says: its lists as plain values, whatever memory they are lent in.
use Rattle.std.specs.Prelude.{ℕ, List, map}
use Rattle.market.specs.declared.edition.Combination.{Combination}
use Rattle.market.specs.declared.edition.Configuration.{Configuration}
use Rattle.market.specs.declared.edition.Edition.{Edition}

-- a settlement configuration with its time pattern regimes
pub record Listed : Type 0 where
  pub id : ℕ
  pub regimes : List ℕ

pub record Lists : Type 0 where
  pub suppliers : List ℕ
  pub configurations : List Listed
  pub combinations : List Combination

abbrev pub listed : Configuration → Listed
listed c = record { id = c.id; regimes = c.regimes.now }

abbrev pub lists_of : Edition → Lists
lists_of e = record {
  suppliers = e.suppliers.now;
  configurations = map listed e.configurations.now;
  combinations = e.combinations.now;
}

-- the ids of the configurations
abbrev pub ids_of : List Listed → List ℕ
ids_of = map (λ c. c.id)
