-- What is looked up in an edition. One that is not lawful answers nothing.
use Rattle.std.specs.Prelude.{ℕ, cond, ◌&&◌, List, [], ℤ, None, filter, Option, nat_eq}
use Rattle.std.specs.Option.{option_map}
use Rattle.std.specs.List.{ContainsAt as Has}
use Rattle.market.specs.Faults.{is_lawful}
use Rattle.market.specs.Keys.{is_of, is_on}
use Rattle.market.specs.Lawful.{Lawful}
use Rattle.market.specs.Lists.{Lists, lists_of}
use Rattle.market.specs.Orders.{first}
use Rattle.market.specs.declared.checked.CheckedEdition.{CheckedEdition}
use Rattle.market.specs.declared.edition.Combination.{Combination}
use Rattle.market.specs.declared.keys.Key.{Key}

-- the lists of an edition that has been checked
abbrev pub lists_in : CheckedEdition → Lists
lists_in checked = lists_of checked.edition

-- the edition is lawful, and lists the supplier
abbrev pub HasSupplier : Lists → ℕ → Type 0
HasSupplier lists id = Lawful lists × Has lists.suppliers id

-- the regimes that are listed for a configuration
abbrev pub regimes_of : Lists → ℕ → Option (List ℕ)
regimes_of lists id = cond (is_lawful lists) (option_map (λ c. c.regimes) (first (λ c. nat_eq c.id id) lists.configurations)) None

-- the combinations of a configuration
abbrev pub combinations_of : Lists → ℕ → List Combination
combinations_of lists id = cond (is_lawful lists) (filter (λ c. nat_eq c.configuration id) lists.combinations) []

-- the default of the combination that is listed for a configuration, a profile class and a group on a day
abbrev pub default_on : Lists → ℕ → ℕ → ℕ → ℕ → Option ℤ
default_on lists configuration class group day =
    let key : Key = record { configuration = configuration; class = class; group = group } in
    cond (is_lawful lists) (option_map (λ c. c.default) (first (λ c. is_of key c && is_on day c) lists.combinations)) None
