-- What a program call prepares once of its table, and what its steps ask.
use Rattle.std.specs.Prelude.{◌≡◌, true, ℕ, ◌≤◌, length, take}
use mathlib.Core.List.{List, Memᴰ}
use Rattle.defs.specs.Table.{table_fits}
use Rattle.defs.specs.Ruledef.{starts_of}
use Rattle.ruledef_map.specs.RuledefMap.{top_rules}
use Rattle.places.specs.declared.RulePlace.{RulePlace}
use Rattle.places.specs.Places.{PlacedAt}
use Rattle.prefix_order.specs.PrefixOrder.{entries}
use Rattle.trials.specs.declared.Order.{Order}
use Rattle.trials.specs.declared.Order.TheVariants.{Scan, Lookup}
use Rattle.trials.specs.Orders.{rules_of}

-- an accepted table, where its rulesets begin, and the places of its top rules
pub record Prepared (t starts : List ℕ) (places : List RulePlace) : Type 0 where
  pub table : table_fits t ≡ true
  pub begins : starts ≡ starts_of t
  pub sized : length places ≡ 512
  pub placed : (i : ℕ) → Memᴰ i (top_rules t) → PlacedAt t places i

-- for a scan the top rules, for lookup their prefix order, and room for the rules of a line
pub record Ordered (how : Order) (t order rules : List ℕ) (tops : ℕ) : Type 0 where
  pub room : length rules ≡ 512
  pub long : length order ≡ 512
  pub few : tops ≤ 512
  pub listed : how ≡ Scan → take tops rules ≡ top_rules t
  pub sorted : how ≡ Lookup → take tops order ≡ entries t

-- a table prepared and ordered
pub record Ready (how : Order) (t starts : List ℕ) (places : List RulePlace) (order rules : List ℕ) (tops : ℕ) : Type 0 where
  pub prepared : Prepared t starts places
  pub ordered : Ordered how t order rules tops

-- the rules chosen for a line, with what the next line will ask
pub record ChosenFor (how : Order) (t line order rules : List ℕ) (tops count : ℕ) : Type 0 where
  pub rules_are : take count rules ≡ rules_of how t line
  pub few : count ≤ 512
  pub again : Ordered how t order rules tops
