-- What a call prepares of its rules: a place for each, by the rule's place in the table, so that beginning it is a few reads.
use Rattle.std.specs.Prelude.{◌≡◌, true, List, ℕ, ◌-◌, ◌<◌, length, get_or}
use Rattle.defs.specs.Table.{table_fits, records_in, ruleset_at, rule_span}
use Rattle.defs.specs.Ruledef.{begins_at, starts_of}
use Rattle.places.specs.declared.RulePlace.{RulePlace}

-- rule i's ruleset, its number there, and where its parts stand
unfoldable pub place_at : List ℕ → ℕ → RulePlace
place_at t i = record {
  set = ruleset_at t i;
  number = i - begins_at t (ruleset_at t i);
  from = (rule_span t i).start;
  to = (rule_span t i).end;
}

-- rule i is prepared
pub record PlacedAt (t : List ℕ) (places : List RulePlace) (i : ℕ) : Type 0 where
  pub is : (other : RulePlace) → get_or places i other ≡ place_at t i

-- the rules of a list are prepared
pub record Placed (t : List ℕ) (places : List RulePlace) (rules : List ℕ) : Type 0 where
  pub sized : length places ≡ 512
  pub each : (j : ℕ) → j < length rules → PlacedAt t places (get_or rules j 0)

-- what preparing asks: an accepted table, where its rulesets begin, rules of it
pub record PlaceAsked (t starts rules : List ℕ) (places : List RulePlace) : Type 0 where
  pub table : table_fits t ≡ true
  pub begins : starts ≡ starts_of t
  pub below : (j : ℕ) → j < length rules → get_or rules j 0 < records_in t
  pub sized : length places ≡ 512
