-- What an accepted table says, as plain data: rulesets of rules of parts.
-- In words: docs/MANUAL.md, 2.2.
use Rattle.std.specs.Prelude.{Bool, List, map, ℕ, zero, suc, ◌+◌, eqb, ltb, get_or}
use Rattle.plain.specs.Below.{count_below, sum_below}
use Rattle.plain.specs.Lists.{range, keep_if, listed}
use Rattle.defs.specs.Table.{rulesets_in, records_in, flag_at, ruleset_at, rule_parts}
use Rattle.defs.specs.declared.ruledef.Part.{Part}

-- a rule is its parts; a ruleset is top or nested only, and has its rules in order
pub record Ruleset : Type 0 where
  pub top : Bool
  pub rules : List (List Part)

-- the records of ruleset s, in table order: a rule's number counts from 0 within its ruleset
unfoldable pub records_of : List ℕ → ℕ → List ℕ
records_of t s = keep_if (λ i. eqb (ruleset_at t i) s) (range 0 (records_in t))

-- 0 top, 1 nested only
unfoldable pub is_top : List ℕ → ℕ → Bool
is_top t s = eqb (flag_at t s) 0

-- a rule of a top ruleset
unfoldable pub is_top_rule : List ℕ → ℕ → Bool
is_top_rule t i = is_top t (ruleset_at t i)

unfoldable pub ruleset_of : List ℕ → ℕ → Ruleset
ruleset_of t s = record { top = is_top t s; rules = map (rule_parts t) (records_of t s) }

unfoldable pub table_of : List ℕ → List Ruleset
table_of t = listed (rulesets_in t) (ruleset_of t)

-- how many records are of ruleset s, and of rulesets before it: where it begins
unfoldable pub rules_in : List ℕ → ℕ → ℕ
rules_in t s = count_below (records_in t) (λ i. eqb (ruleset_at t i) s)

unfoldable pub begins_at : List ℕ → ℕ → ℕ
begins_at t s = count_below (records_in t) (λ i. ltb (ruleset_at t i) s)

-- where each ruleset begins, and where the last of 32 ends
unfoldable pub starts_of : List ℕ → List ℕ
starts_of t = listed 33 (begins_at t)

-- on the way there: at place s + 1, how many of the first n records are of ruleset s; and sums up to each place
unfoldable pub tally_of : List ℕ → ℕ → ℕ → ℕ
tally_of t n zero = 0
tally_of t n (suc s) = count_below n (λ i. eqb (ruleset_at t i) s)

unfoldable pub summed_up : List ℕ → ℕ → ℕ
summed_up xs s = sum_below (s + 1) (λ i. get_or xs i 0)
