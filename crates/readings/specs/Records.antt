-- A rule by its record's place in the table, as the code holds it, and as the scene names it: by ruleset and number.
use Rattle.std.specs.Prelude.{List, ℕ, ◌-◌}
use Rattle.defs.specs.Table.{ruleset_at}
use Rattle.defs.specs.Ruledef.{begins_at}

-- the ruleset of record i, and the rule's number there
unfoldable pub pair_of : List ℕ → ℕ → ℕ × ℕ
pair_of t i = (ruleset_at t i, i - begins_at t (ruleset_at t i))
