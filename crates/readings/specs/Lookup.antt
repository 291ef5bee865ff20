-- Prefix lookup as a list of top rules to try: the line's prefixes of length 0 upward, and of each the top rules with that
-- prefix, in table order.
-- In words: docs/MANUAL.md, 6.
use Rattle.std.specs.Prelude.{List, ℕ}
use Rattle.defs.specs.declared.ruledef.Part.{Part}
use Rattle.ruledef_map.specs.RuledefMap.{line_prefix, found_in}
use Rattle.readings.specs.Scene.{Scene}
use Rattle.readings.specs.Plan.{Plan}
use Rattle.readings.specs.Walk.{Match, top_pairs, tries}

abbrev pub parts_of : Scene → ℕ × ℕ → List Part
parts_of s x = s.parts x.0 x.1

-- of the top rules, by ruleset and number
abbrev pub found_pairs : Scene → List ℕ → List (ℕ × ℕ)
found_pairs s p = found_in (parts_of s) (top_pairs s) p

unfoldable pub lookup : Scene → Plan (List Match)
lookup s = tries s (found_pairs s (line_prefix s.line))
