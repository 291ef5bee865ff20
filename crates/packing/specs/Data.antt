-- A table's rulesets and rules as plain data, and document 01's limits over them.
-- In words: docs/MANUAL.md, 2.2 and 10.1.
use Rattle.std.specs.Prelude.{Bool, true, not, ◌&&◌, List, [], ◌∷◌, ℕ, ◌+◌, eqb, leb, ltb, length}
use Rattle.plain.specs.Lists.{count, every}
use Rattle.defs.specs.Table.{in_range, is_parameter}
use Rattle.defs.specs.declared.ruledef.Part.{Part}
use Rattle.defs.specs.declared.ruledef.Part.TheVariants.{Exact, Whitespace, Expression, Nested}

-- a rule is its ruleset's number and its parts
pub record Rule : Type 0 where
  pub set : ℕ
  pub parts : List Part

-- first all rulesets, top or nested, then all rules in table order
pub record Data : Type 0 where
  pub tops : List Bool
  pub rules : List Rule

-- a rule, and data, by their fields
abbrev pub rule : ℕ → List Part → Rule
rule s ps = record { set = s; parts = ps }

abbrev pub data_from : List Bool → List Rule → Data
data_from tops rules = record { tops = tops; rules = rules }

-- ---- Limits

-- the word of a part
abbrev pub word_of : Part → ℕ
word_of (Exact b) = b
word_of Whitespace = 256
word_of Expression = 257
word_of (Nested r) = 512 + r

-- a part is 33 to 126 except 59 (exact), whitespace, expression, or nested with r below S
abbrev pub is_part_of : ℕ → Part → Bool
is_part_of s (Exact b) = leb 33 b && leb b 126 && not (eqb b 59)
is_part_of s Whitespace = true
is_part_of s Expression = true
is_part_of s (Nested r) = ltb r s

-- each ruleset below S; at most 64 parts and 8 parameters a rule
unfoldable pub rule_fits : ℕ → Rule → Bool
rule_fits s r = ltb r.set s && (leb (length r.parts) 64 && (leb (count is_parameter r.parts) 8 && every (is_part_of s) r.parts))

-- rules stand in nondecreasing ruleset order, from a ruleset on
unfoldable pub ascend : ℕ → List Rule → Bool
ascend s [] = true
ascend s (r ∷ rs) = leb s r.set && ascend r.set rs

-- the ruleset of the last rule, from a ruleset on
abbrev pub last_of : ℕ → List Rule → ℕ
last_of s [] = s
last_of s (r ∷ rs) = last_of r.set rs

-- how many parts there are in all
unfoldable pub parts_of : List Rule → ℕ
parts_of [] = 0
parts_of (r ∷ rs) = length r.parts + parts_of rs

-- S (1 to 32), R (0 to 512), P (0 to 8,192); rules in ruleset order, each within its limits
unfoldable pub data_fits : Data → Bool
data_fits d =
    in_range (length d.tops) (length d.rules) (parts_of d.rules) && (ascend 0 d.rules && every (rule_fits (length d.tops)) d.rules)
