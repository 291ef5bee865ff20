-- Plain data as a packed table, with the parts packed in rule order and no spare parts, and a packed table's data.
-- In words: docs/MANUAL.md, 2.2 and 10.2.
use Rattle.std.specs.Prelude.{Bool, false, ℕ, ◌+◌, eqb, length, get_or}
use mathlib.Core.List.{List, [], ◌∷◌, ◌++◌, map, flat_map}
use Rattle.plain.specs.Choice.{select}
use Rattle.plain.specs.Lists.{keep_if, listed}
use Rattle.defs.specs.Table.{rulesets_in, records_in, ruleset_at, rule_parts}
use Rattle.defs.specs.Ruledef.{Ruleset, is_top}
use Rattle.defs.specs.declared.ruledef.Part.{Part}
use Rattle.packing.specs.Data.{Rule, Data, word_of, parts_of}

-- a ruleset's flag, a rule's words
abbrev pub flag_of : Bool → ℕ
flag_of top = select top 0 1

abbrev pub words_of : Rule → List ℕ
words_of r = map word_of r.parts

-- records of ruleset, first part, part count; the first rule's parts begin at f
unfoldable pub records_of : ℕ → List Rule → List ℕ
records_of f [] = []
records_of f (r ∷ rs) = r.set ∷ f ∷ length r.parts ∷ records_of (f + length r.parts) rs

-- S, R, P; S flags; R records; P part words
unfoldable pub packed : Data → List ℕ
packed d =
    length d.tops ∷ length d.rules ∷ parts_of d.rules
    ∷ (map flag_of d.tops ++ (records_of 0 d.rules ++ flat_map words_of d.rules))

-- what a packed table says
unfoldable pub rule_at : List ℕ → ℕ → Rule
rule_at t i = record { set = ruleset_at t i; parts = rule_parts t i }

unfoldable pub data_of : List ℕ → Data
data_of t = record { tops = listed (rulesets_in t) (is_top t); rules = listed (records_in t) (rule_at t) }

-- its rulesets, each with its own rules in order
unfoldable pub rules_of : ℕ → List Rule → List (List Part)
rules_of s rs = map (λ (r : Rule). r.parts) (keep_if (λ (r : Rule). eqb r.set s) rs)

unfoldable pub rulesets_of : Data → List Ruleset
rulesets_of d = listed (length d.tops) (λ s. record { top = get_or d.tops s false; rules = rules_of s d.rules })
