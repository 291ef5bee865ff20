-- The text of a table's rulesets and rules: one record a line, fields parted by tabs, each line ended by byte 10.
-- In words: docs/MANUAL.md, 10.1.
use Rattle.std.specs.Prelude.{Bool, true, false, List, [], ◌∷◌, ◌++◌, map, ℕ, zero, suc, ◌+◌, ◌/◌, ◌%◌, ltb}
use Rattle.plain.specs.Choice.{select}
use Rattle.defs.specs.declared.ruledef.Part.{Part}
use Rattle.defs.specs.declared.ruledef.Part.TheVariants.{Exact, Whitespace, Expression, Nested}
use Rattle.packing.specs.Data.{Rule, Data}

abbrev pub Bytes : Type 0
Bytes = List ℕ

-- `ruleset`, `rule`, `top`, `nested`, `ws`, `expr`, `sub`, as bytes; the code's byte strings are proved to be these
abbrev pub ruleset_word : Bytes
ruleset_word = 114 ∷ 117 ∷ 108 ∷ 101 ∷ 115 ∷ 101 ∷ 116 ∷ []

abbrev pub rule_word : Bytes
rule_word = 114 ∷ 117 ∷ 108 ∷ 101 ∷ []

abbrev pub top_word : Bytes
top_word = 116 ∷ 111 ∷ 112 ∷ []

abbrev pub nested_word : Bytes
nested_word = 110 ∷ 101 ∷ 115 ∷ 116 ∷ 101 ∷ 100 ∷ []

abbrev pub ws_word : Bytes
ws_word = 119 ∷ 115 ∷ []

abbrev pub expr_word : Bytes
expr_word = 101 ∷ 120 ∷ 112 ∷ 114 ∷ []

abbrev pub sub_word : Bytes
sub_word = 115 ∷ 117 ∷ 98 ∷ []

-- numbers are decimal without leading zeros; k bounds the digits
unfoldable pub digits : ℕ → ℕ → Bytes
digits zero n = []
digits (suc k) n = select (ltb n 10) ((48 + n) ∷ []) (digits k (n / 10) ++ ((48 + n % 10) ∷ []))

unfoldable pub decimal : ℕ → Bytes
decimal n = digits (suc n) n

-- one character for an exact part, `ws`, `expr`, or `sub` with the ruleset's number
abbrev pub part_field : Part → Bytes
part_field (Exact b) = b ∷ []
part_field Whitespace = ws_word
part_field Expression = expr_word
part_field (Nested r) = sub_word ++ decimal r

-- the fields of a ruleset, and of a rule
abbrev pub top_field : Bool → Bytes
top_field true = top_word
top_field false = nested_word

abbrev pub top_fields : Bool → List Bytes
top_fields top = ruleset_word ∷ top_field top ∷ []

abbrev pub rule_fields : Rule → List Bytes
rule_fields r = rule_word ∷ decimal r.set ∷ map part_field r.parts

-- fields parted by a byte
unfoldable pub parted : ℕ → List Bytes → Bytes
parted c [] = []
parted c (x ∷ []) = x
parted c (x ∷ (y ∷ xs)) = x ++ (c ∷ parted c (y ∷ xs))

-- each line ended by byte 10
unfoldable pub ended : List Bytes → Bytes
ended [] = []
ended (x ∷ xs) = x ++ (10 ∷ ended xs)

-- a ruleset's line, and a rule's
abbrev pub top_line : Bool → Bytes
top_line top = parted 9 (top_fields top)

abbrev pub rule_line : Rule → Bytes
rule_line r = parted 9 (rule_fields r)

-- first all rulesets, then all rules in table order
unfoldable pub lines_of : Data → List Bytes
lines_of d = map top_line d.tops ++ map rule_line d.rules

-- the text of a table's rulesets and rules
unfoldable pub listing : Data → Bytes
listing d = ended (lines_of d)
