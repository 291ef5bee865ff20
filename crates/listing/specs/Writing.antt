-- The pieces of a listing in which it is written, each with its tab or line end.
use Rattle.std.specs.Prelude.{Bool, ℕ}
use mathlib.Core.List.{List, [], ◌∷◌, ◌++◌, map, flat_map}
use Rattle.plain.specs.Lists.{range}
use Rattle.defs.specs.Ruledef.{is_top}
use Rattle.defs.specs.declared.ruledef.Part.{Part}
use Rattle.packing.specs.Data.{Rule}
use Rattle.packing.specs.Packed.{rule_at}
use Rattle.printing.specs.Listing.{Bytes, top_line, rule_line, ended}
use Rattle.fields.specs.Laid.{part_text}

unfoldable pub parts_text : List Part → Bytes
parts_text ps = flat_map part_text ps

-- a rule's line, with its end; the lines of n rules, or rulesets, from one on
abbrev pub rule_text : Rule → Bytes
rule_text r = rule_line r ++ (10 ∷ [])

abbrev pub top_text : Bool → Bytes
top_text top = top_line top ++ (10 ∷ [])

unfoldable pub rules_text : List ℕ → ℕ → ℕ → Bytes
rules_text t i n = ended (map rule_line (map (rule_at t) (range i n)))

unfoldable pub tops_text : List ℕ → ℕ → ℕ → Bytes
tops_text t i n = ended (map top_line (map (is_top t) (range i n)))
