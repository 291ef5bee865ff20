-- The prefix map: a rule's prefix, a line's prefix, and the rules to try, in their order.
-- In words: docs/MANUAL.md, 6.
use Rattle.std.specs.Prelude.{Bool, true, false, ◌&&◌, ℕ, suc, eqb, leb, length, get_or, take}
use mathlib.Core.List.{List, [], ◌∷◌, map, flat_map}
use Rattle.plain.specs.Choice.{select}
use Rattle.plain.specs.Buffers.{at_start}
use Rattle.plain.specs.Lists.{range, keep_if, listed}
use Rattle.token.specs.Token.{lowered}
use Rattle.token.specs.Token.{is_solid}
use Rattle.defs.specs.Table.{records_in, rule_parts}
use Rattle.defs.specs.Ruledef.{is_top_rule}
use Rattle.defs.specs.declared.ruledef.Part.{Part}
use Rattle.defs.specs.declared.ruledef.Part.TheVariants.{Exact, Whitespace, Expression, Nested}
use Rattle.ruledef_map.specs.declared.Prefix.{Prefix}

-- a rule's prefix is its leading exact parts, up to 4, lowered
unfoldable pub leading : List Part → List ℕ
leading [] = []
leading (Exact b ∷ ps) = lowered b ∷ leading ps
leading (Whitespace ∷ ps) = []
leading (Expression ∷ ps) = []
leading (Nested r ∷ ps) = []

unfoldable pub rule_prefix : List Part → List ℕ
rule_prefix ps = take 4 (leading ps)

-- the line's is its first 4 non-whitespace bytes, lowered
unfoldable pub line_prefix : List ℕ → List ℕ
line_prefix line = take 4 (map lowered (keep_if is_solid line))

-- the same as the code holds it: four bytes, 0 where there is none, and how many there are
unfoldable pub held_prefix : List ℕ → Prefix
held_prefix p = record { bytes = listed 4 (λ j. get_or p j 0); count = length p }

-- the bytes that a held prefix stands for
abbrev pub prefix_bytes : Prefix → List ℕ
prefix_bytes p = take p.count p.bytes

abbrev pub same_bytes : List ℕ → List ℕ → Bool
same_bytes [] [] = true
same_bytes [] (y ∷ ys) = false
same_bytes (x ∷ xs) [] = false
same_bytes (x ∷ xs) (y ∷ ys) = eqb x y && same_bytes xs ys

-- the length of a rule's prefix, if the line's prefix p begins with it, else 5
unfoldable pub prefix_length : List Part → List ℕ → ℕ
prefix_length ps p = select (same_bytes (rule_prefix ps) (take (length (rule_prefix ps)) p)) (length (rule_prefix ps)) 5

-- the full scan tries the top rules in table order
unfoldable pub top_rules : List ℕ → List ℕ
top_rules t = keep_if (is_top_rule t) (range 0 (records_in t))

-- of rules, however they are named, those whose prefix is q, in their order
unfoldable pub with_prefix : {A : Type 0} → (A → List Part) → List A → List ℕ → List A
with_prefix parts rules q = keep_if (λ x. same_bytes (rule_prefix (parts x)) q) rules

-- lookup tries the line's prefixes of length 0 upward, up to what exists; within one length, the rules' order
unfoldable pub found_in : {A : Type 0} → (A → List Part) → List A → List ℕ → List A
found_in parts rules p = flat_map (λ j. with_prefix parts rules (take j p)) (range 0 (suc (length p)))

-- of the top rules, by their places in the table
abbrev pub found_rules : List ℕ → List ℕ → List ℕ
found_rules t p = found_in (rule_parts t) (top_rules t) p

-- what a lookup marks a rule with: its prefix's length if it may match, else 5; and the rules with a mark, in table order
unfoldable pub mark_of : List ℕ → List ℕ → ℕ → ℕ
mark_of t p i = select (is_top_rule t i) (prefix_length (rule_parts t i) p) 5

unfoldable pub with_mark : List ℕ → ℕ → ℕ → List ℕ
with_mark marks n j = keep_if (λ i. eqb (get_or marks i 0) j) (range 0 n)

-- a list of rules at a buffer's start, and how many; a table of more than 512 records, or of more than the buffer has
-- room for, lists none
unfoldable pub put_rules : List ℕ → List ℕ → List ℕ → List ℕ × ℕ
put_rules t rules buffer =
    select (leb (records_in t) 512 && leb (records_in t) (length buffer)) (at_start rules buffer, length rules) (buffer, 0)
