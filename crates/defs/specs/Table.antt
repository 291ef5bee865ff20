-- The packed table: where its words stand, and when it is accepted. Words are read by place; past the end is 0.
-- In words: docs/MANUAL.md, 2.2.
use Rattle.std.specs.Prelude.{Bool, true, false, not, ◌&&◌, ◌||◌, List, map, ℕ, zero, suc, ◌+◌, ◌*◌, ◌-◌, min, eqb, leb, ltb, length, get_or}
use Rattle.std.proofs.Math.Seq.{slice}
use Rattle.plain.specs.Choice.{select}
use Rattle.plain.specs.Below.{every_below, sum_below}
use Rattle.plain.specs.Lists.{count}
use Rattle.defs.specs.declared.ruledef.Part.{Part}
use Rattle.std.specs.declared.ops.Range.{Range}
use Rattle.defs.specs.declared.ruledef.Part.TheVariants.{Exact, Whitespace, Expression, Nested}

-- the word at a place
unfoldable pub word_at : List ℕ → ℕ → ℕ
word_at t i = get_or t i 0

-- S, R and P
abbrev pub rulesets_in : List ℕ → ℕ
rulesets_in t = word_at t 0

abbrev pub records_in : List ℕ → ℕ
records_in t = word_at t 1

abbrev pub parts_in : List ℕ → ℕ
parts_in t = word_at t 2

-- S flags, then R records of three words, then P part words
abbrev pub records_from : List ℕ → ℕ
records_from t = 3 + rulesets_in t

abbrev pub parts_from : List ℕ → ℕ
parts_from t = 3 + rulesets_in t + 3 * records_in t

unfoldable pub flag_at : List ℕ → ℕ → ℕ
flag_at t s = word_at t (3 + s)

-- a record's fields: ruleset, first part, part count
unfoldable pub field_at : List ℕ → ℕ → ℕ → ℕ
field_at t i which = word_at t (records_from t + 3 * i + which)

abbrev pub ruleset_at : List ℕ → ℕ → ℕ
ruleset_at t i = field_at t i 0

abbrev pub first_at : List ℕ → ℕ → ℕ
first_at t i = field_at t i 1

abbrev pub count_at : List ℕ → ℕ → ℕ
count_at t i = field_at t i 2

unfoldable pub part_word_at : List ℕ → ℕ → ℕ
part_word_at t k = word_at t (parts_from t + k)

-- a word as a part
unfoldable pub part_of : ℕ → Part
part_of w = select (ltb w 256) (Exact w) (select (eqb w 256) Whitespace (select (ltb w 512) Expression (Nested (w - 512))))

-- the words and the parts of record i
unfoldable pub rule_from : List ℕ → ℕ → ℕ
rule_from t i = parts_from t + first_at t i

unfoldable pub rule_words : List ℕ → ℕ → List ℕ
rule_words t i = slice (rule_from t i) (rule_from t i + count_at t i) t

-- where these words stand, as far as the table reaches
unfoldable pub rule_span : List ℕ → ℕ → Range ℕ
rule_span t i = record { start = rule_from t i; end = min (rule_from t i + count_at t i) (length t) }

unfoldable pub rule_parts : List ℕ → ℕ → List Part
rule_parts t i = map part_of (rule_words t i)

-- the parts whose words stand from one place to before another
unfoldable pub parts_between : List ℕ → ℕ → ℕ → List Part
parts_between t at end = map part_of (slice at end t)

abbrev pub is_parameter : Part → Bool
is_parameter (Exact b) = false
is_parameter Whitespace = false
is_parameter Expression = true
is_parameter (Nested r) = true

-- ---- Acceptance, sentence by sentence

-- S (1 to 32), R (0 to 512), P (0 to 8,192)
unfoldable pub in_range : ℕ → ℕ → ℕ → Bool
in_range s r p = leb 1 s && leb s 32 && leb r 512 && leb p 8192

unfoldable pub sizes_fit : List ℕ → Bool
sizes_fit t = in_range (rulesets_in t) (records_in t) (parts_in t)

-- length is exactly 3 + S + 3R + P
unfoldable pub length_fits : List ℕ → Bool
length_fits t = eqb (length t) (parts_from t + parts_in t)

-- S flags (0 top, 1 nested only)
unfoldable pub flags_fit : List ℕ → Bool
flags_fit t = every_below (rulesets_in t) (λ s. leb (flag_at t s) 1)

-- the ruleset of the record before, and 0 before the first
unfoldable pub ruleset_before : List ℕ → ℕ → ℕ
ruleset_before t zero = 0
ruleset_before t (suc i) = ruleset_at t i

-- records stand in nondecreasing ruleset order, each ruleset below S
unfoldable pub ruleset_fits : List ℕ → ℕ → Bool
ruleset_fits t i = ltb (ruleset_at t i) (rulesets_in t) && leb (ruleset_before t i) (ruleset_at t i)

unfoldable pub rulesets_fit : List ℕ → Bool
rulesets_fit t = every_below (records_in t) (ruleset_fits t)

-- each part range lies within P; at most 64 parts a rule
unfoldable pub range_fits : List ℕ → ℕ → Bool
range_fits t i = leb (first_at t i + count_at t i) (parts_in t) && leb (count_at t i) 64

unfoldable pub ranges_fit : List ℕ → Bool
ranges_fit t = every_below (records_in t) (range_fits t)

-- the part counts sum to at most P
unfoldable pub counts_fit : List ℕ → Bool
counts_fit t = leb (sum_below (records_in t) (count_at t)) (parts_in t)

-- at most 8 parameters a rule
unfoldable pub parameters_in : List ℕ → ℕ → ℕ
parameters_in t i = count is_parameter (rule_parts t i)

unfoldable pub parameters_fit : List ℕ → Bool
parameters_fit t = every_below (records_in t) (λ i. leb (parameters_in t i) 8)

-- a part is 33 to 126 except 59, 256, 257, or 512 + r with r below S
unfoldable pub is_part : ℕ → ℕ → Bool
is_part s w = leb 33 w && leb w 126 && not (eqb w 59) || eqb w 256 || eqb w 257 || leb 512 w && ltb w (512 + s)

-- all P words are checked
unfoldable pub parts_fit : List ℕ → Bool
parts_fit t = every_below (parts_in t) (λ k. is_part (rulesets_in t) (part_word_at t k))

unfoldable pub table_fits : List ℕ → Bool
table_fits t =
    sizes_fit t
    && (length_fits t
    && (flags_fit t && (rulesets_fit t && ((ranges_fit t && counts_fit t) && (parameters_fit t && parts_fit t)))))
