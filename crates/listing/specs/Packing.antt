-- The writing pass: what it is told of a judged text, and what its parts leave in the table.
use Rattle.std.specs.Prelude.{◌≡◌, true, ℕ, ◌+◌, ◌*◌, ◌≤◌, length, Option, None, Some}
use mathlib.Core.List.{List, [], ◌∷◌, ◌++◌, map, flat_map}
use Rattle.std.proofs.lemmas.List.Edits.{sets}
use Rattle.plain.specs.Lists.{every}
use Rattle.packing.specs.Data.{Rule, Data, rule_fits, parts_of}
use Rattle.packing.specs.Packed.{words_of, records_of}
use Rattle.printing.specs.Listing.{Bytes, rule_line}
use Rattle.printing.specs.Reading.{pieces, Read, good, bad, nothing, read}
use Rattle.fields.specs.Said.{said_word}

-- the data whose listing a text is, if it is one
abbrev pub held_by : Read → Data
held_by (good d) = d
held_by (bad k) = nothing

abbrev pub listed_in : Bytes → Data
listed_in text = held_by (read text)

-- the text is a listing, of so many rulesets, rules and parts
pub record Listed (text : Bytes) (s r p : ℕ) : Type 0 where
  pub whole : read text ≡ good (listed_in text)
  pub tops : s ≡ length (listed_in text).tops
  pub rules : r ≡ length (listed_in text).rules
  pub parts : p ≡ parts_of (listed_in text).rules

-- bytes are these lines, each with its end
abbrev pub LinesAre : Bytes → List Bytes → Type 0
LinesAre rest lines = pieces 10 rest ≡ lines ++ ([] ∷ [])

-- rules within the limits, of so many rulesets, rules and parts
pub record Rules (s r p : ℕ) (rules : List Rule) : Type 0 where
  pub few : (s ≤ 32) × (r ≤ 512) × (p ≤ 8192)
  pub many : r ≡ length rules
  pub parts : p ≡ parts_of rules
  pub each : every (rule_fits s) rules ≡ true

-- bytes are the lines of such rules
pub record RulesListed (rest : Bytes) (s r p : ℕ) : Type 0 where
  pub rules : List Rule
  pub sizes : Rules s r p rules
  pub are : LinesAre rest (map rule_line rules)

-- each field says a part, and the words that they say
abbrev pub AllSaid : ℕ → List Bytes → Type 0
AllSaid s [] = Unit {0}
AllSaid s (f ∷ fs) = ((w : ℕ) × (said_word s f ≡ Some w)) × AllSaid s fs

abbrev pub word_or_none : Option ℕ → List ℕ
word_or_none None = []
word_or_none (Some w) = w ∷ []

unfoldable pub words_said : ℕ → List Bytes → List ℕ
words_said s fs = flat_map (λ f. word_or_none (said_word s f)) fs

-- where the parts begin, and how many words there are
abbrev pub parts_place : ℕ → ℕ → ℕ
parts_place s r = 3 + s + 3 * r

abbrev pub words_for : ℕ → ℕ → ℕ → ℕ
words_for s r p = parts_place s r + p

-- a table with the records of rules and their parts' words
abbrev pub with_rules : List ℕ → ℕ → ℕ → List Rule → List ℕ
with_rules table s r rs = sets (sets table (3 + s) (records_of 0 rs)) (parts_place s r) (flat_map words_of rs)
