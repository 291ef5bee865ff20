-- Prefixes as numbers, so that a rule that fails in its leading exact parts is told by comparing two of them.
use Rattle.std.specs.Prelude.{◌≡◌, Bool, true, false, ◌⊎◌, List, ℕ, ◌+◌, ◌*◌, ◌/◌, ◌%◌, ◌≤◌, ◌<◌, eqb, length, get_or, Option, None, Some}
use Rattle.plain.specs.Choice.{select}
use Rattle.defs.specs.Table.{table_fits, records_in, rule_parts}
use Rattle.defs.specs.Ruledef.{starts_of, is_top_rule}
use Rattle.ruledef_map.specs.RuledefMap.{rule_prefix}
use Rattle.readings.specs.Fail.{ahead}
use Rattle.places.specs.declared.RulePlace.{RulePlace}
use Rattle.places.specs.Places.{Placed}

-- a prefix as one number: four bytes, the first weighs most, a missing byte is 0
unfoldable pub key_of : List ℕ → ℕ
key_of p = ((get_or p 0 0 * 256 + get_or p 1 0) * 256 + get_or p 2 0) * 256 + get_or p 3 0

-- rule i's
unfoldable pub key_at : List ℕ → ℕ → ℕ
key_at t i = key_of (rule_prefix (rule_parts t i))

-- ---- comparing

-- where a rule's number differs from the line's, its prefix goes on, or has ended
abbrev unless_ended : ℕ → ℕ → ℕ
unless_ended key visits = select (eqb (key % 256) 0) 0 visits

-- the visits of a rule that fails, by the first of the four bytes that differ: one for each byte that agrees, and one; 0 if none
-- differs, or the rule's prefix has ended there
unfoldable pub failing_by : ℕ → ℕ → ℕ
failing_by rule line =
    select (eqb (rule / 16777216) (line / 16777216))
    (select (eqb (rule / 65536) (line / 65536))
    (select (eqb (rule / 256) (line / 256)) (select (eqb rule line) 0 (unless_ended rule 4)) (unless_ended (rule / 256) 3))
    (unless_ended (rule / 65536) 2))
    (unless_ended (rule / 16777216) 1)

-- what the line has ahead, if it is asked for; and the visits by that, of a rule that fails
abbrev pub ahead_of : Bool → List ℕ → ℕ → ℕ → Option ℕ
ahead_of wanted line l c = select wanted (Some (key_of (ahead line l c))) None

abbrev pub some_visits : ℕ → Option ℕ
some_visits n = select (eqb n 0) None (Some n)

unfoldable pub failing_of : ℕ → Option ℕ → Option ℕ
failing_of rule None = None
failing_of rule (Some line) = some_visits (failing_by rule line)

-- ---- what is prepared

-- a rule's lead is its prefix as a number, or 0, which says nothing
abbrev pub LeadOf : List ℕ → ℕ → ℕ → Type 0
LeadOf t i w = (w ≡ 0) ⊎ (w ≡ key_at t i)

pub record Leads (t leads : List ℕ) : Type 0 where
  pub sized : length leads ≡ 512
  pub each : (i : ℕ) → LeadOf t i (get_or leads i 0)

-- the rules of some kind have their leads, and every other word is as it was
pub record Led (t : List ℕ) (Of : ℕ → Type 0) (before after : List ℕ) : Type 0 where
  pub here : (i : ℕ) → Of i → get_or after i 0 ≡ key_at t i
  pub others : (i : ℕ) → Of i ⊎ (get_or after i 0 ≡ get_or before i 0)

-- the rules of a list; the rules of the table from one place to before another; those of no top ruleset
abbrev pub Among : List ℕ → ℕ → Type 0
Among rules i = (j : ℕ) × (j < length rules) × (i ≡ get_or rules j 0)

abbrev pub Between : ℕ → ℕ → ℕ → Type 0
Between from to i = (from ≤ i) × (i < to)

abbrev pub Nested : List ℕ → ℕ → Type 0
Nested t i = (i < records_in t) × (is_top_rule t i ≡ false)

-- what leading listed rules asks: rules that are prepared, and room
pub record ListAsked (t : List ℕ) (places : List RulePlace) (rules leads : List ℕ) : Type 0 where
  pub table : table_fits t ≡ true
  pub below : (j : ℕ) → j < length rules → get_or rules j 0 < records_in t
  pub placed : Placed t places rules
  pub room : length leads ≡ 512

-- what leading nested rules asks
pub record NestAsked (t starts leads : List ℕ) : Type 0 where
  pub table : table_fits t ≡ true
  pub begins : starts ≡ starts_of t
  pub room : length leads ≡ 512
