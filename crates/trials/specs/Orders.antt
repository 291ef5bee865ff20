-- Which rules a call tries, and in what order: all top rules, or those that the line's prefixes lead to. And which leads it
-- prepares.
use Rattle.std.specs.Prelude.{◌≡◌, Bool, true, false, ◌⊎◌, List, ℕ, ◌<◌, length, get_or}
use Rattle.defs.specs.Table.{table_fits, records_in}
use Rattle.defs.specs.Ruledef.{starts_of}
use Rattle.ruledef_map.specs.RuledefMap.{line_prefix, top_rules, found_rules}
use Rattle.readings.specs.Scene.{Scene}
use Rattle.readings.specs.Walk.{top_pairs}
use Rattle.readings.specs.Lookup.{found_pairs}
use Rattle.places.specs.declared.RulePlace.{RulePlace}
use Rattle.places.specs.Places.{Placed}
use Rattle.leads.specs.Leads.{Among, Nested}
use Rattle.trials.specs.declared.Order.{Order}
use Rattle.trials.specs.declared.Order.TheVariants.{Scan, Lookup}

-- as rulesets and numbers, and as records
abbrev pub order_of : Order → Scene → List (ℕ × ℕ)
order_of Scan s = top_pairs s
order_of Lookup s = found_pairs s (line_prefix s.line)

abbrev pub rules_of : Order → List ℕ → List ℕ → List ℕ
rules_of Scan t line = top_rules t
rules_of Lookup t line = found_rules t (line_prefix line)

-- all top rules are tried
abbrev pub is_scan : Order → Bool
is_scan Scan = true
is_scan Lookup = false

-- the rules whose leads are laid: nested ones, and those that a scan tries. The rules that a lookup finds begin as the line does.
abbrev pub LedFor : Order → List ℕ → List ℕ → ℕ → Type 0
LedFor Scan t rules i = Nested t i ⊎ Among rules i
LedFor Lookup t rules i = Nested t i

-- what laying them asks: rules of an accepted table that are prepared, where its rulesets begin, and room
pub record LeadAsked (t starts : List ℕ) (places : List RulePlace) (rules leads : List ℕ) : Type 0 where
  pub table : table_fits t ≡ true
  pub begins : starts ≡ starts_of t
  pub below : (j : ℕ) → j < length rules → get_or rules j 0 < records_in t
  pub placed : Placed t places rules
  pub room : length leads ≡ 512
