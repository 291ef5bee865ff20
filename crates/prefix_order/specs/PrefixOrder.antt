-- The top rules in order of prefix, by their bytes and then by the table, and what finding a line's rules in it asks.
use Rattle.std.specs.Prelude.{◌≡◌, true, List, map, ℕ, ◌+◌, ◌*◌, ◌/◌, ◌%◌, ◌≤◌, ◌<◌, eqb, length, get_or, None}
use Rattle.plain.specs.Buffers.{put_after}
use Rattle.plain.specs.Lists.{keep_if}
use Rattle.line.specs.Line.{fault_at}
use Rattle.defs.specs.Table.{table_fits, rule_parts}
use Rattle.places.specs.declared.RulePlace.{RulePlace}
use Rattle.places.specs.Places.{Placed}
use Rattle.leads.specs.Leads.{key_of}
use Rattle.ruledef_map.specs.RuledefMap.{rule_prefix, top_rules}
use Rattle.sorting.specs.Ascending.{ascending, in_order}

-- what stands for rule i in the order: its prefix, and then its place in the table
unfoldable pub entry_of : List ℕ → ℕ → ℕ
entry_of t i = key_of (rule_prefix (rule_parts t i)) * 512 + i

-- the top rules by prefix bytes, a missing byte as 0, then in table order
unfoldable pub entries : List ℕ → List ℕ
entries t = ascending (map (entry_of t) (top_rules t))

-- the same as places in the table
unfoldable pub prefix_order : List ℕ → List ℕ
prefix_order t = map (λ e. e % 512) (entries t)

-- of entries, the rules whose prefix has this key, in their order
unfoldable pub rules_with : ℕ → List ℕ → List ℕ
rules_with key es = map (λ e. e % 512) (keep_if (λ e. eqb (e / 512) key) es)

-- what ordering asks: an accepted table, its top rules, where their parts stand, and room
pub record OrderAsked (t : List ℕ) (places : List RulePlace) (rules order spare : List ℕ) : Type 0 where
  pub table : table_fits t ≡ true
  pub top : rules ≡ top_rules t
  pub placed : Placed t places rules
  pub room : length order ≡ length rules
  pub aside : length order ≤ length spare

-- what laying the entries asks
pub record LayAsked (t : List ℕ) (places : List RulePlace) (rules order : List ℕ) : Type 0 where
  pub small : (j : ℕ) → j < length rules → get_or rules j 0 < 512
  pub placed : Placed t places rules
  pub room : length order ≡ length rules

-- what finding asks: an accepted table and line, the table's order, and room
pub record FindAsked (t order line rules : List ℕ) : Type 0 where
  pub table : table_fits t ≡ true
  pub good : fault_at line ≡ None
  pub ordered : order ≡ entries t
  pub room : length rules ≡ 512

-- before a place all numbers are below a bound
pub record Passed (es : List ℕ) (bound at : ℕ) : Type 0 where
  pub within : at ≤ length es
  pub below : (k : ℕ) → k < at → get_or es k 0 < bound

-- it is the place of the first number that is not below the bound, or the end
pub record FirstFrom (es : List ℕ) (bound at : ℕ) : Type 0 where
  pub passed : Passed es bound at
  pub from : (k : ℕ) → at ≤ k → k < length es → bound ≤ get_or es k 0

-- what writing a run asks: ordered entries, a place that it does not begin before, and room for it
pub record RunAsked (es rules : List ℕ) (key begin from : ℕ) : Type 0 where
  pub ordered : in_order es ≡ true
  pub small : key < 4294967296
  pub passed : Passed es (key * 512) begin
  pub room : from + length (rules_with key es) ≤ length rules

-- what it leaves: the run's rules after those before, and a place before which all entries are of this key or a lesser one
pub record RunLeft (es rules : List ℕ) (key from end found : ℕ) (now : List ℕ) : Type 0 where
  pub written : (now, found) ≡ put_after from (rules_with key es) rules
  pub passed : Passed es ((key + 1) * 512) end
