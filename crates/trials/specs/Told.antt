-- What an answer says: document 01's number and fields for each case. And what the steps of a line's call give.
use Rattle.std.specs.Prelude.{◌≡◌, true, not, List, [], map, ℕ, ◌≤◌, ◌<◌, length, get_or, Option, None, Some, Result, Ok, Err}
use Rattle.plain.specs.Choice.{select}
use Rattle.plain.specs.Told.{Told}
use Rattle.line.specs.Line.{fault_at}
use Rattle.defs.specs.Table.{table_fits, records_in}
use Rattle.defs.specs.Ruledef.{starts_of}
use Rattle.ruledef_map.specs.RuledefMap.{line_prefix, top_rules, found_rules}
use Rattle.extents.specs.Sheet.{sheet_fits}
use Rattle.readings.specs.Scene.{scene_of}
use Rattle.readings.specs.Answer.{answer_words}
use Rattle.readings.specs.Plan.{Outcome, done, stop, room}
use Rattle.readings.specs.Walk.{Match}
use Rattle.readings.specs.Records.{pair_of}
use Rattle.readings.specs.Call.{Accepted, budget_fits, base_fits, call_with}
use Rattle.places.specs.declared.RulePlace.{RulePlace}
use Rattle.places.specs.Places.{Placed}
use Rattle.pool.specs.declared.Pool.{Pool}
use Rattle.pool.specs.Log.{log_of}
use Rattle.pool.specs.Meaning.{Stored}
use Rattle.pool.specs.Counted.{Counted}
use Rattle.answer.specs.Measured.{trees_in, Bounded, FitFrom}
use Rattle.trials.specs.declared.Matched.{Matched}
use Rattle.trials.specs.declared.Refused.{Refused}
use Rattle.trials.specs.declared.Refused.TheVariants.{NoMatch, BadTable, BadLine, BadSheet, BadBudget, BadBase, Spent, TooDeep, PoolFull, TooLong}
use Rattle.walk.specs.declared.Refusal.{Refusal}
use Rattle.walk.specs.declared.Stopped.{Stopped}
use Rattle.walk.specs.declared.Walked.{Walked}
use Rattle.walk.specs.Met.{Made, number_of}

abbrev told : ℕ → ℕ → ℕ → ℕ → List ℕ → Told
told n v w p b = record { number = n; visits = v; words = w; place = p; buffer = b }

-- each answer's number, visits, words and place, with the buffer; unstated fields are 0
abbrev pub says : Result Matched Refused → List ℕ → Told
says (Ok m) b = told 0 m.visits m.words 0 b
says (Err (NoMatch v)) b = told 1 v 0 0 b
says (Err BadTable) b = told 2 0 0 0 b
says (Err (BadLine p)) b = told 3 0 0 p b
says (Err BadSheet) b = told 4 0 0 0 b
says (Err BadBudget) b = told 5 0 0 0 b
says (Err BadBase) b = told 19 0 0 0 b
says (Err (Spent v)) b = told 6 v 0 0 b
says (Err (TooDeep v)) b = told 7 v 0 0 b
says (Err (PoolFull v)) b = told 8 v 0 0 b
says (Err (TooLong v w)) b = told 9 v w 0 b

-- the whole call that tries these rules, by ruleset and number
abbrev pub listed_call : List (ℕ × ℕ) → List ℕ → List ℕ → List ℕ → ℕ → ℕ → List ℕ → Told
listed_call rules = call_with (λ s. rules)

-- what line, sheet, budget and base must have for none of 3, 4, 5 and 19
pub record LineAccepted (line sheet : List ℕ) (budget base : ℕ) : Type 0 where
  pub bytes : fault_at line ≡ None
  pub extents : sheet_fits sheet (length line) ≡ true
  pub visits : budget_fits budget ≡ true
  pub origin : base_fits base ≡ true

abbrev pub lined_check : Option ℕ → Result Unit Refused → Result Unit Refused
lined_check None r = r
lined_check (Some p) r = Err (BadLine p)

-- the line's checks run 3, 4, 5, 19
unfoldable pub checked_of : List ℕ → List ℕ → ℕ → ℕ → Result Unit Refused
checked_of line sheet budget base =
    lined_check (fault_at line)
    (select (not (sheet_fits sheet (length line))) (Err BadSheet)
    (select (not (budget_fits budget)) (Err BadBudget) (select (not (base_fits base)) (Err BadBase) (Ok tt))))

-- the rules that a call tries, by their places in the table: the scan's, or those that the line's prefixes lead to
pub data Chosen (t line rules : List ℕ) : Type 0 where
  all_tops : rules ≡ top_rules t → Chosen t line rules
  by_prefix : rules ≡ found_rules t (line_prefix line) → Chosen t line rules

-- what trying rules asks: accepted input, an empty pool's store, rules of the table that were prepared. The walk counts places
-- from the line's start.
pub record TryAsked (t line sheet starts : List ℕ) (places : List RulePlace) (store rules : List ℕ) (visits : ℕ) : Type 0 where
  pub accepted : Accepted t line sheet visits 0
  pub begins : starts ≡ starts_of t
  pub placed : Placed t places rules
  pub sized : length store ≡ room
  pub below : (i : ℕ) → i < length rules → get_or rules i 0 < records_in t

-- what trying rules leaves: the matches in the log, whose records are counted, or which of 6, 7, 8
pub record Listed (t : List ℕ) (o : Outcome (List Match)) (store : List ℕ) (left : ℕ) (pool : Pool) : Type 0 where
  pub matches : List Match
  pub done_with : o ≡ done left pool.used matches
  pub made : Made 0 [] (log_of store pool.used) matches
  pub counted : Counted (scene_of t [] []) (log_of store pool.used)
  pub room : pool.used ≤ room

pub data Tried (t : List ℕ) (o : Outcome (List Match)) (store : List ℕ) : Result Walked Stopped → Type 0 where
  listed : {w : Walked} → Listed t o store w.left w.pool → Tried t o store (Ok w)
  stopped : {s : Stopped} → o ≡ stop (number_of s.why) s.left → Tried t o store (Err s)

abbrev pub stopped_by : Refusal → ℕ → Refused
stopped_by Refusal.Spent v = Spent v
stopped_by Refusal.Deep v = TooDeep v
stopped_by Refusal.Full v = PoolFull v

-- what telling the matches asks: they are in the store, with their counts; counts and words are few, and under their base each
-- word fits
pub record TellAsked (t store : List ℕ) (used base : ℕ) : Type 0 where
  pub stored : Stored store used
  pub counted : Counted (scene_of t [] []) (log_of store used)
  pub bounded : Bounded t store used
  pub fit : FitFrom base store used
  pub words : length (answer_words (scene_of t [] []) (trees_in store used)) ≤ 12589058

-- what reading a line asks: accepted input, and the rules of scan or lookup, prepared
pub record ReadAsked (t line sheet starts : List ℕ) (places : List RulePlace) (store rules : List ℕ) (budget base : ℕ) : Type 0 where
  pub table : table_fits t ≡ true
  pub lined : LineAccepted line sheet budget base
  pub begins : starts ≡ starts_of t
  pub placed : Placed t places rules
  pub chosen : Chosen t line rules
  pub sized : length store ≡ room

-- the rules tried, as the scene names them
abbrev pub tried_pairs : List ℕ → List ℕ → List (ℕ × ℕ)
tried_pairs t rules = map (pair_of t) rules
