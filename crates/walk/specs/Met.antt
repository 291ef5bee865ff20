-- What a walk over the pool asks, and what it gives: what the plan of `readings` gives, with the matches found left in the
-- pool's log, in order, and every record of the log `Counted`, before each step and after it.
use Rattle.std.specs.Prelude.{◌≡◌, Option, Some, None, Result, Ok, Err, Bool, true, not, ◌&&◌, List, [], ◌∷◌, ◌++◌, map, ℕ, zero, suc, ◌-◌, ◌≤◌, ◌<◌, eqb, length, get_or}
use Rattle.std.proofs.Math.Seq.{slice}
use Rattle.plain.specs.Choice.{select}
use Rattle.syntax.specs.declared.walker.Walker.{Walker}
use Rattle.defs.specs.Table.{table_fits, parts_from, parts_between}
use Rattle.defs.specs.Ruledef.{starts_of}
use Rattle.defs.specs.declared.ruledef.Part.{Part}
use Rattle.defs.specs.declared.ruledef.Part.TheVariants.{Expression, Nested}
use Rattle.extents.specs.Sheet.{sheet_fits}
use Rattle.readings.specs.Tree.{node, end}
use Rattle.readings.specs.Scene.{Scene, scene_of}
use Rattle.readings.specs.Answer.{exact_count}
use Rattle.readings.specs.Plan.{Plan, give, keep, Outcome, done, stop, run, ◌then◌, each, when, mapped}
use Rattle.readings.specs.Walk.{Found, Match, Below, under, depths, walk, ends, limits, firsts, any_same, same_match, add_expr, add_nest}
use Rattle.useful.specs.Useful.{Lent}
use Rattle.leads.specs.Leads.{Leads}
use Rattle.pool.specs.declared.Pool.{Pool}
use Rattle.pool.specs.declared.Record.{Record}
use Rattle.pool.specs.Log.{log_of, depth_in, count_in}
use Rattle.pool.specs.Meaning.{Chain, none, Entry, argued, completed, tree_at, unwind, chain_at, meaning, meanings, gathered, Earlier, Stored, entries}
use Rattle.pool.specs.Counted.{CountedTo, Counted, Underway}
use Rattle.walk.specs.declared.Place.{Place}
use Rattle.walk.specs.declared.Inner.{Inner}
use Rattle.walk.specs.declared.Refusal.{Refusal}
use Rattle.walk.specs.declared.Refusal.TheVariants.{Spent, Deep, Full}
use Rattle.walk.specs.declared.Stopped.{Stopped}
use Rattle.walk.specs.declared.Walked.{Walked}

-- ---- the plans of the three functions

-- a top rule must end at the line's end
unfoldable pub finishes : ℕ → ℕ → ℕ → Bool
finishes n zero = eqb n
finishes n (suc d) = λ e. true

-- the end of a pattern, after its visit
unfoldable pub finish_plan : ℕ → ℕ → ℕ → Plan (List Found)
finish_plan n depth c = when (finishes n depth c) (keep (give ((end, c) ∷ [])))

module _ (t line sheet : List ℕ) (depth : ℕ) where
  abbrev pub scene : Scene
  scene = scene_of t line sheet

  -- nested rulesets from this depth
  abbrev pub deeper : Below
  deeper = under scene (depths - depth)

  -- the rule walk over these parts, under limit l from cursor c
  unfoldable pub parts_plan : List Part → ℕ → ℕ → Plan (List Found)
  parts_plan ps l c = walk scene deeper (finishes (length line) depth) ps l c

  -- a rule's parts are the words from one place to before another
  unfoldable pub rule_plan : ℕ → ℕ → ℕ → ℕ → Plan (List Found)
  rule_plan at to l c = parts_plan (parts_between t at to) l c

  -- the expression step, after its visit; these parts come after the parameter
  unfoldable pub expr_turn : List Part → ℕ → ℕ → ℕ → Plan (List Found)
  expr_turn ps l c e = keep (mapped (add_expr scene l c e) (parts_plan ps l e))

  unfoldable pub expr_plan : ℕ → ℕ → ℕ → ℕ → Plan (List Found)
  expr_plan at to l c = each (ends scene l c (parts_between t at to)) (expr_turn (parts_between t at to) l c)

  -- the nested step, after its visit
  unfoldable pub nest_turn : List Part → ℕ → ℕ → Match → Plan (List Found)
  nest_turn ps l c i = keep (mapped (add_nest scene l c i) (parts_plan ps l i.1))

  unfoldable pub nested_plan : ℕ → ℕ → ℕ → ℕ → ℕ → Plan (List Found)
  nested_plan r at to l c =
      each (limits scene l c (parts_between t at to)) (λ m. deeper r m c) then λ is.
      each (firsts same_match is) (nest_turn (parts_between t at to) l c)

-- a plan run with visits left and a pool
abbrev pub ran : {A : Type 0} → Plan A → ℕ → Pool → Outcome A
ran p v pool = run p v pool.used

-- ---- what a walk asks

pub record Ready (t line sheet starts store : List ℕ) (place : Place) (w : Walker) (pool : Pool) : Type 0 where
  pub table : table_fits t ≡ true
  pub extents : sheet_fits sheet (length line) ≡ true
  pub short : length line ≤ 120
  pub begins : starts ≡ starts_of t
  pub stored : Stored store pool.used
  pub counted : Counted (scene_of t [] []) (log_of store pool.used)
  pub sets : place.set < 32
  pub rules : place.rule < 512
  pub parts : parts_from t ≤ place.at
  pub ordered : place.at ≤ place.end
  pub whole : place.end ≤ length t
  pub depth : place.depth ≤ depths
  pub last : place.args ≤ pool.used
  pub cursor : w.cursor ≤ w.limit
  pub limit : w.limit ≤ length line
  pub top : place.depth ≡ 0 → w.limit ≡ length line

-- what a call prepares for its walks: the line's useful places, and the leads of rules
pub record Prepared (t line useful words : List ℕ) : Type 0 where
  pub places : Lent line useful
  pub leads : Leads t words

-- the parts that are still to come
abbrev pub to_come : List ℕ → Place → List Part
to_come t place = parts_between t place.at place.end

-- a step's place is past its parameter, whose argument is still sought: the match stands before that parameter
abbrev pub from_expr : List ℕ → Place → List Part
from_expr t place = Expression ∷ to_come t place

abbrev pub from_nest : List ℕ → ℕ → Place → List Part
from_nest t r place = Nested r ∷ to_come t place

-- a rule's match so far, before these parts and at this cursor: its arguments' records have its counts, and it has this one. It
-- has passed a byte for each exact part, so the count is at most the cursor.
pub record Stands (t store : List ℕ) (used : ℕ) (place : Place) (count : ℕ) (rest : List Part) (cursor : ℕ) : Type 0 where
  pub own : CountedTo (scene_of t [] []) place.set place.rule (log_of store used) place.args
  pub so_far : Underway (scene_of t [] []) place.set place.rule rest (chain_at (entries store used) place.args) count
  pub small : count ≤ cursor

-- a match at its pattern's end: the records so far are counted, and it has its own count
pub record Ended (t store : List ℕ) (used : ℕ) (place : Place) (count : ℕ) : Type 0 where
  pub counted : Counted (scene_of t [] []) (log_of store used)
  pub own : CountedTo (scene_of t [] []) place.set place.rule (log_of store used) place.args
  pub whole : count ≡ exact_count (scene_of t [] []) (node place.set place.rule (unwind (chain_at (entries store used) place.args) end))

-- ---- what a walk gives

-- the log gained matches of depth d, in order, and none of a lesser depth
pub record Made (d : ℕ) (log log' : List Record) (ms : List Match) : Type 0 where
  pub new : List Record
  pub grown : log' ≡ log ++ new
  pub found : gathered d (meaning (meanings log) new) ≡ ms
  pub shallow : (e : ℕ) → e < d → gathered e (meaning (meanings log) new) ≡ []
  pub earlier : Earlier log'

-- a match from the arguments found after a chain
abbrev pub whole : ℕ → ℕ → Chain → Found → Match
whole r k c x = (node r k (unwind c x.0), x.1)

-- the match that a place's rule completes, from the arguments found after those of the log
abbrev pub whole_at : Place → List Record → Found → Match
whole_at place log = whole place.set place.rule (chain_at (meanings log) place.args)

abbrev pub number_of : Refusal → ℕ
number_of Spent = 6
number_of Deep = 7
number_of Full = 8

pub record Reached (t : List ℕ) (left : ℕ) (pool : Pool) (o : Outcome (List Found)) (place : Place) (log : List Record) (store' : List ℕ) : Type 0 where
  pub founds : List Found
  pub done_with : o ≡ done left pool.used founds
  pub made : Made place.depth log (log_of store' pool.used) (map (whole_at place log) founds)
  pub counted : Counted (scene_of t [] []) (log_of store' pool.used)

pub data Left (t : List ℕ) (o : Outcome (List Found)) (place : Place) (log : List Record) (store' : List ℕ) : Result Walked Stopped → Type 0 where
  went : {w : Walked} → Reached t w.left w.pool o place log store' → Left t o place log store' (Ok w)
  halted : {s : Stopped} → o ≡ stop (number_of s.why) s.left → Left t o place log store' (Err s)

-- ---- a place moved

abbrev pub past_at : Place → ℕ → Place
past_at p n = record { set = p.set; rule = p.rule; at = n; end = p.end; depth = p.depth; args = p.args }

abbrev pub after_arg : Place → ℕ → Place
after_arg p n = record { set = p.set; rule = p.rule; at = p.at; end = p.end; depth = p.depth; args = n }

-- ---- inner matches

-- the entries from one number to before another
abbrev pub made : List Entry → ℕ → ℕ → List Entry
made es first m = slice first m es

-- what an entry adds to matches of depth d of which equal ones count once
abbrev pub fresh_of : ℕ → List Match → Entry → List Match
fresh_of d seen (argued c) = []
fresh_of d seen (completed n t e) = select (eqb n d && not (any_same same_match seen (t, e))) ((t, e) ∷ []) []

-- what is told of the record x with number m: of a match that is new, where it ended and the count that x has
pub data InnerOf (d : ℕ) (es : List Entry) (first m : ℕ) (x : Record) : Option Inner → Type 0 where
  new_match : {e : ℕ} → e < 128 → depth_in x ≡ Some d → fresh_of d (gathered d (made es first m)) (get_or es m (argued none)) ≡ (tree_at es m, e) ∷ []
      → InnerOf d es first m x (Some (record { end = e; count = count_in x }))
  no_match : fresh_of d (gathered d (made es first m)) (get_or es m (argued none)) ≡ [] → InnerOf d es first m x None
