-- The counts that records have, as said of the log and the rules' patterns alone. A match that is completed has its recursive
-- exact count. An argument has the count of its match so far, as it stood when the record was taken: the exact parts passed in
-- its rule, and the counts of the nested matches kept, its own included.
use Rattle.std.specs.Prelude.{◌≡◌, List, [], ◌∷◌, ◌++◌, ℕ, zero, suc, ◌+◌, ◌<◌, length, get_or}
use Rattle.plain.specs.Choice.{select}
use Rattle.plain.specs.Lists.{keep_if, count}
use Rattle.defs.specs.Table.{is_parameter}
use Rattle.defs.specs.declared.ruledef.Part.{Part}
use Rattle.defs.specs.declared.ruledef.Part.TheVariants.{Whitespace, Expression, Nested}
use Rattle.readings.specs.Tree.{node, end}
use Rattle.readings.specs.Scene.{Scene}
use Rattle.readings.specs.Answer.{exact_parts, exact_count, nested_count}
use Rattle.pool.specs.declared.Argument.{Argument}
use Rattle.pool.specs.declared.Record.{Record}
use Rattle.pool.specs.declared.Record.TheVariants.{Kept, Completed}
use Rattle.pool.specs.Log.{nothing}
use Rattle.pool.specs.Meaning.{Chain, none, then_expr, then_nest, unwind, chain_at, meanings}

-- ---- a match so far

-- a pattern's parts up to its n-th parameter, that one included
unfoldable pub passed_with : List Part → ℕ → List Part
passed_with [] n = []
passed_with (p ∷ ps) zero = []
passed_with (p ∷ ps) (suc n) = p ∷ passed_with ps (select (is_parameter p) n (suc n))

-- how many arguments a chain has
abbrev pub arguments_in : Chain → ℕ
arguments_in none = 0
arguments_in (then_expr c x y) = suc (arguments_in c)
arguments_in (then_nest c x y t) = suc (arguments_in c)

-- the count of a match of rule k of ruleset r that has kept these arguments, up to the last: the exact parts passed in its
-- rule, and the counts of the nested matches kept
unfoldable pub so_far : Scene → ℕ → ℕ → Chain → ℕ
so_far s r k c = exact_parts (passed_with (s.parts r k) (arguments_in c)) + nested_count s (unwind c end)

-- ---- the records

-- the last argument of a chain is one for its parameter: an expression, or nested with a match of the parameter's ruleset
abbrev pub TakesLast : List Part → Chain → Type 0
TakesLast ps none = Unit {0}
TakesLast ps (then_expr c x y) = get_or (keep_if is_parameter ps) (arguments_in c) Whitespace ≡ Expression
TakesLast ps (then_nest c x y (node r k a)) = get_or (keep_if is_parameter ps) (arguments_in c) Whitespace ≡ Nested r

-- the arguments up to a last one, by its number from 1, are of a match of this rule: each is one for its parameter, and its
-- record has the count of that match so far
pub data CountedTo (s : Scene) (r k : ℕ) (log : List Record) : ℕ → Type 0 where
  first : CountedTo s r k log 0
  after : {i : ℕ} {a : Argument} {p n : ℕ} → i < length log → get_or log i nothing ≡ Kept a p n
      → TakesLast (s.parts r k) (chain_at (meanings log) (suc i))
      → n ≡ so_far s r k (chain_at (meanings log) (suc i)) → CountedTo s r k log p → CountedTo s r k log (suc i)

-- an argument's record doesn't say its rule: there is one that it is of; a match's says its rule, and so whose its arguments are
abbrev pub CountOf : Scene → List Record → ℕ → Record → Type 0
CountOf s log i (Kept a p n) = (r : ℕ) × (k : ℕ) × CountedTo s r k log (suc i)
CountOf s log i (Completed d r k a e n) = (n ≡ exact_count s (node r k (unwind (chain_at (meanings log) a) end))) × CountedTo s r k log a

-- so of every record taken
pub record Counted (s : Scene) (log : List Record) : Type 0 where
  pub each : (i : ℕ) → i < length log → CountOf s log i (get_or log i nothing)

-- ---- a place in a pattern

-- a match of a rule under way, where these parts are still to come: the parts passed have a parameter for each argument kept,
-- and the count is of them and of the nested matches kept
pub record Underway (s : Scene) (r k : ℕ) (rest : List Part) (c : Chain) (n : ℕ) : Type 0 where
  pub passed : List Part
  pub pattern : s.parts r k ≡ passed ++ rest
  pub given : count is_parameter passed ≡ arguments_in c
  pub counts : n ≡ exact_parts passed + nested_count s (unwind c end)
