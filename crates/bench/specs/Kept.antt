-- Order 7's counts on document 01's bench case 1, and on a rule with exact parts before, between and after two nested ones: the
-- records that a call takes, in order, and for each what the definitions say that its count is.
use Rattle.std.specs.Prelude.{List, [], ◌∷◌, ℕ, suc}
use Rattle.readings.specs.Scene.{Scene, scene_of}
use Rattle.readings.specs.Answer.{exact_count}
use Rattle.pool.specs.declared.ArgumentKind.TheVariants.{Expr, Nested}
use Rattle.pool.specs.declared.Argument.{Argument}
use Rattle.pool.specs.declared.Record.{Record}
use Rattle.pool.specs.declared.Record.TheVariants.{Kept, Completed}
use Rattle.pool.specs.Meaning.{chain_at, tree_at, meanings}
use Rattle.pool.specs.Counted.{so_far}
use Rattle.bench.specs.Cases.{T}

abbrev nested_at : ℕ → ℕ → ℕ → Argument
nested_at x y m = record { start = x; end = y; kind = Nested m }

-- `mov p` by table T: rule 0 with its expression, rule 1 with its nested match
abbrev pub of_t : List Record
of_t =
    Kept (record { start = 4; end = 5; kind = Expr }) 0 3
    ∷ Completed 0 0 0 1 5 3
    ∷ Completed 1 1 0 0 5 1
    ∷ Kept (nested_at 4 5 2) 0 4
    ∷ Completed 0 0 1 4 5 4
    ∷ []

-- `abxcxyzd` by the rule `ab{sub1}c{sub2}d`, whose nested matches count 1 and 3: each is found under the limit and under the cut
abbrev pub two_nested : List ℕ
two_nested = 3 ∷ 3 ∷ 10 ∷ 0 ∷ 1 ∷ 1 ∷ 0 ∷ 0 ∷ 6 ∷ 1 ∷ 6 ∷ 1 ∷ 2 ∷ 7 ∷ 3 ∷ 97 ∷ 98 ∷ 513 ∷ 99 ∷ 514 ∷ 100 ∷ 120 ∷ 120 ∷ 121 ∷ 122 ∷ []

abbrev pub of_two : List Record
of_two =
    Completed 1 1 0 0 3 1
    ∷ Completed 1 1 0 0 3 1
    ∷ Kept (nested_at 2 3 0) 0 3
    ∷ Completed 1 2 0 0 7 3
    ∷ Completed 1 2 0 0 7 3
    ∷ Kept (nested_at 4 7 3) 3 7
    ∷ Completed 0 0 0 6 8 8
    ∷ []

module _ (t : List ℕ) (log : List Record) where
  abbrev s : Scene
  s = scene_of t [] []

  -- what argument i is to count, as one of a match of this rule, and what match i is
  abbrev pub argument_counts : ℕ → ℕ → ℕ → ℕ
  argument_counts r k i = so_far s r k (chain_at (meanings log) (suc i))

  abbrev pub match_counts : ℕ → ℕ
  match_counts i = exact_count s (tree_at (meanings log) i)

-- of each record of the two logs
unfoldable pub kept : List (List ℕ)
kept =
    (argument_counts T of_t 0 0 0 ∷ match_counts T of_t 1 ∷ match_counts T of_t 2 ∷ argument_counts T of_t 0 1 3 ∷ match_counts T of_t 4 ∷ [])
    ∷ (match_counts two_nested of_two 0
    ∷ match_counts two_nested of_two 1
    ∷ argument_counts two_nested of_two 0 0 2
    ∷ match_counts two_nested of_two 3
    ∷ match_counts two_nested of_two 4
    ∷ argument_counts two_nested of_two 0 0 5
    ∷ match_counts two_nested of_two 6
    ∷ [])
    ∷ []
