-- The lists of ends and limits as the code holds them, and one candidate more.
use Rattle.std.specs.Prelude.{Bool, List, [], ◌++◌, ℕ, length, get_or, Option, None, Some}
use Rattle.plain.specs.Lists.{listed}
use Rattle.readings.specs.Walk.{any_same, unless}
use Rattle.lookahead.specs.declared.Few.{Few}

-- a list of ends as the code holds it: three places, 0 where there is none, and how many there are
unfoldable pub held_ends : List ℕ → Few 3
held_ends es = record { count = length es; places = listed 3 (λ j. get_or es j 0) }

-- a list of limits: two places
unfoldable pub held_limits : List ℕ → Few 2
held_limits es = record { count = length es; places = listed 2 (λ j. get_or es j 0) }

-- "only the first stays": one candidate more, if there is one, and if it is the same as none that stayed
unfoldable pub added : (ℕ → ℕ → Bool) → List ℕ → Option ℕ → List ℕ
added same es None = es
added same es (Some e) = es ++ unless (any_same same es e) e []
