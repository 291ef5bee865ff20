-- A line's row: a match takes the words that it tells, and a refusal none.
use mathlib.Core.Path.{◌≡◌, refl}
use mathlib.Core.List.{List}
use Prim.Native.Nat.{ℕ}
use Rattle.std.specs.Prelude.{Ok, Err}
use Rattle.runs.specs.Program.{taken}
use Rattle.trials.specs.declared.Matched.{Matched}
use Rattle.trials.specs.declared.Refused.{Refused}
use Rattle.trials.specs.declared.Refused.TheVariants.{NoMatch, BadTable, BadLine, BadSheet, BadBudget, BadBase, Spent, TooDeep, PoolFull, TooLong}
use Rattle.trials.specs.Told.{says}
use Rattle.program.specs.Says.{RowOf}

none_taken : (r : Refused) (b : List ℕ) → 0 ≡ taken (says (Err r) b)
unfolding taken
none_taken (NoMatch v) b = refl
none_taken BadTable b = refl
none_taken (BadLine p) b = refl
none_taken BadSheet b = refl
none_taken BadBudget b = refl
none_taken BadBase b = refl
none_taken (Spent v) b = refl
none_taken (TooDeep v) b = refl
none_taken (PoolFull v) b = refl
none_taken (TooLong v w) b = refl

pub matched_row : (m : Matched) → RowOf (Ok m) (record { number = 0; words = m.words })
unfolding taken
matched_row m = record { number = λ b. refl; words = λ b. refl }

pub refused_row : (r : Refused) (n : ℕ) → ((b : List ℕ) → n ≡ (says (Err r) b).number) → RowOf (Err r) (record { number = n; words = 0 })
refused_row r n is = record { number = is; words = none_taken r }
