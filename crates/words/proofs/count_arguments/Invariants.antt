-- The loop's invariant: the arguments counted and those up to the one reached are all; each turn reaches an earlier one.
use Prim.Native.Nat.{◌+◌, ◌≤◌}
use mathlib.Core.Path.{◌≡◌}
use Rattle.readings.specs.Answer.{arg_count}
use Rattle.pool.specs.Meaning.{entries}
use Rattle.trees.specs.Asked.{args_at}
use Rattle.words.proofs.count_arguments.Given as goal

abbrev pub invariant-loop-prev : goal.invariant-loop-prev
invariant-loop-prev l =
    (l.at ≤ l.records.used) × ((l.count + l.at ≤ l.initial.at) × (l.count + arg_count (args_at (entries l.records.store.now l.records.used) l.at) ≡ arg_count (args_at (entries l.records.store.now l.records.used) l.initial.at)))

abbrev pub decreases-loop-prev : goal.decreases-loop-prev
decreases-loop-prev l = l.at
