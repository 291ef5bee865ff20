use mathlib.Core.Path.{◌≡◌}
use Prim.Native.Nat.{ℕ}
use Rattle.readings.specs.Walk.{any_same, same_match}
use Rattle.pool.specs.Meaning.{tree_at, gathered, entries}
use Rattle.walk.specs.Met.{made}
use Rattle.walk.proofs.is_duplicate.Given as goal

abbrev pub invariant-loop-i : goal.invariant-loop-i
invariant-loop-i l = (e : ℕ) → any_same same_match (gathered l.depth (made (entries l.records.store.now l.records.used) l.initial.i l.m)) (tree_at (entries l.records.store.now l.records.used) l.m, e) ≡ any_same same_match (gathered l.depth (made (entries l.records.store.now l.records.used) l.i l.m)) (tree_at (entries l.records.store.now l.records.used) l.m, e)
