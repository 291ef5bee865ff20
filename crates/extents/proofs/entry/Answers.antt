-- `extents::entry` meets its contract: each number on the way to the entry is at most the sheet's length (`placed`).
use native.Mathlib.Nat.{zero-add}
use native.Mathlib.Omega.{arith}
use Rattle.extents.specs.Sheet.{entry_at}
use Rattle.extents.proofs.Places.{placed}
use Rattle.extents.proofs.entry.Goals as goal

pub overflow_add-side : goal.overflow_add-side
overflow_add-side c = omega (arith, placed c.requires.place)

pub overflow_mul-at : goal.overflow_mul-at
overflow_mul-at c = omega (arith, placed c.requires.place)

pub overflow_add-at : goal.overflow_add-at
overflow_add-at c = omega (arith, placed c.requires.place)

pub bounds-sheet-at : goal.bounds-sheet-at
bounds-sheet-at c = omega (arith, placed c.requires.place)

pub overflow_mul-result : goal.overflow_mul-result
overflow_mul-result c = omega (arith, placed c.requires.place)

pub overflow_add-result : goal.overflow_add-result
overflow_add-result c = omega (arith, placed c.requires.place)

pub bounds-sheet-side : goal.bounds-sheet-side
bounds-sheet-side c = omega (arith, placed c.requires.place)

pub returns-in-Free : goal.returns-in-Free
unfolding entry_at
returns-in-Free c = record { byte = rw (c.in-Free.is, zero-add) }

pub returns-in-Greedy : goal.returns-in-Greedy
unfolding entry_at
returns-in-Greedy c = record { byte = rw c.in-Greedy.is }
