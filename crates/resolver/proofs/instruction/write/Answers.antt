use native.Mathlib.Omega.{arith}
use Rattle.resolver.proofs.Written.{none_written, not_written, has-place, one_written, all-written}
use Rattle.resolver.proofs.instruction.write.Goals as goal
use Rattle.resolver.proofs.instruction.write.Goals.{then-has_size, else-has_size}

pub loop-index-init : goal.loop-index-init
loop-index-init c = none_written _ _ _ c.requires.room

-- a turn that writes has a place for its index
pub bounds-chosen-at : goal.bounds-chosen-at
bounds-chosen-at c = has-place c.loop-index.invariant (omega arith) c.has_size.ensures.same c.if-has_size.true

pub loop-index-preserved : goal.loop-index-preserved
loop-index-preserved c =
    elim c.if-has_size.branch [
      | then-has_size w ↦
          rw (w.chosen-is, w.at-is) (one_written c.loop-index.invariant (omega arith) c.has_size.ensures.same w.if-has_size.true)
      | else-has_size w ↦
          rw (w.chosen-is, w.at-is) (not_written c.loop-index.invariant (omega arith) c.has_size.ensures.same w.if-has_size.false)
    ]

pub returns : goal.returns
returns c = record { written = all-written c.loop-index.invariant (omega arith) }
