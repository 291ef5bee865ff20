use native.Mathlib.Omega.{arith}
use Rattle.resolver.proofs.Least.{none_found, none_passed, all-passed}
use Rattle.resolver.proofs.Least.{pass-unknown, pass-less, pass_same, pass-greater}
use Rattle.resolver.proofs.instruction.smallest.Goals as goal
use Rattle.resolver.proofs.instruction.smallest.Goals.{then-is_known+then-size-least, then-is_known+else-size-least+then-size-least-2, then-is_known+else-size-least+else-size-least-2, else-is_known}

pub returns-then-known-eq0 : goal.returns-then-known-eq0
returns-then-known-eq0 c = record { least = none_found c.requires.known c.if-known-eq0.true }

pub loop-word-init : goal.loop-word-init
loop-word-init c = none_passed _ c.requires.good

pub loop-word-preserved : goal.loop-word-preserved
loop-word-preserved c =
    elim c.if-is_known.branch [
      | then-is_known+then-size-least w ↦
          rw (w.least-is, w.count-is) (pass-less
          c.loop-word.invariant (omega arith) c.is_known.ensures.known w.if-is_known.true w.size-size.ensures.size
          w.if-size-least.true)
      | then-is_known+else-size-least+then-size-least-2 w ↦
          rw (w.least-is, w.count-is) (pass_same
          c.loop-word.invariant (omega arith) c.is_known.ensures.known w.if-is_known.true w.size-size.ensures.size
          w.if-size-least-2.true)
      | then-is_known+else-size-least+else-size-least-2 w ↦
          rw (w.least-is, w.count-is) (pass-greater
          c.loop-word.invariant (omega arith) c.is_known.ensures.known w.if-is_known.true w.size-size.ensures.size
          w.if-size-least.false w.if-size-least-2.false)
      | else-is_known w ↦
          rw (w.least-is, w.count-is) (pass-unknown
          c.loop-word.invariant (omega arith) c.is_known.ensures.known w.if-is_known.false)
    ]

pub returns : goal.returns
returns c = record { least = all-passed c.loop-word.invariant c.requires.known c.if-known-eq0.false (omega arith) }
