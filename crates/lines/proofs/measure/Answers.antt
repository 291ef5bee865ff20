use mathlib.Core.Path.{refl}
use native.Mathlib.Omega.{arith}
use Rattle.lines.proofs.Measured.{passed-more, passed-all, ends-fall, ends-pass}
use Rattle.lines.proofs.measure.Goals as goal

pub returns-then-end-from : goal.returns-then-end-from
returns-then-end-from c = ends-fall c.loop-end.invariant (omega arith) _ refl (omega arith)

pub returns-then-text-end : goal.returns-then-text-end
returns-then-text-end c = ends-pass c.loop-end.invariant (omega arith) _ refl (omega arith) (omega arith)

pub loop-end-preserved : goal.loop-end-preserved
loop-end-preserved c = passed-more c.loop-end.invariant (omega arith) _ refl (omega arith) (omega arith) _ c.sheet_size-sheets.ensures.answers c.sheet_size-sheets.ensures.small

pub returns : goal.returns
returns c = passed-all c.loop-end.invariant (omega arith)
