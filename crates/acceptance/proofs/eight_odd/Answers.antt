use native.Mathlib.Omega.{arith}
use Rattle.plain.proofs.Tried.{one-between, both-between}
use Rattle.defs.specs.Table.{word_at}
use Rattle.acceptance.proofs.eight_odd.Goals as goal

pub loop-i-preserved : goal.loop-i-preserved
unfolding word_at
loop-i-preserved c = both-between c.loop-i.invariant (λ even. one-between (omega arith) (c.is_odd-odd.ensures even))
