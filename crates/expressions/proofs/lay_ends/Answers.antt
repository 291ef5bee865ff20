-- `lay_ends` meets its contract.
use native.Mathlib.Omega.{arith}
use Rattle.expressions.proofs.Laying.{lays-as, lays-join}
use Rattle.expressions.proofs.Filled.{ends_low, ends-here}
use Rattle.expressions.proofs.lay_ends.Goals as goal

pub returns : goal.returns
returns c = lays-join (omega arith) (omega (arith, c.requires)) (lays-as _ (λ l a b. ends_low c.args.low c.args.top l b) c.lay.ensures) (lays-as _ (λ l a b. ends-here c.args.low c.args.top l a b) c.lay_limits.ensures)
