-- `lay_limits` meets its contract.
use Prim.Native.Nat.{ℕ}
use Rattle.expressions.proofs.Laying.{LaysTo}
use Rattle.expressions.proofs.lay_limits.Given as goal

abbrev pub invariant-loop-l : goal.invariant-loop-l
invariant-loop-l l = LaysTo l.initial.sheet l.sheet l.at l.from l.to (λ (k : ℕ). k) l.l
