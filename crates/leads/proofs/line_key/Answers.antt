use mathlib.Core.Path.{◌≡◌}
use Prim.Native.Nat.{◌+◌, ◌-◌, ◌<◌}
use native.Mathlib.Omega.{arith}
use Rattle.leads.proofs.Keys.{filling-fits, filling-all}
use Rattle.leads.proofs.Seen.{line-start, line-as, line-byte, line-end}
use Rattle.leads.proofs.line_key.Goals as goal
use Rattle.leads.proofs.line_key.Goals.{then-at-limit, else-at-limit}

pub loop-init : goal.loop-init
loop-init c = line-start _ _ _ c.requires.cursor_le_limit

pub overflow_mul-key : goal.overflow_mul-key
overflow_mul-key c = let more : 0 < 4 - c.loop.counter = omega arith in omega (arith, filling-fits c.loop.invariant.rest more)

pub overflow_add-key : goal.overflow_add-key
overflow_add-key c = let more : 0 < 4 - c.loop.counter = omega arith in omega (arith, filling-fits c.loop.invariant.rest more, c.to_ascii_lowercase.type_inv)

pub loop-preserved : goal.loop-preserved
loop-preserved c =
    let more : 0 < 4 - c.loop.counter = omega arith in
    let one : 4 - c.loop.counter - 1 ≡ 4 - (c.loop.counter + 1) = omega arith in
    elim c.if-at-limit.branch [
      | then-at-limit w ↦
          rw (w.key-is, w.cursor-is)
          (line-as one (line-byte c.loop.invariant c.requires.limit_in_bounds more c.next_useful_index-at.ensures.answers w.if-at-limit.true (omega (arith, w.to_ascii_lowercase.type_inv)) w.to_ascii_lowercase.ensures.answers))
      | else-at-limit w ↦
          rw (w.key-is, w.cursor-is) (line-as one (line-end c.loop.invariant c.requires.limit_in_bounds more c.next_useful_index-at.ensures.answers w.if-at-limit.false))
    ]

pub overflow_cast-result : goal.overflow_cast-result
overflow_cast-result c = let whole = filling-all c.loop.invariant.rest (omega arith) in omega (arith, whole.1)

pub returns : goal.returns
returns c = let whole = filling-all c.loop.invariant.rest (omega arith) in whole.0
