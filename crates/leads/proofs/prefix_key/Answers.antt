use mathlib.Core.Path.{◌≡◌, refl}
use Prim.Native.Nat.{◌+◌, ◌-◌, ◌<◌}
use native.Mathlib.Omega.{arith}
use Rattle.leads.proofs.Keys.{parts-start, parts-as, filling-fits, parts-end, parts-other, parts-exact, filling-all}
use Rattle.leads.proofs.prefix_key.Goals as goal
use Rattle.leads.proofs.prefix_key.Goals.{then-at-to+then-word-lt-EXACT, then-at-to+else-word-lt-EXACT, else-at-to}

pub loop-init : goal.loop-init
loop-init c = parts-start _ _ _

pub overflow_mul-key : goal.overflow_mul-key
overflow_mul-key c = let more : 0 < 4 - c.loop.counter = omega arith in omega (arith, filling-fits c.loop.invariant.rest more)

pub overflow_add-key : goal.overflow_add-key
overflow_add-key c = let more : 0 < 4 - c.loop.counter = omega arith in omega (arith, filling-fits c.loop.invariant.rest more, c.to_ascii_lowercase.type_inv)

pub loop-preserved : goal.loop-preserved
loop-preserved c =
    let more : 0 < 4 - c.loop.counter = omega arith in
    let one : 4 - c.loop.counter - 1 ≡ 4 - (c.loop.counter + 1) = omega arith in
    elim c.if-at-to.branch [
      | then-at-to+then-word-lt-EXACT w ↦
          rw (w.key-is, w.at-is) (parts-as one (parts-exact c.loop.invariant c.requires more w.if-at-to.true refl w.if-word-lt-EXACT.true w.to_ascii_lowercase.ensures.answers))
      | then-at-to+else-word-lt-EXACT w ↦ rw (w.key-is, w.at-is) (parts-as one (parts-other c.loop.invariant c.requires more w.if-at-to.true refl w.if-word-lt-EXACT.false))
      | else-at-to w ↦ rw (w.key-is, w.at-is) (parts-as one (parts-end c.loop.invariant c.requires more w.if-at-to.false))
    ]

pub returns-clause-answers : goal.returns-clause-answers
returns-clause-answers c = let whole = filling-all c.loop.invariant.rest (omega arith) in whole.0

pub returns-clause-small : goal.returns-clause-small
returns-clause-small c = let whole = filling-all c.loop.invariant.rest (omega arith) in whole.1
