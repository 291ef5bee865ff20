use native.Mathlib.Omega.{arith}
use Rattle.prefix_order.proofs.Finding.{seeking-none, seeking-small, seeking-asked, seeking-done, next_place, sought-next, sought-all}
use Rattle.prefix_order.proofs.find_rules.Goals as goal

pub put_run-run-requires : goal.put_run-run-requires
put_run-run-requires c = seeking-asked c.requires (seeking-none c.requires)

pub loop-size-init : goal.loop-size-init
loop-size-init c = seeking-done c.requires (seeking-none c.requires) c.put_run-run.auto.rules c.put_run-run.ensures

pub bounds-prefix-size : goal.bounds-prefix-size
bounds-prefix-size c = next_place c.requires c.loop-size.invariant c.parse_prefix-prefix.ensures.answers (omega arith)

pub overflow_mul-key : goal.overflow_mul-key
overflow_mul-key c = omega (arith, seeking-small c.requires (sought-next c.requires c.loop-size.invariant c.parse_prefix-prefix.ensures.answers (omega arith)))

pub overflow_add-key : goal.overflow_add-key
overflow_add-key c = omega (arith, seeking-small c.requires (sought-next c.requires c.loop-size.invariant c.parse_prefix-prefix.ensures.answers (omega arith)))

pub put_run-run-requires-in-loop-size : goal.put_run-run-requires-in-loop-size
put_run-run-requires-in-loop-size c = seeking-asked c.requires (sought-next c.requires c.loop-size.invariant c.parse_prefix-prefix.ensures.answers (omega arith))

pub loop-size-preserved : goal.loop-size-preserved
loop-size-preserved c = seeking-done c.requires (sought-next c.requires c.loop-size.invariant c.parse_prefix-prefix.ensures.answers (omega arith)) c.put_run-run-in-loop-size.auto.rules c.put_run-run-in-loop-size.ensures

pub returns-clause-answers : goal.returns-clause-answers
returns-clause-answers c = let whole = sought-all c.requires c.loop-size.invariant c.parse_prefix-prefix.ensures.answers (omega arith) in whole.0

pub returns-clause-many : goal.returns-clause-many
returns-clause-many c = let whole = sought-all c.requires c.loop-size.invariant c.parse_prefix-prefix.ensures.answers (omega arith) in whole.1.0
