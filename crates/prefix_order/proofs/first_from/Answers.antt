-- The place from which it is sought settles one side like any other entry; after it the entries are parted.
use borrow.Author.Tests.{tests}
use borrow.Author.Rules.{rules}
use mathlib.Core.Path.{refl}
use native.Mathlib.Omega.{arith}
use Prim.Native.Nat.{◌+◌, ◌-◌}
use lib.Dec.{ltb}
use lib.ListN.{length, drop, length-drop}
use lib.Seq.{take_all}
use Rattle.std.proofs.lemmas.List.Sorted.{IsPartitionPoint-from_clause}
use Rattle.prefix_order.proofs.Runs.{bracket-none, bracket-down, bracket-met, order-parted, first-parted}
use Rattle.prefix_order.proofs.first_from.Goals as goal

pub returns-then-bound-order : goal.returns-then-bound-order
returns-then-bound-order c = bracket-met {high = c.args.from} (bracket-down (bracket-none refl c.requires.passed) c.requires.order_value (omega arith) (omega arith) c.if-bound-order.true) (omega arith)

pub returns : goal.returns
returns c =
    let whole = take_all (length c.args.order.now - (c.args.from + 1)) (drop (c.args.from + 1) c.args.order.now) (omega (arith, length-drop (c.args.from + 1) c.args.order.now)) in
    first-parted whole c.requires.order_value (omega arith) (omega arith) c.partition_point.ensures.bound
    (IsPartitionPoint-from_clause (λ e. ltb e c.args.bound) _ _ c.partition_point.ensures.partitioned (order-parted _ _ _ whole c.requires.order_value) (λ a r f k. search (rules, tests)))
