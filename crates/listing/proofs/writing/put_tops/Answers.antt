use native.Mathlib.Omega.{arith}
use Rattle.defs.specs.Table.{rulesets_in, word_at}
use Rattle.fields.proofs.Laying.{laying-next, laying-done, laying-ready}
use Rattle.listing.proofs.Writes.{flags-within, tops_step, tops-over, top-is}
use Rattle.listing.proofs.writing.put_tops.Goals as goal

pub overflow_add-set : goal.overflow_add-set
overflow_add-set c = omega (arith, flags-within _ c.requires.table_value c.loop-set.set (omega arith))

pub offset_bounds-table-set : goal.offset_bounds-table-set
offset_bounds-table-set c = omega (arith, flags-within _ c.requires.table_value c.loop-set.set (omega arith))

pub bounds-table-set : goal.bounds-table-set
bounds-table-set c = omega (arith, flags-within _ c.requires.table_value c.loop-set.set (omega arith))

pub put_top-to-requires : goal.put_top-to-requires
unfolding word_at
put_top-to-requires c = laying-ready _ _ _ (tops_step c.args.table.now c.loop-set.set (rulesets_in c.args.table.now) _ (top-is c.args.table.now c.loop-set.set) (omega arith)) c.requires.ready c.loop-set.invariant.0

pub loop-set-preserved : goal.loop-set-preserved
unfolding word_at
loop-set-preserved c = (laying-next _ _ (tops_step c.args.table.now c.loop-set.set (rulesets_in c.args.table.now) _ (top-is c.args.table.now c.loop-set.set) (omega arith)) c.loop-set.invariant.0 c.put_top-to.ensures.laid, omega arith)

pub returns : goal.returns
returns c = record { laid = laying-done _ (tops-over c.args.table.now c.loop-set.set (rulesets_in c.args.table.now) (omega arith)) c.loop-set.invariant.0 }
