use Rattle.fields.proofs.Laying.{laying-next, laying-done, laying-ready}
use Rattle.listing.proofs.Writes.{parts-step, part-here, parts-after, parts-over}
use Rattle.listing.proofs.writing.put_parts.Goals as goal

pub put_part-to-requires-clause-part_value : goal.put_part-to-requires-clause-part_value
put_part-to-requires-clause-part_value c = part-here c.args.table.now c.loop-place.place c.args.parts.end c.requires.end_in_bounds c.loop-place-test.true _ c.part_at.ensures.answers c.loop-place.invariant.1

pub put_part-to-requires-clause-ready : goal.put_part-to-requires-clause-ready
put_part-to-requires-clause-ready c = laying-ready _ _ _ (parts-step c.args.table.now c.loop-place.place c.args.parts.end c.requires.end_in_bounds c.loop-place-test.true _ c.part_at.ensures.answers) c.requires.ready c.loop-place.invariant.0

pub loop-place-preserved : goal.loop-place-preserved
loop-place-preserved c = (laying-next _ _ (parts-step c.args.table.now c.loop-place.place c.args.parts.end c.requires.end_in_bounds c.loop-place-test.true _ c.part_at.ensures.answers) c.loop-place.invariant.0 c.put_part-to.ensures.answers, parts-after c.args.table.now c.loop-place.place c.args.parts.end c.requires.end_in_bounds c.loop-place-test.true _ c.part_at.ensures.answers c.loop-place.invariant.1)

pub returns : goal.returns
returns c = record { laid = laying-done _ (parts-over c.args.table.now c.loop-place.place c.args.parts.end c.requires.end_in_bounds c.loop-place-test.false) c.loop-place.invariant.0 }
