use mathlib.Core.Path.{sym, ◌∙◌}
use native.Mathlib.Omega.{arith}
use Rattle.fields.specs.Said.{fields_left}
use Rattle.fields.proofs.Laying.{laying-next, laying-done, laid_in}
use Rattle.listing.proofs.Rows.{said-none, said-next, said-room, said-tail}
use Rattle.listing.proofs.reading.lay_parts.Goals as goal

pub offset_bounds-table-to : goal.offset_bounds-table-to
offset_bounds-table-to c = omega (arith, said-room c.args.sets (fields_left c.args.fields) c.args.table.now c.loop-field.table _ _ c.args.from c.loop-field.to _ c.requires.end_in_bounds c.requires.said (said-next c.args.sets _ _ _ c.in-Some.ensures.steps (sym c.unwrap-word.ensures ∙ c.part_word.ensures.answers)) c.loop-field.invariant.laying)

pub bounds-table-to : goal.bounds-table-to
bounds-table-to c =
    said-room c.args.sets (fields_left c.args.fields) c.args.table.now c.loop-field.table _ _ c.args.from c.loop-field.to _ c.requires.end_in_bounds c.requires.said
    (said-next c.args.sets _ _ _ c.in-Some.ensures.steps (sym c.unwrap-word.ensures ∙ c.part_word.ensures.answers)) c.loop-field.invariant.laying

pub overflow_add-to : goal.overflow_add-to
overflow_add-to c = omega (arith, said-room c.args.sets (fields_left c.args.fields) c.args.table.now c.loop-field.table _ _ c.args.from c.loop-field.to _ c.requires.end_in_bounds c.requires.said (said-next c.args.sets _ _ _ c.in-Some.ensures.steps (sym c.unwrap-word.ensures ∙ c.part_word.ensures.answers)) c.loop-field.invariant.laying)

pub loop-field-preserved : goal.loop-field-preserved
loop-field-preserved c = record {
  laying = laying-next _ _ (said-next c.args.sets _ _ _ c.in-Some.ensures.steps (sym c.unwrap-word.ensures ∙ c.part_word.ensures.answers)) c.loop-field.invariant.laying
      (laid_in c.loop-field.table c.loop-field.to _);
  said = said-tail c.args.sets c.in-Some.ensures.steps c.loop-field.invariant.said;
}

pub returns : goal.returns
returns c = record { laid = laying-done _ (said-none c.args.sets c.in-None.ensures.steps.0) c.loop-field.invariant.laying }
