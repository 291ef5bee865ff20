-- `listing::writing::put_rule` meets its contract: the word, the number, the parts and the end, one after another.
use mathlib.Core.Path.{refl, sym}
use mathlib.Core.List.{[], ◌∷◌}
use Rattle.defs.proofs.Words.{parts_whole, parts_within}
use Rattle.printing.specs.Listing.{rule_word, decimal}
use Rattle.fields.proofs.Laying.{laid_then, laid_as, ready-as, ready-front, ready-back}
use Rattle.listing.specs.Writing.{parts_text}
use Rattle.listing.proofs.Writes.{rule-line, set-low, parts_low}
use Rattle.listing.proofs.writing.put_rule.Goals as goal

pub put_word-tab-requires : goal.put_word-tab-requires
put_word-tab-requires c = ready-front rule_word _ (ready-as (sym (rule-line c.args.table.now c.args.rule _ _ refl refl)) c.requires.ready)

pub put-number-requires : goal.put-number-requires
put-number-requires c = ready-front (9 ∷ []) _ (ready-back rule_word _ (ready-as (sym (rule-line c.args.table.now c.args.rule _ _ refl refl)) c.requires.ready) c.put_word-tab.ensures.answers)

pub put_number-fields-requires-clause-number_bound : goal.put_number-fields-requires-clause-number_bound
put_number-fields-requires-clause-number_bound c = set-low c.args.table.now c.requires.table_value c.args.rule _ c.requires.rule_bound c.ruleset_of.ensures.answers

pub put_number-fields-requires-clause-ready : goal.put_number-fields-requires-clause-ready
put_number-fields-requires-clause-ready c = ready-front (decimal c.ruleset_of.result) _ (ready-back (9 ∷ []) _ (ready-back rule_word _ (ready-as (sym (rule-line c.args.table.now c.args.rule _ _ c.ruleset_of.ensures.answers refl)) c.requires.ready) c.put_word-tab.ensures.answers) c.put-number.ensures.answers)

pub put_parts-end-requires-clause-end_in_bounds : goal.put_parts-end-requires-clause-end_in_bounds
put_parts-end-requires-clause-end_in_bounds c = parts_within c.args.table.now c.args.rule _ c.parts_of-parts.ensures.answers

pub put_parts-end-requires-clause-end_value : goal.put_parts-end-requires-clause-end_value
put_parts-end-requires-clause-end_value c = parts_low c.args.table.now c.requires.table_value c.args.rule _ c.requires.rule_bound c.parts_of-parts.ensures.answers

pub put_parts-end-requires-clause-ready : goal.put_parts-end-requires-clause-ready
put_parts-end-requires-clause-ready c = ready-front (parts_text _) (10 ∷ []) (ready-back (decimal c.ruleset_of.result) _ (ready-back (9 ∷ []) _ (ready-back rule_word _ (ready-as (sym (rule-line c.args.table.now c.args.rule _ _ c.ruleset_of.ensures.answers (parts_whole c.args.table.now c.args.rule _ c.parts_of-parts.ensures.answers))) c.requires.ready) c.put_word-tab.ensures.answers) c.put-number.ensures.answers) c.put_number-fields.ensures.answers)

pub put-requires : goal.put-requires
put-requires c = ready-back (parts_text _) (10 ∷ []) (ready-back (decimal c.ruleset_of.result) _ (ready-back (9 ∷ []) _ (ready-back rule_word _ (ready-as (sym (rule-line c.args.table.now c.args.rule _ _ c.ruleset_of.ensures.answers (parts_whole c.args.table.now c.args.rule _ c.parts_of-parts.ensures.answers))) c.requires.ready) c.put_word-tab.ensures.answers) c.put-number.ensures.answers) c.put_number-fields.ensures.answers) c.put_parts-end.ensures.laid

pub returns : goal.returns
returns c = record { laid = laid_as (rule-line c.args.table.now c.args.rule _ _ c.ruleset_of.ensures.answers (parts_whole c.args.table.now c.args.rule _ c.parts_of-parts.ensures.answers)) (laid_then c.put_word-tab.ensures.answers (laid_then c.put-number.ensures.answers (laid_then c.put_number-fields.ensures.answers (laid_then c.put_parts-end.ensures.laid c.put.ensures.answers)))) }
