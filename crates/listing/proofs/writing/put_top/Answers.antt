-- `listing::writing::put_top` meets its contract: the word, the tab, the kind and the end, one after another.
use mathlib.Core.Path.{sym}
use mathlib.Core.List.{[], ◌∷◌}
use Rattle.printing.specs.Listing.{ruleset_word, top_field}
use Rattle.fields.proofs.Laying.{laid_then, laid_as, ready-as, ready-front, ready-back}
use Rattle.listing.proofs.Writes.{top-line}
use Rattle.listing.proofs.writing.put_top.Goals as goal

pub put_word-tab-requires : goal.put_word-tab-requires
put_word-tab-requires c = ready-front ruleset_word _ (ready-as (sym (top-line c.args.top)) c.requires)

pub put-field-requires : goal.put-field-requires
put-field-requires c = ready-front (9 ∷ []) _ (ready-back ruleset_word _ (ready-as (sym (top-line c.args.top)) c.requires) c.put_word-tab.ensures.answers)

pub put_kind-end-requires : goal.put_kind-end-requires
put_kind-end-requires c = ready-front (top_field c.args.top) (10 ∷ []) (ready-back (9 ∷ []) _ (ready-back ruleset_word _ (ready-as (sym (top-line c.args.top)) c.requires) c.put_word-tab.ensures.answers) c.put-field.ensures.answers)

pub put-requires : goal.put-requires
put-requires c = ready-back (top_field c.args.top) (10 ∷ []) (ready-back (9 ∷ []) _ (ready-back ruleset_word _ (ready-as (sym (top-line c.args.top)) c.requires) c.put_word-tab.ensures.answers) c.put-field.ensures.answers) c.put_kind-end.ensures.laid

pub returns : goal.returns
returns c = record { laid = laid_as (top-line c.args.top) (laid_then c.put_word-tab.ensures.answers (laid_then c.put-field.ensures.answers (laid_then c.put_kind-end.ensures.laid c.put.ensures.answers))) }
