-- `fields::reading::split_once` meets its contract: `position` gives the first place that holds the byte.
use mathlib.Core.Path.{sym, ◌∙◌}
use Rattle.std.proofs.Common.{rules, tests}
use Rattle.std.proofs.lemmas.Iterator.{YieldsList-from_slice}
use Rattle.std.proofs.lemmas.Iterator.Search.{position_from_yields_List}
use lib.Dec.{eqb}
use Rattle.fields.proofs.Scans.{sought-none, sought-cut}
use Rattle.fields.proofs.reading.split_once.Goals as goal

pub returns-in_err-place : goal.returns-in_err-place
returns-in_err-place c =
    let e = position_from_yields_List (λ b. eqb b c.args.byte) _ _ _ c.position.ensures.ran (YieldsList-from_slice c.args.text.now cc) (λ x r q k. search (rules, tests)) in
    record { answers = rw c.from_residual.ensures (sought-none c.args.byte c.args.text.now (sym e ∙ c.in_err-place.was)) }

pub returns : goal.returns
returns c =
    let e = position_from_yields_List (λ b. eqb b c.args.byte) _ _ _ c.position.ensures.ran (YieldsList-from_slice c.args.text.now cc) (λ x r q k. search (rules, tests)) in
    record { answers = sought-cut c.args.byte c.args.text.now _ (sym c.in_ok-place.was ∙ e) }
