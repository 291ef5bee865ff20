-- `program::prepare` meets its contract.
use native.Mathlib.Omega.{arith}
use lib.ListN.{length}
use mathlib.Core.Path.{refl, sym, ◌∙◌}
use lib.Seq.{length-take-le}
use Prim.Native.Nat.{◌≤◌}
use mathlib.Core.List.{[]}
use Rattle.trials.proofs.Choices.{tops-listed}
use Rattle.trials.proofs.Leading.{lead-asked}
use Rattle.leads.proofs.Laying.{leads-more}
use Rattle.program.proofs.Preparing.{place-asked, order-asked, scan-ready, lookup-ready}
use Rattle.program.proofs.prepare.Goals as goal

pub place_rules-requires : goal.place_rules-requires
place_rules-requires c = place-asked _ _ _ _ c.requires.table_value c.requires.starts_value (tops-listed _ [] _ _ _ c.requires.table_value c.requires.rules_len c.top_rules-tops.ensures.answers).0 (tops-listed _ [] _ _ _ c.requires.table_value c.requires.rules_len c.top_rules-tops.ensures.answers).1 (omega (arith, c.top_rules-tops.auto, c.requires.rules_len)) _ c.requires.places_len

pub lead_rules-requires : goal.lead_rules-requires
lead_rules-requires c = lead-asked (place-asked _ _ _ _ c.requires.table_value c.requires.starts_value (tops-listed _ [] _ _ _ c.requires.table_value c.requires.rules_len c.top_rules-tops.ensures.answers).0 (tops-listed _ [] _ _ _ c.requires.table_value c.requires.rules_len c.top_rules-tops.ensures.answers).1 (omega (arith, c.top_rules-tops.auto, c.requires.rules_len)) c.args.places.now c.requires.places_len) c.place_rules.ensures.answers c.requires.leads_2.sized

pub slice_bounds-place_rules-end : goal.slice_bounds-place_rules-end
slice_bounds-place_rules-end c = omega (arith, (tops-listed _ [] _ _ _ c.requires.table_value c.requires.rules_len c.top_rules-tops.ensures.answers).1, c.top_rules-tops.auto, c.requires.rules_len)

pub slice_bounds-lead_rules-end : goal.slice_bounds-lead_rules-end
slice_bounds-lead_rules-end c = omega (arith, (tops-listed _ [] _ _ _ c.requires.table_value c.requires.rules_len c.top_rules-tops.ensures.answers).1, c.top_rules-tops.auto, c.requires.rules_len)

pub slice_bounds-order_rules-end : goal.slice_bounds-order_rules-end
slice_bounds-order_rules-end c = omega (arith, (tops-listed _ [] _ _ _ c.requires.table_value c.requires.rules_len c.top_rules-tops.ensures.answers).1, c.top_rules-tops.auto, c.requires.rules_len)

pub slice_bounds-lead_rules-end-2 : goal.slice_bounds-lead_rules-end-2
slice_bounds-lead_rules-end-2 c =
    let fits : c.top_rules-tops.result ≤ length c.top_rules-tops.new.found = omega (arith, (tops-listed _ [] _ _ _ c.requires.table_value c.requires.rules_len c.top_rules-tops.ensures.answers).1, c.top_rules-tops.auto, c.requires.rules_len) in
    omega (arith, length-take-le c.top_rules-tops.result c.top_rules-tops.new.found fits)

pub slice_bounds-place_rules-end-2 : goal.slice_bounds-place_rules-end-2
slice_bounds-place_rules-end-2 c =
    let fits : c.top_rules-tops.result ≤ length c.top_rules-tops.new.found = omega (arith, (tops-listed _ [] _ _ _ c.requires.table_value c.requires.rules_len c.top_rules-tops.ensures.answers).1, c.top_rules-tops.auto, c.requires.rules_len) in
    omega (arith, length-take-le c.top_rules-tops.result c.top_rules-tops.new.found fits)

pub slice_bounds-order_rules-end-in-Lookup : goal.slice_bounds-order_rules-end-in-Lookup
slice_bounds-order_rules-end-in-Lookup c =
    let fits : c.top_rules-tops.result ≤ length c.top_rules-tops.new.found = omega (arith, (tops-listed _ [] _ _ _ c.requires.table_value c.requires.rules_len c.top_rules-tops.ensures.answers).1, c.top_rules-tops.auto, c.requires.rules_len) in
    omega (arith, length-take-le c.top_rules-tops.result c.top_rules-tops.new.found fits)

pub slice_bounds-order_rules-end-in-Lookup-2 : goal.slice_bounds-order_rules-end-in-Lookup-2
slice_bounds-order_rules-end-in-Lookup-2 c = omega (arith, (tops-listed _ [] _ _ _ c.requires.table_value c.requires.rules_len c.top_rules-tops.ensures.answers).1, c.requires.order_len)

pub slice_bounds-order_rules-end-in-Lookup-3 : goal.slice_bounds-order_rules-end-in-Lookup-3
slice_bounds-order_rules-end-in-Lookup-3 c = sym (length-take-le _ _ (omega (arith, (tops-listed _ [] _ _ _ c.requires.table_value c.requires.rules_len c.top_rules-tops.ensures.answers).1, c.requires.order_len)))

pub order_rules-requires : goal.order_rules-requires
order_rules-requires c = order-asked _ _ _ _ c.requires.table_value c.requires.starts_value (tops-listed _ [] _ _ _ c.requires.table_value c.requires.rules_len c.top_rules-tops.ensures.answers).0 (tops-listed _ [] _ _ _ c.requires.table_value c.requires.rules_len c.top_rules-tops.ensures.answers).1 (omega (arith, c.top_rules-tops.auto, c.requires.rules_len)) _ c.place_rules.ensures.answers _ _ (length-take-le _ _ (omega (arith, (tops-listed _ [] _ _ _ c.requires.table_value c.requires.rules_len c.top_rules-tops.ensures.answers).1, c.requires.order_len))) refl

pub returns-in-Scan-clause-ready : goal.returns-in-Scan-clause-ready
returns-in-Scan-clause-ready c = scan-ready _ _ _ _ c.requires.table_value c.requires.starts_value (tops-listed _ [] _ _ _ c.requires.table_value c.requires.rules_len c.top_rules-tops.ensures.answers).0 (tops-listed _ [] _ _ _ c.requires.table_value c.requires.rules_len c.top_rules-tops.ensures.answers).1 (omega (arith, c.top_rules-tops.auto, c.requires.rules_len)) _ c.place_rules.ensures.answers _ _ c.requires.order_len c.in-Scan.is

pub returns-in-Scan-clause-leads : goal.returns-in-Scan-clause-leads
returns-in-Scan-clause-leads c = leads-more c.requires.leads_2 c.lead_rules.ensures.answers (omega (arith, c.lead_rules.auto))

pub returns-in-Lookup-clause-ready : goal.returns-in-Lookup-clause-ready
returns-in-Lookup-clause-ready c = lookup-ready _ _ _ _ c.requires.table_value c.requires.starts_value (tops-listed _ [] _ _ _ c.requires.table_value c.requires.rules_len c.top_rules-tops.ensures.answers).0 (tops-listed _ [] _ _ _ c.requires.table_value c.requires.rules_len c.top_rules-tops.ensures.answers).1 (omega (arith, c.top_rules-tops.auto, c.requires.rules_len)) _ c.place_rules.ensures.answers _ _ c.requires.order_len _ (c.order_rules.auto.order ∙ length-take-le _ _ (omega (arith, (tops-listed _ [] _ _ _ c.requires.table_value c.requires.rules_len c.top_rules-tops.ensures.answers).1, c.requires.order_len))) c.order_rules.ensures.answers

pub returns-in-Lookup-clause-leads : goal.returns-in-Lookup-clause-leads
returns-in-Lookup-clause-leads c = leads-more c.requires.leads_2 c.lead_rules.ensures.answers (omega (arith, c.lead_rules.auto))
