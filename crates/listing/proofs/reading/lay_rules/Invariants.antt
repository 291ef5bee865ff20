-- `listing::reading::lay_rules` meets its contract. The loop's invariant, for any rules that the lines list: those so far are laid,
-- records and parts, and the lines of the others follow.
use mathlib.Core.List.{List, map}
use Rattle.packing.specs.Data.{Rule}
use Rattle.printing.specs.Listing.{rule_line}
use Rattle.listing.specs.Packing.{LinesAre, Rules}
use Rattle.listing.proofs.Records.{RulesLeft}
use Rattle.listing.proofs.reading.lay_rules.Given as goal

abbrev pub invariant-loop-rule : goal.invariant-loop-rule
invariant-loop-rule l =
    (rules : List Rule) → Rules l.fn.sizes.sets l.fn.sizes.rules l.fn.sizes.parts rules → LinesAre l.fn.lines (map rule_line rules)
    → RulesLeft rules l.fn.sizes.sets l.fn.sizes.rules l.initial.table l.table l.rest l.rule l.part
