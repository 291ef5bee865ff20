-- The loop's invariant: what is gathered is the bytes passed that are no whitespace, lowered.
use Rattle.ruledef_map.proofs.Prefixes.{Gathered}
use Rattle.ruledef_map.proofs.parse_prefix.Given as goal

abbrev pub invariant-loop-b : goal.invariant-loop-b
invariant-loop-b l = Gathered l.line l.b-index l.bytes l.count
