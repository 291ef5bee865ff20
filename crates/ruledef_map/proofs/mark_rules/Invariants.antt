-- The loop's invariant: every rule passed has its mark.
use mathlib.Core.Path.{◌≡◌}
use Prim.Native.Nat.{ℕ, ◌<◌}
use lib.ListN.{get_or}
use Rattle.ruledef_map.specs.RuledefMap.{prefix_bytes, mark_of}
use Rattle.ruledef_map.proofs.mark_rules.Given as goal

abbrev pub invariant-loop-rule : goal.invariant-loop-rule
invariant-loop-rule l = (i : ℕ) → i < l.rule → get_or l.marks i 0 ≡ mark_of l.table (prefix_bytes l.prefix) i
