-- The loop's invariant: what is left to compare decides as the whole does.
use mathlib.Core.Path.{◌≡◌}
use Prim.Native.Nat.{◌≤◌}
use lib.ListN.{length}
use Rattle.defs.specs.Table.{rule_parts, parts_between}
use Rattle.ruledef_map.specs.RuledefMap.{prefix_bytes, prefix_length}
use Rattle.ruledef_map.proofs.Prefixes.{continued}
use Rattle.ruledef_map.proofs.prefix_length.Given as goal

abbrev pub invariant-loop-at : goal.invariant-loop-at
invariant-loop-at l = (l.at-end ≤ length l.table) × ((l.same ≤ 4) × (continued (parts_between l.table l.at l.at-end) (prefix_bytes l.prefix) l.same ≡ prefix_length (rule_parts l.table l.rule) (prefix_bytes l.prefix)))
