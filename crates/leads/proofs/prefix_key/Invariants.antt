-- The loop's invariant: the parts from the place on give the bytes that are left of the key.
use Prim.Native.Nat.{◌-◌}
use Rattle.defs.specs.Table.{parts_between}
use Rattle.ruledef_map.specs.RuledefMap.{rule_prefix}
use Rattle.leads.specs.Leads.{key_of}
use Rattle.leads.proofs.Keys.{PartsFilling}
use Rattle.leads.proofs.prefix_key.Given as goal

abbrev pub invariant-loop : goal.invariant-loop
invariant-loop l = PartsFilling l.table l.to (key_of (rule_prefix (parts_between l.table l.from l.to))) l.at (4 - l.counter) l.key
