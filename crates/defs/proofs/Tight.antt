-- How tight the promises are: any two answers that a function's contract allows on the same arguments are equal. Each law is
-- stated over the contract itself, `Post`, so a weaker contract breaks it.
use mathlib.Core.Path.{◌≡◌}
use mathlib.Core.Bool.{Bool}
use mathlib.Core.List.{List}
use Prim.Native.Nat.{ℕ}
use Rattle.plain.proofs.Answers.{one_answer}
use Rattle.defs.specs.declared.ruledef.Part.{Part}
use Rattle.std.specs.declared.ops.Range.{Range}
use Rattle.defs.proofs.ruledef.word_at.Reads as word_at
use Rattle.defs.proofs.ruledef.field_at.Reads as field_at
use Rattle.defs.proofs.ruledef.ruleset_count.Reads as ruleset-count
use Rattle.defs.proofs.ruledef.rule_count.Reads as rule-count
use Rattle.defs.proofs.ruledef.is_top_rule.Reads as is-top-rule
use Rattle.defs.proofs.ruledef.ruleset_of.Reads as ruleset-of
use Rattle.defs.proofs.ruledef.parts_of.Reads as parts-of
use Rattle.defs.proofs.ruledef.part_at.Reads as part_at
use Rattle.defs.proofs.ruledef.part_within.Reads as part-within
use Rattle.defs.proofs.ruledef.ruleset_starts.Reads as ruleset-starts

pub word_at-tight : (κs a : _) (r s : ℕ) (x y : _) → word_at.Post κs a r x → word_at.Post κs a s y → r ≡ s
word_at-tight κs a r s x y = λ p q. one_answer p.0 q.0

pub field_at-tight : (κs a : _) (r s : ℕ) (x y : _) → field_at.Post κs a r x → field_at.Post κs a s y → r ≡ s
field_at-tight κs a r s x y = λ p q. one_answer p.0 q.0

pub ruleset_count-tight : (κs a : _) (r s : ℕ) (x y : _) → ruleset-count.Post κs a r x → ruleset-count.Post κs a s y → r ≡ s
ruleset_count-tight κs a r s x y = one_answer

pub rule_count-tight : (κs a : _) (r s : ℕ) (x y : _) → rule-count.Post κs a r x → rule-count.Post κs a s y → r ≡ s
rule_count-tight κs a r s x y = one_answer

pub is_top_rule-tight : (κs a : _) (r s : Bool) (x y : _) → is-top-rule.Post κs a r x → is-top-rule.Post κs a s y → r ≡ s
is_top_rule-tight κs a r s x y = one_answer

pub ruleset_of-tight : (κs a : _) (r s : ℕ) (x y : _) → ruleset-of.Post κs a r x → ruleset-of.Post κs a s y → r ≡ s
ruleset_of-tight κs a r s x y = one_answer

pub parts_of-tight : (κs a : _) (r s : Range ℕ) (x y : _) → parts-of.Post κs a r x → parts-of.Post κs a s y → r ≡ s
parts_of-tight κs a r s x y = one_answer

pub part_at-tight : (κs a : _) (r s : Part) (x y : _) → part_at.Post κs a r x → part_at.Post κs a s y → r ≡ s
part_at-tight κs a r s x y = one_answer

pub part_within-tight : (κs a : _) (r s : Part) (x y : _) → part-within.Post κs a r x → part-within.Post κs a s y → r ≡ s
part_within-tight κs a r s x y = one_answer

pub ruleset_starts-tight : (κs a : _) (r s : List ℕ) (x y : _) → ruleset-starts.Post κs a r x → ruleset-starts.Post κs a s y → r ≡ s
ruleset_starts-tight κs a r s x y = one_answer
