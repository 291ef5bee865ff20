-- How tight the promises are: any two answers that a function's contract allows on the same arguments are equal. Each law is
-- stated over the contract itself, `Post`, so a weaker contract breaks it.
use mathlib.Core.Path.{◌≡◌}
use mathlib.Core.List.{List}
use Prim.Native.Nat.{ℕ}
use Rattle.plain.proofs.Answers.{one_answer}
use Rattle.ruledef_map.specs.declared.Prefix.{Prefix}
use Rattle.ruledef_map.proofs.parse_prefix.Reads as parse-prefix
use Rattle.ruledef_map.proofs.top_rules.Reads as top-rules
use Rattle.ruledef_map.proofs.query_prefixed.Reads as query-prefixed

pub parse_prefix-tight : (κs a : _) (r s : Prefix) (x y : _) → parse-prefix.Post κs a r x → parse-prefix.Post κs a s y → r ≡ s
parse_prefix-tight κs a r s x y = one_answer

-- with the lent buffer as it stands at exit
pub top_rules-tight : (κs a : _) (r s : ℕ) (x y : _) → top-rules.Post κs a r x → top-rules.Post κs a s y
    → ◌≡◌ {A = List ℕ × ℕ} (x.1.0.now, r) (y.1.0.now, s)
top_rules-tight κs a r s x y = one_answer

pub query_prefixed-tight : (κs a : _) (r s : ℕ) (x y : _) → query-prefixed.Post κs a r x → query-prefixed.Post κs a s y
    → ◌≡◌ {A = List ℕ × ℕ} (x.1.1.0.now, r) (y.1.1.0.now, s)
query_prefixed-tight κs a r s x y = one_answer
