-- How tight the promises are: any two answers that a function's contract allows on the same arguments are equal. Each law is
-- stated over the contract itself, `Post`, so a weaker contract breaks it.
use mathlib.Core.Path.{◌≡◌, ap₂}
use mathlib.Core.List.{List}
use Prim.Native.Nat.{ℕ}
use lib.ListN.{take}
use Rattle.plain.proofs.Answers.{one_answer}
use Rattle.prefix_order.proofs.order_rules.Reads as order-rules
use Rattle.prefix_order.proofs.find_rules.Reads as find-rules

-- the lent order, as it stands at exit
pub order_rules-tight : (κs a r s x y : _) → order-rules.Post κs a r x → order-rules.Post κs a s y → ◌≡◌ {A = List ℕ} x.1.1.1.0.now y.1.1.1.0.now
order_rules-tight κs a r s x y = one_answer

-- the rules written to the lent buffer, and how many
pub find_rules-tight : (κs a : _) (r s : ℕ) (x y : _) → find-rules.Post κs a r x → find-rules.Post κs a s y
    → ◌≡◌ {A = List ℕ × ℕ} (take r x.1.1.1.0.now, r) (take s y.1.1.1.0.now, s)
find_rules-tight κs a r s x y p q =
    ap₂ (λ (l : List ℕ) (n : ℕ). (l, n)) (one_answer p.0 q.0) (one_answer p.1.0 q.1.0)
