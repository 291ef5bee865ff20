-- How tight the promises are: any two answers that a function's contract allows on the same arguments are equal. Each law is
-- stated over the contract itself, `Post`, so a weaker contract breaks it.
use mathlib.Core.Path.{◌≡◌, refl, ap}
use mathlib.Core.Bool.{Bool}
use Rattle.std.specs.Prelude.{Result, Ok, Err}
use Prim.Native.Nat.{ℕ}
use native.Mathlib.Omega.{arith}
use Rattle.plain.proofs.Answers.{one_answer, one_told}
use Rattle.line.specs.Line.{line_says}
use Rattle.line.specs.declared.BadLine.{BadLine}
use Rattle.line.proofs.check_line.Reads as check-line
use Rattle.line.proofs.is_whitespace.Reads as is_whitespace

-- what the cases of the answer say tells them apart
lines-apart : (r s : Result Unit BadLine) → line_says r ≡ line_says s → r ≡ s
lines-apart (Ok _) (Ok _) e = refl
lines-apart (Ok _) (Err b) e = let z : ◌≡◌ {A = ℕ} 0 3 = ap (λ (p : ℕ × ℕ). p.0) e in absurd (omega arith)
lines-apart (Err a) (Ok _) e = let z : ◌≡◌ {A = ℕ} 3 0 = ap (λ (p : ℕ × ℕ). p.0) e in absurd (omega arith)
lines-apart (Err a) (Err b) e = ap (λ (p : ℕ × ℕ). Err (record { place = p.1 })) e

pub check_line-tight : (κs a : _) (r s : Result Unit BadLine) (x y : _) → check-line.Post κs a r x → check-line.Post κs a s y → r ≡ s
check_line-tight κs a r s x y = one_told line_says lines-apart _ r s

pub is_whitespace-tight : (κs a : _) (r s : Bool) (x y : _) → is_whitespace.Post κs a r x → is_whitespace.Post κs a s y → r ≡ s
is_whitespace-tight κs a r s x y = one_answer
