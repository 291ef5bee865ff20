use mathlib.Core.Path.{ap, ◌∙◌}
use Prim.Native.Nat.{ℕ, ◌%◌}
use native.Mathlib.Omega.{arith}
use Rattle.token.proofs.Bytes.{class-partner, low_below, low-above}
use borrow.Author.Rules.{rules}
use Rattle.token.proofs.to_ascii_lowercase.Goals as goal

pub returns-then-b-lt-FIRST_CAPITAL : goal.returns-then-b-lt-FIRST_CAPITAL
returns-then-b-lt-FIRST_CAPITAL c = record { answers = low_below _ _ c.if-b-lt-FIRST_CAPITAL.true (omega arith) }

pub returns-then-b-gt-LAST_CAPITAL : goal.returns-then-b-gt-LAST_CAPITAL
returns-then-b-gt-LAST_CAPITAL c = record { answers = low-above _ _ c.if-b-gt-LAST_CAPITAL.true (omega arith) }

pub returns : goal.returns
returns c = record { answers = ap (λ (n : ℕ). n % 256) c.class.ensures ∙ class-partner _ (search rules) }
