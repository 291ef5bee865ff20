-- How tight the promises are: any two answers that a function's contract allows on the same arguments are equal. Each law is
-- stated over the contract itself, `Post`, so a weaker contract breaks it.
use mathlib.Core.Path.{◌≡◌, ap}
use mathlib.Core.Bool.{Bool, true≢false, false≢true}
use Rattle.std.specs.Prelude.{Option}
use Prim.Native.Nat.{ℕ}
use Rattle.plain.proofs.Answers.{one_answer, one_told}
use Rattle.syntax.specs.Walker.{step_says}
use Rattle.syntax.specs.declared.walker.Walker.{Walker}
use Rattle.syntax.specs.declared.walker.Step.{Step}
use Rattle.syntax.proofs.walker.Walker.new.Reads as new
use Rattle.syntax.proofs.walker.Walker.is_over.Reads as is-over
use Rattle.syntax.proofs.walker.Walker.get_cursor_index.Reads as get-cursor-index
use Rattle.syntax.proofs.walker.Walker.get_cursor_limit.Reads as get-cursor-limit
use Rattle.syntax.proofs.walker.Walker.set_cursor_index.Reads as set-cursor-index
use Rattle.syntax.proofs.walker.Walker.set_cursor_limit.Reads as set-cursor-limit
use Rattle.syntax.proofs.walker.Walker.next_useful_index.Reads as next-useful-index
use Rattle.syntax.proofs.walker.Walker.maybe_expect_char.Reads as maybe-expect-char
use Rattle.syntax.proofs.walker.Walker.maybe_expect_whitespace.Reads as maybe-expect-whitespace
use Rattle.syntax.proofs.walker.Walker.find_lookahead_char_index.Reads as find-lookahead-char-index
use Rattle.syntax.proofs.walker.least.Reads as least

-- what the cases of an answer say tells them apart

pub steps_apart : (r s : Step) → step_says r ≡ step_says s → r ≡ s
steps_apart (Step.Past v) (Step.Past w) e = ap (λ (p : Bool × Walker). Step.Past p.1) e
steps_apart (Step.Past v) (Step.Stayed w) e = absurd (true≢false (ap (λ (p : Bool × Walker). p.0) e))
steps_apart (Step.Stayed v) (Step.Past w) e = absurd (false≢true (ap (λ (p : Bool × Walker). p.0) e))
steps_apart (Step.Stayed v) (Step.Stayed w) e = ap (λ (p : Bool × Walker). Step.Stayed p.1) e

-- the promises

pub new-tight : (κs a : _) (r s : Walker) (x y : _) → new.Post κs a r x → new.Post κs a s y → r ≡ s
new-tight κs a r s x y = λ p q i. record { cursor = one_answer p.0 q.0 i; limit = one_answer p.1 q.1 i }

pub is_over-tight : (κs a : _) (r s : Bool) (x y : _) → is-over.Post κs a r x → is-over.Post κs a s y → r ≡ s
is_over-tight κs a r s x y = one_answer

pub get_cursor_index-tight : (κs a : _) (r s : ℕ) (x y : _) → get-cursor-index.Post κs a r x → get-cursor-index.Post κs a s y → r ≡ s
get_cursor_index-tight κs a r s x y = one_answer

pub get_cursor_limit-tight : (κs a : _) (r s : ℕ) (x y : _) → get-cursor-limit.Post κs a r x → get-cursor-limit.Post κs a s y → r ≡ s
get_cursor_limit-tight κs a r s x y = one_answer

pub set_cursor_index-tight : (κs a : _) (r s : Walker) (x y : _) → set-cursor-index.Post κs a r x → set-cursor-index.Post κs a s y → r ≡ s
set_cursor_index-tight κs a r s x y = one_answer

pub set_cursor_limit-tight : (κs a : _) (r s : Walker) (x y : _) → set-cursor-limit.Post κs a r x → set-cursor-limit.Post κs a s y → r ≡ s
set_cursor_limit-tight κs a r s x y = one_answer

pub next_useful_index-tight : (κs a : _) (r s : ℕ) (x y : _) → next-useful-index.Post κs a r x → next-useful-index.Post κs a s y → r ≡ s
next_useful_index-tight κs a r s x y = one_answer

pub maybe_expect_char-tight : (κs a : _) (r s : Step) (x y : _) → maybe-expect-char.Post κs a r x → maybe-expect-char.Post κs a s y → r ≡ s
maybe_expect_char-tight κs a r s x y = one_told step_says steps_apart _ r s

pub maybe_expect_whitespace-tight : (κs a : _) (r s : Step) (x y : _) → maybe-expect-whitespace.Post κs a r x → maybe-expect-whitespace.Post κs a s y → r ≡ s
maybe_expect_whitespace-tight κs a r s x y = one_told step_says steps_apart _ r s

pub find_lookahead_char_index-tight : (κs a : _) (r s : Option ℕ) (x y : _) → find-lookahead-char-index.Post κs a r x → find-lookahead-char-index.Post κs a s y → r ≡ s
find_lookahead_char_index-tight κs a r s x y = one_answer

pub least-tight : (κs a : _) (r s : ℕ) (x y : _) → least.Post κs a r x → least.Post κs a s y → r ≡ s
least-tight κs a r s x y = one_answer
