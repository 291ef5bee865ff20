-- How tight the promises are: any two answers that a function's contract allows on the same arguments are equal. Each law is
-- stated over the contract itself, `Post`, so a weaker contract breaks it.
use mathlib.Core.Path.{◌≡◌}
use mathlib.Core.List.{List}
use Prim.Native.Nat.{ℕ}
use Rattle.plain.proofs.Answers.{one_answer, one_told}
use Rattle.syntax.specs.Walker.{step_says}
use Rattle.syntax.specs.declared.walker.Step.{Step}
use Rattle.syntax.proofs.Tight.{steps_apart}
use Rattle.useful.proofs.find_places.Reads as find-places
use Rattle.useful.proofs.next_useful_index.Reads as next-useful-index
use Rattle.useful.proofs.maybe_expect_char.Reads as maybe-expect-char
use Rattle.useful.proofs.maybe_expect_whitespace.Reads as maybe-expect-whitespace

pub find_places-tight : (κs a r s x y : _) → find-places.Post κs a r x → find-places.Post κs a s y → ◌≡◌ {A = List ℕ} x.1.0.now y.1.0.now
find_places-tight κs a r s x y = one_answer

pub next_useful_index-tight : (κs a : _) (r s : ℕ) (x y : _) → next-useful-index.Post κs a r x → next-useful-index.Post κs a s y → r ≡ s
next_useful_index-tight κs a r s x y = one_answer

pub maybe_expect_char-tight : (κs a : _) (r s : Step) (x y : _) → maybe-expect-char.Post κs a r x → maybe-expect-char.Post κs a s y → r ≡ s
maybe_expect_char-tight κs a r s x y = one_told step_says steps_apart _ r s

pub maybe_expect_whitespace-tight : (κs a : _) (r s : Step) (x y : _) → maybe-expect-whitespace.Post κs a r x → maybe-expect-whitespace.Post κs a s y → r ≡ s
maybe_expect_whitespace-tight κs a r s x y = one_told step_says steps_apart _ r s
