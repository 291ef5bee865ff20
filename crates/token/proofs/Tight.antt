-- How tight the promises are: any two answers that a function's contract allows on the same arguments are equal. Each law is
-- stated over the contract itself, `Post`, so a weaker contract breaks it.
use mathlib.Core.Path.{◌≡◌}
use mathlib.Core.Bool.{Bool}
use mathlib.Core.List.{List}
use Prim.Native.Nat.{ℕ}
use Rattle.plain.proofs.Answers.{one_answer}
use Rattle.token.proofs.classes.Reads as classes
use Rattle.token.proofs.is_whitespace.Reads as is_whitespace
use Rattle.token.proofs.to_ascii_lowercase.Reads as to_ascii_lowercase
use Rattle.token.proofs.eq_ignore_ascii_case.Reads as eq_ignore_ascii_case

pub classes-tight : (κs a : _) (r s : List ℕ) (x y : _) → classes.Post κs a r x → classes.Post κs a s y → r ≡ s
classes-tight κs a r s x y = one_answer

pub is_whitespace-tight : (κs a : _) (r s : Bool) (x y : _) → is_whitespace.Post κs a r x → is_whitespace.Post κs a s y → r ≡ s
is_whitespace-tight κs a r s x y = one_answer

pub to_ascii_lowercase-tight : (κs a : _) (r s : ℕ) (x y : _) → to_ascii_lowercase.Post κs a r x → to_ascii_lowercase.Post κs a s y → r ≡ s
to_ascii_lowercase-tight κs a r s x y = one_answer

pub eq_ignore_ascii_case-tight : (κs a : _) (r s : Bool) (x y : _) → eq_ignore_ascii_case.Post κs a r x → eq_ignore_ascii_case.Post κs a s y → r ≡ s
eq_ignore_ascii_case-tight κs a r s x y = one_answer
