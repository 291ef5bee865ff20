-- How tight the promises are: any two answers that a function's contract allows on the same arguments are equal. Each law is
-- stated over the contract itself, `Post`, so a weaker contract breaks it.
use mathlib.Core.Path.{◌≡◌}
use Rattle.std.specs.Prelude.{Option}
use Prim.Native.Nat.{ℕ}
use Rattle.plain.proofs.Answers.{one_answer}
use Rattle.lookahead.specs.declared.Few.{Few}
use Rattle.lookahead.proofs.find_lookahead_char.Reads as find-lookahead-char
use Rattle.lookahead.proofs.find_cut.Reads as find-cut
use Rattle.lookahead.proofs.find_ends.Reads as find-ends
use Rattle.lookahead.proofs.find_limits.Reads as find-limits

pub find_lookahead_char-tight : (κs a : _) (r s : Option ℕ) (x y : _) → find-lookahead-char.Post κs a r x → find-lookahead-char.Post κs a s y → r ≡ s
find_lookahead_char-tight κs a r s x y = one_answer

pub find_cut-tight : (κs a : _) (r s : Option ℕ) (x y : _) → find-cut.Post κs a r x → find-cut.Post κs a s y → r ≡ s
find_cut-tight κs a r s x y = one_answer

pub find_ends-tight : (κs a : _) (r s : Few 3) (x y : _) → find-ends.Post κs a r x → find-ends.Post κs a s y → r ≡ s
find_ends-tight κs a r s x y = one_answer

pub find_limits-tight : (κs a : _) (r s : Few 2) (x y : _) → find-limits.Post κs a r x → find-limits.Post κs a s y → r ≡ s
find_limits-tight κs a r s x y = one_answer
