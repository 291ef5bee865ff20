-- How tight the promises are: any two answers that a function's contract allows on the same arguments are equal. Each law is
-- stated over the contract itself, `Post`, so a weaker contract breaks it.
use Rattle.std.specs.Prelude.{Option}
use mathlib.Core.Path.{◌≡◌, ap}
use mathlib.Core.List.{List}
use Prim.Native.Nat.{ℕ}
use Rattle.plain.proofs.Answers.{one_answer}
use Rattle.pool.specs.declared.Argument.{Argument}
use Rattle.pool.specs.declared.Head.{Head}
use Rattle.pool.specs.declared.Pool.{Pool}
use Rattle.pool.specs.declared.Record.{Record}
use Rattle.pool.proofs.Pool.new.Reads as new
use Rattle.pool.proofs.Pool.keep.Reads as keep
use Rattle.pool.proofs.Pool.complete.Reads as complete
use Rattle.pool.proofs.record_at.Reads as record-at
use Rattle.pool.proofs.depth_at.Reads as depth-at
use Rattle.pool.proofs.count_at.Reads as count_at
use Rattle.pool.proofs.match_at.Reads as match-at
use Rattle.pool.proofs.last_argument.Reads as last-argument

pub new-tight : (κs a : _) (r s : Pool) (x y : _) → new.Post κs a r x → new.Post κs a s y → r ≡ s
new-tight κs a r s x y p q = ap (λ (n : ℕ). record { used = n }) (one_answer p q)

-- with the lent store as it stands at exit
pub keep-tight : (κs a : _) (r s : Option Pool) (x y : _) → keep.Post κs a r x → keep.Post κs a s y → ◌≡◌ {A = List ℕ × Option Pool} (x.1.0.now, r) (y.1.0.now, s)
keep-tight κs a r s x y p q = one_answer p.is q.is

pub complete-tight : (κs a : _) (r s : Option Pool) (x y : _) → complete.Post κs a r x → complete.Post κs a s y → ◌≡◌ {A = List ℕ × Option Pool} (x.1.0.now, r) (y.1.0.now, s)
complete-tight κs a r s x y p q = one_answer p.is q.is

pub record_at-tight : (κs a : _) (r s : Record) (x y : _) → record-at.Post κs a r x → record-at.Post κs a s y → r ≡ s
record_at-tight κs a r s x y p q = one_answer p.0 q.0

pub depth_at-tight : (κs a : _) (r s : Option ℕ) (x y : _) → depth-at.Post κs a r x → depth-at.Post κs a s y → r ≡ s
depth_at-tight κs a r s x y = one_answer

pub count_at-tight : (κs a : _) (r s : ℕ) (x y : _) → count_at.Post κs a r x → count_at.Post κs a s y → r ≡ s
count_at-tight κs a r s x y = one_answer

pub match_at-tight : (κs a : _) (r s : Head) (x y : _) → match-at.Post κs a r x → match-at.Post κs a s y → r ≡ s
match_at-tight κs a r s x y p q = one_answer p.is q.is

pub last_argument-tight : (κs a : _) (r s : Option (Argument × ℕ)) (x y : _) → last-argument.Post κs a r x → last-argument.Post κs a s y → r ≡ s
last_argument-tight κs a r s x y p q = one_answer p.is q.is
