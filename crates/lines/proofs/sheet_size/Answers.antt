-- `lines::sheet_size` meets its contract.
use native.Mathlib.Omega.{arith}
use Rattle.lines.proofs.Measured.{size_none, size_is}
use Rattle.lines.proofs.sheet_size.Goals as goal

pub returns-then-n-gt-LONGEST-clause-answers : goal.returns-then-n-gt-LONGEST-clause-answers
returns-then-n-gt-LONGEST-clause-answers c = size_none c.args.n (omega (arith, c.if-n-gt-LONGEST.true))

pub returns-clause-answers : goal.returns-clause-answers
returns-clause-answers c = size_is c.args.n (omega (arith, c.if-n-gt-LONGEST.false))
