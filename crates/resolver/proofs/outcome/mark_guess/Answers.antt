-- `resolver::outcome::mark_guess` meets its contract: each answer rewrites with the test of the kind that led to it.
use native.Mathlib.Omega.{arith}
use borrow.Author.Tests.{le-leb, lt-leb}
use Rattle.resolver.specs.Passes.{marked_word}
use Rattle.resolver.proofs.outcome.mark_guess.Goals as goal

pub returns-then-kind_in : goal.returns-then-kind_in
unfolding marked_word
returns-then-kind_in c = record { marked = rw (← c.kind_in.ensures.kind, le-leb 1 c.kind_in.result (omega arith)) }

pub returns : goal.returns
unfolding marked_word
returns c = record { marked = rw (← c.kind_in.ensures.kind, lt-leb 1 c.kind_in.result (omega arith)) }
