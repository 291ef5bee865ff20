-- `resolver::outcome::is_guess` meets its contract: an outcome is a guess if its kind is 0 or its guess bit is set.
use mathlib.Core.Path.{sym, ◌∙◌}
use borrow.Author.Tests.{ne_eqb}
use Rattle.resolver.proofs.Words.{guess-by-kind}
use Rattle.resolver.proofs.outcome.is_guess.Goals as goal

pub returns-then-kind_in : goal.returns-then-kind_in
returns-then-kind_in c = record { guess = rw (guess-by-kind, sym c.kind_in.ensures.kind ∙ c.if-kind_in.true) }

pub returns : goal.returns
returns c = record { guess = rw (guess-by-kind, ne_eqb _ _ (rw c.kind_in.ensures.kind at c.if-kind_in.false)) }
