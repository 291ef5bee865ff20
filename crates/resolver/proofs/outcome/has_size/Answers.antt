use mathlib.Core.Path.{sym, ◌∙◌}
use Rattle.resolver.proofs.Words.{known-by-kind, size-by-kind}
use Rattle.resolver.proofs.outcome.has_size.Goals as goal

pub returns-then-is_known : goal.returns-then-is_known
returns-then-is_known c = record { same = rw (size-by-kind, sym (known-by-kind _) ∙ sym c.is_known.ensures.known ∙ c.if-is_known.true, c.size.ensures.size) }

pub returns-else-is_known : goal.returns-else-is_known
returns-else-is_known c = record { same = c.if-is_known.false ∙ rw (size-by-kind, sym (known-by-kind _) ∙ sym c.is_known.ensures.known ∙ c.if-is_known.false) }
