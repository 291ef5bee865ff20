-- `resolver::outcome::is_resolved` meets its contract: an outcome is resolved if its kind is 2 or more.
use Rattle.resolver.proofs.Words.{resolved-by-kind}
use Rattle.resolver.proofs.outcome.is_resolved.Goals as goal

pub returns : goal.returns
returns c = record { resolved = rw (resolved-by-kind, c.kind_in.ensures.kind) }
