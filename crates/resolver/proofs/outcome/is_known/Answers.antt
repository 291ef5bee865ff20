-- `resolver::outcome::is_known` meets its contract: an outcome is known if its kind is 3.
use Rattle.resolver.proofs.Words.{known-by-kind}
use Rattle.resolver.proofs.outcome.is_known.Goals as goal

pub returns : goal.returns
returns c = record { known = rw (known-by-kind, c.kind_in.ensures.kind) }
