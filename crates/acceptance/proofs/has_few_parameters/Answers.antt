-- Few parts, or the parameters counted.
use native.Mathlib.Omega.{arith}
use Rattle.acceptance.proofs.Check.{few-parts}
use Rattle.acceptance.proofs.has_few_parameters.Goals as goal

pub returns-then-field_at-le-MOST_PARAMETERS : goal.returns-then-field_at-le-MOST_PARAMETERS
returns-then-field_at-le-MOST_PARAMETERS c = few-parts _ _ _ c.field_at.ensures.answers (omega arith)
