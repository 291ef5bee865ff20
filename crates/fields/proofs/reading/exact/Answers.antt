-- `fields::reading::exact` meets its contract.
use mathlib.Core.Path.{sym, ◌∙◌}
use native.Mathlib.Omega.{arith}
use Rattle.fields.proofs.Scans.{exact-no, exact-yes}
use Rattle.fields.proofs.reading.exact.Goals as goal

pub returns-then-is_part : goal.returns-then-is_part
returns-then-is_part c = record { answers = exact-yes c.args.byte (omega arith) (sym c.is_part.ensures.answers ∙ c.if-is_part.true) }

pub returns-else-is_part : goal.returns-else-is_part
returns-else-is_part c = record { answers = exact-no c.args.byte (omega arith) (sym c.is_part.ensures.answers ∙ c.if-is_part.false) }
