-- A byte that is not odd is allowed, comparison by comparison (`not-odd`).
use Rattle.line.proofs.Lines.{not-odd}
use Rattle.line.proofs.is_odd.Goals as goal

pub returns : goal.returns
returns c = record { plain = not-odd _ }
