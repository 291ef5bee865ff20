-- `is_whitespace` is `is_whitespace` of a byte that a line may hold.
use Rattle.line.proofs.Lines.{low-white}
use Rattle.line.proofs.is_whitespace.Goals as goal

pub returns : goal.returns
returns c = record { answers = low-white _ c.requires }
