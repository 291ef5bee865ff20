-- `is_odd` meets its contract: what is not odd is a part, by the law of the joined comparisons.
use Rattle.acceptance.proofs.Eights.{not-odd}
use Rattle.acceptance.proofs.is_odd.Goals as goal

pub returns : goal.returns
returns c = not-odd _ _
