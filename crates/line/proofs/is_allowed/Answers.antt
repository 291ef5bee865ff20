-- `is_allowed` is `is_allowed`, test by test.
use mathlib.Core.Path.{◌∙◌}
use Rattle.line.proofs.Lines.{allowed-low, allowed-high, allowed-printed}
use Rattle.line.proofs.is_allowed.Goals as goal

pub returns-then-b-lt-FIRST_PRINTED : goal.returns-then-b-lt-FIRST_PRINTED
returns-then-b-lt-FIRST_PRINTED c = c.is_whitespace.ensures.answers ∙ allowed-low _ c.if-b-lt-FIRST_PRINTED.true

pub returns-then-b-gt-LAST_PRINTED : goal.returns-then-b-gt-LAST_PRINTED
returns-then-b-gt-LAST_PRINTED c = allowed-high _ c.if-b-lt-FIRST_PRINTED.false c.if-b-gt-LAST_PRINTED.true

pub returns : goal.returns
returns c = allowed-printed _ c.if-b-lt-FIRST_PRINTED.false c.if-b-gt-LAST_PRINTED.false
