-- A plain line has no bad byte; in another the library's search finds the first.
use mathlib.Core.Path.{sym, ◌∙◌}
use Rattle.line.proofs.Lines.{bad-nowhere, scan-is}
use Rattle.line.proofs.first_bad.Goals as goal

pub returns-then-is_plain-clause-value : goal.returns-then-is_plain-clause-value
returns-then-is_plain-clause-value c = sym (bad-nowhere _ (c.is_plain.ensures.plain c.if-is_plain.true))

pub returns-clause-value : goal.returns-clause-value
returns-clause-value c = c.search_bad.ensures.value ∙ scan-is _
