-- `term_at` meets its contract.
use Rattle.extents.specs.Sheet.{entry_end}
use Rattle.expressions.proofs.Told.{term-digit, term-letter, term-opener, term-nothing}
use Rattle.expressions.proofs.term_at.Goals as goal

pub returns-then-c-digits : goal.returns-then-c-digits
returns-then-c-digits c = term-digit c.args.line.now (entry_end c.args.inner) c.args.c c.args.reach c.requires.reaches c.if-c-digits.true

pub returns-then-c-names : goal.returns-then-c-names
returns-then-c-names c = term-letter c.args.line.now (entry_end c.args.inner) c.args.c c.args.reach c.requires.reaches c.if-c-digits.false c.if-c-names.true

pub returns-then-line-c-eq40 : goal.returns-then-line-c-eq40
returns-then-line-c-eq40 c = term-opener c.args.line.now (entry_end c.args.inner) c.args.c c.args.reach c.requires.reaches c.if-c-digits.false c.if-c-names.false c.if-line-c-eq40.true c.closed_after.ensures

pub returns : goal.returns
returns c = term-nothing c.args.line.now (entry_end c.args.inner) c.args.c c.args.reach c.requires.reaches c.if-c-digits.false c.if-c-names.false c.if-line-c-eq40.false
