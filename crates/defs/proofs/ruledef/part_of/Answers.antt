-- `part_of` the word, by its tests.
use mathlib.Core.Path.{refl}
use Rattle.defs.proofs.Words.{part-exact, part-whitespace, part-expression, part-nested}
use Rattle.defs.proofs.ruledef.part_of.Goals as goal

pub returns-then-w-lt-WHITESPACE : goal.returns-then-w-lt-WHITESPACE
returns-then-w-lt-WHITESPACE c = part-exact _ _ refl c.if-w-lt-WHITESPACE.true

pub returns-then-w-eq-WHITESPACE : goal.returns-then-w-eq-WHITESPACE
returns-then-w-eq-WHITESPACE c = part-whitespace _ _ refl c.if-w-eq-WHITESPACE.true

pub returns-then-w-lt-NESTED : goal.returns-then-w-lt-NESTED
returns-then-w-lt-NESTED c = part-expression _ _ refl c.if-w-lt-WHITESPACE.false c.if-w-eq-WHITESPACE.false c.if-w-lt-NESTED.true

pub returns : goal.returns
returns c = part-nested _ _ refl c.if-w-lt-WHITESPACE.false c.if-w-eq-WHITESPACE.false c.if-w-lt-NESTED.false
