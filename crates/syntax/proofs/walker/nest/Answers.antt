-- The kind decides: the first return is of the kinds that are no bracket, each other of one bracket, the last two of the greatest
-- kind.
use mathlib.Core.Path.{◌∙◌}
use native.Mathlib.Omega.{arith}
use Rattle.syntax.proofs.Turns.{nest-none, nest-open-paren, nest-stray-paren, nest-close-paren, nest-open-brace, nest-stray-brace, nest-close-brace, kinds-end}
use Rattle.syntax.proofs.walker.nest.Goals as goal

pub returns-then-kind-lt-OPEN_PAREN : goal.returns-then-kind-lt-OPEN_PAREN
returns-then-kind-lt-OPEN_PAREN c = λ b h e s. c.on.ensures ∙ nest-none _ b c.args.s h e s c.if-kind-lt-OPEN_PAREN.true

pub returns-then-kind-lt-CLOSE_PAREN : goal.returns-then-kind-lt-CLOSE_PAREN
returns-then-kind-lt-CLOSE_PAREN c = λ b h e s. c.on-then-kind-lt-CLOSE_PAREN.ensures ∙ nest-open-paren _ b c.args.s h e s (omega (arith, c.if-kind-lt-OPEN_PAREN.false, c.if-kind-lt-CLOSE_PAREN.true))

pub returns-then-parens-eq0 : goal.returns-then-parens-eq0
returns-then-parens-eq0 c = λ b h e s. nest-stray-paren _ b c.args.s h e s (omega arith) c.if-parens-eq0.true

pub returns-then-kind-lt-OPEN_BRACE : goal.returns-then-kind-lt-OPEN_BRACE
returns-then-kind-lt-OPEN_BRACE c = λ b h e s. c.on-then-kind-lt-OPEN_BRACE.ensures ∙ nest-close-paren _ b c.args.s h e s (omega arith) c.if-parens-eq0.false

pub returns-then-kind-lt-CLOSE_BRACE : goal.returns-then-kind-lt-CLOSE_BRACE
returns-then-kind-lt-CLOSE_BRACE c = λ b h e s. c.on-then-kind-lt-CLOSE_BRACE.ensures ∙ nest-open-brace _ b c.args.s h e s (omega (arith, c.if-kind-lt-OPEN_BRACE.false, c.if-kind-lt-CLOSE_BRACE.true))

pub returns-then-braces-eq0 : goal.returns-then-braces-eq0
returns-then-braces-eq0 c = λ b h e s. nest-stray-brace _ b c.args.s h e s (kinds-end _ b c.args.s h e s c.if-kind-lt-CLOSE_BRACE.false) c.if-braces-eq0.true

pub returns : goal.returns
returns c = λ b h e s. c.on-2.ensures ∙ nest-close-brace _ b c.args.s h e s (kinds-end _ b c.args.s h e s c.if-kind-lt-CLOSE_BRACE.false) c.if-braces-eq0.false
