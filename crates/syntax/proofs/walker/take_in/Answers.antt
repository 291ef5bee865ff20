-- A byte that is neither marked nor a bracket is taken in; a marked one is the cut where it may be; any other byte nests.
use mathlib.Core.Path.{sym, ◌∙◌}
use mathlib.Core.Logic.{inl, inr}
use native.Mathlib.Omega.{arith}
use Rattle.syntax.proofs.Turns.{nest-none, turn-cut, turn-unmarked, turn-nested}
use Rattle.syntax.proofs.walker.take_in.Goals as goal
use Rattle.syntax.proofs.walker.take_in.Goals.{then-may_cut+else-class-ge-MARK, else-may_cut}

pub returns-then-class-lt-OPEN_PAREN : goal.returns-then-class-lt-OPEN_PAREN
returns-then-class-lt-OPEN_PAREN c = λ x b h e s. turn-unmarked _ x b c.args.s h e _ (omega (arith, c.if-class-lt-OPEN_PAREN.true)) (λ k. c.on.ensures ∙ nest-none _ b c.args.s h k s c.if-class-lt-OPEN_PAREN.true)

pub returns-then-class-ge-MARK : goal.returns-then-class-ge-MARK
returns-then-class-ge-MARK c = λ x b h e s. turn-cut _ x b c.args.s h e c.if-class-ge-MARK.true (sym c.may_cut.ensures ∙ c.if-may_cut.true)

pub returns : goal.returns
returns c = λ x b h e s.
    turn-nested _ x b c.args.s h e _
    (elim c.if-may_cut.branch [
      | then-may_cut+else-class-ge-MARK w ↦ inl w.if-class-ge-MARK.false
      | else-may_cut w ↦ inr (sym c.may_cut.ensures ∙ w.if-may_cut.false)
    ])
    (λ k. c.nest.ensures b h k s)
