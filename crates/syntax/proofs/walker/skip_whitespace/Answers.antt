-- The caller's test tells whether the byte is whitespace, which the loop's steps go by.
use mathlib.Core.Path.{sym, ◌∙◌}
use Rattle.syntax.proofs.Useful.{skip-stops, skip_goes_on, skip-over}
use Rattle.syntax.proofs.walker.skip_whitespace.Goals as goal

pub returns-then-not-is_blank-clause-value : goal.returns-then-not-is_blank-clause-value
returns-then-not-is_blank-clause-value g c = (skip-stops _ _ _ c.requires.end_in_bounds _ c.loop-at.invariant c.loop-at-test.true (sym (c.requires.tells _ _ (c.type_inv.line _).fits c.is_blank.ensures) ∙ c.if-not-is_blank.true)).0

pub loop-at-preserved : goal.loop-at-preserved
loop-at-preserved g c = skip_goes_on _ _ _ c.requires.end_in_bounds _ c.loop-at.invariant c.loop-at-test.true (sym (c.requires.tells _ _ (c.type_inv.line _).fits c.is_blank.ensures) ∙ c.if-not-is_blank.false)

pub returns-clause-value : goal.returns-clause-value
returns-clause-value g c = skip-over _ _ _ c.requires.end_in_bounds _ c.loop-at.invariant c.loop-at-test.false
