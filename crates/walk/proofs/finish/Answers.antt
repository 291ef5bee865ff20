-- A top rule that is not over completes no match; any other does, if there is room.
use native.Mathlib.Omega.{arith}
use mathlib.Core.Path.{◌≡◌, sym, ◌∙◌}
use lib.ListN.{length}
use Rattle.walk.proofs.Ending.{not-over, is-over, finish-short, finish-full, finish-kept}
use Rattle.walk.proofs.finish.Goals as goal
use Rattle.walk.proofs.finish.Goals.{else-depth-eq0-via-then-depth-eq0+else-not-is_over, else-depth-eq0-via-else-depth-eq0}

pub returns-then-not-is_over : goal.returns-then-not-is_over
returns-then-not-is_over c = finish-short _ _ _ _ _ _ _ c.requires.stored c.if-depth-eq0.true (not-over _ _ c.requires.cursor_le_limit (c.requires.limit_value c.if-depth-eq0.true) (sym c.is_over.ensures.answers ∙ c.if-not-is_over.true)) _ c.requires.ended

pub returns-in-Some : goal.returns-in-Some
returns-in-Some c =
    let goes : c.args.place.depth ≡ 0 → c.args.walker.cursor ≡ length c.args.lent.now.line.now = λ e. elim c.else-depth-eq0.branch [
      | else-depth-eq0-via-then-depth-eq0+else-not-is_over w ↦ is-over _ _ c.requires.cursor_le_limit (c.requires.limit_value e) (sym w.is_over.ensures.answers ∙ w.if-not-is_over.false)
      | else-depth-eq0-via-else-depth-eq0 w ↦ absurd (omega (arith, w.if-depth-eq0.false, e))
    ] in
    finish-kept _ _ _ _ _ _ _ c.requires.stored _ _ goes c.requires.args_le_used (rw c.get_cursor_index-end.ensures.answers at (rw c.in-Some.is at c.complete.ensures.answers.log)) _ c.requires.ended

pub returns-in-None : goal.returns-in-None
returns-in-None c =
    let goes : c.args.place.depth ≡ 0 → c.args.walker.cursor ≡ length c.args.lent.now.line.now = λ e. elim c.else-depth-eq0.branch [
      | else-depth-eq0-via-then-depth-eq0+else-not-is_over w ↦ is-over _ _ c.requires.cursor_le_limit (c.requires.limit_value e) (sym w.is_over.ensures.answers ∙ w.if-not-is_over.false)
      | else-depth-eq0-via-else-depth-eq0 w ↦ absurd (omega (arith, w.if-depth-eq0.false, e))
    ] in
    finish-full _ _ _ _ _ _ _ c.requires.stored _ goes (rw c.in-None.is at c.complete.ensures.answers.log) _ c.requires.ended
