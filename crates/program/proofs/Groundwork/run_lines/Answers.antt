use mathlib.Core.Path.{refl}
use native.Mathlib.Omega.{arith}
use Rattle.program.proofs.Running.{turn-first, turn_more, used-small, words_small, ends-after, ends-within, sheet-within, running-all}
use Rattle.program.proofs.Groundwork.run_lines.Goals as goal

pub loop-i-init : goal.loop-i-init
loop-i-init c = turn-first c.requires.rows_value c.requires.ready.ordered c.requires.store_len

pub overflow_sub-end : goal.overflow_sub-end
overflow_sub-end c = ends-after _ _ _ _ _ _ c.loop-i.invariant.running (omega arith) _ refl

pub slice_bounds-run_line-count : goal.slice_bounds-run_line-count
slice_bounds-run_line-count c = ends-after _ _ _ _ _ _ c.loop-i.invariant.running (omega arith) _ refl

pub slice_bounds-run_line-start : goal.slice_bounds-run_line-start
slice_bounds-run_line-start c = ends-after _ _ _ _ _ _ c.loop-i.invariant.running (omega arith) _ refl

pub slice_bounds-run_line-end : goal.slice_bounds-run_line-end
slice_bounds-run_line-end c = ends-within _ _ _ _ _ _ c.loop-i.invariant.running (omega arith) _ refl

pub slice_bounds-run_line-end-in-loop-i : goal.slice_bounds-run_line-end-in-loop-i
slice_bounds-run_line-end-in-loop-i c = sheet-within _ _ _ _ _ _ c.loop-i.invariant.running (omega arith) _ refl _ c.sheet_size.ensures.answers

pub overflow_add-after : goal.overflow_add-after
overflow_add-after c = omega (arith, used-small c.loop-i.invariant (omega arith), words_small c.loop-i.invariant (omega arith) _ refl _ c.sheet_size.ensures.answers _ _ c.run_line-got.ensures.tells _ c.from-told.ensures)

pub loop-i-preserved : goal.loop-i-preserved
loop-i-preserved c = turn_more c.loop-i.invariant (omega arith) _ refl _ c.sheet_size.ensures.answers _ _ c.run_line-got.ensures.tells _ c.from-told.ensures _ _ _ c.run_line-got.ensures.keeps (omega (arith, c.run_line-got.auto)) refl

pub returns-clause-runs : goal.returns-clause-runs
returns-clause-runs c = running-all _ _ _ _ _ _ c.loop-i.invariant.running (omega arith) c.loop-i.invariant.long
