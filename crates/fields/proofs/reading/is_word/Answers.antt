use mathlib.Core.Path.{sym, ◌∙◌}
use native.Mathlib.Omega.{arith}
use Rattle.fields.proofs.Scans.{same_not, same_step, same_stop, same_over}
use Rattle.fields.proofs.reading.is_word.Goals as goal

pub returns-then-field-word : goal.returns-then-field-word
returns-then-field-word c = record { answers = sym (same_not c.args.field.now c.args.word.now (λ e. omega arith)) }

pub returns-then-field-at : goal.returns-then-field-at
returns-then-field-at c = record { answers = sym (same_stop c.args.field.now c.args.word.now c.loop-at.at (omega arith) (omega arith) (λ e. omega arith)) ∙ c.loop-at.invariant }

pub loop-at-preserved : goal.loop-at-preserved
loop-at-preserved c = same_step c.args.field.now c.args.word.now c.loop-at.at (omega arith) (omega arith) (omega arith) ∙ c.loop-at.invariant

pub returns : goal.returns
returns c = record { answers = sym (same_over c.args.field.now c.args.word.now c.loop-at.at (omega arith) (omega arith)) ∙ c.loop-at.invariant }
