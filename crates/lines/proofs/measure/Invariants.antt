-- `lines::measure` meets its contract: what is left says the same.
use Rattle.lines.proofs.Measured.{Passed}
use Rattle.lines.proofs.measure.Given as goal

abbrev pub invariant-loop-end : goal.invariant-loop-end
invariant-loop-end l = Passed l.text l.ends l.from l.sheets l.end-index
