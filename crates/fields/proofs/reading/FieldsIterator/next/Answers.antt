-- `fields::reading::Fields::next` meets what an iterator of what is left promises: the bytes up to a tab, or all of them, are
-- the first field left.
use mathlib.Core.Path.{ap, ◌∙◌}
use native.Mathlib.Omega.{arith}
use lib.ListN.{length}
use Rattle.printing.proofs.Pieces.{piece-last}
use Rattle.fields.specs.Said.{left_of}
use Rattle.fields.proofs.Scans.{cut-pieces}
use Rattle.fields.proofs.reading.FieldsIterator.next.Goals as goal

pub returns-in_default-clause-steps : goal.returns-in_default-clause-steps
returns-in_default-clause-steps c = ap left_of c.in_ok-rest.was ∙ piece-last 9 _ c.in_default.ensures.answers

pub returns-in_default-clause-goes : goal.returns-in_default-clause-goes
returns-in_default-clause-goes c =
    record { on = λ f. (tt, tt, omega (arith, ap length (ap left_of c.in_ok-rest.was ∙ piece-last 9 _ c.in_default.ensures.answers))); keeps = tt; rests = λ f. tt }

pub returns-clause-steps : goal.returns-clause-steps
returns-clause-steps c = ap left_of c.in_ok-rest.was ∙ cut-pieces 9 _ _ _ c.in-Some.ensures.answers

pub returns-clause-goes : goal.returns-clause-goes
returns-clause-goes c =
    record { on = λ f. (tt, tt, omega (arith, ap length (ap left_of c.in_ok-rest.was ∙ cut-pieces 9 _ _ _ c.in-Some.ensures.answers))); keeps = tt; rests = λ f. tt }
