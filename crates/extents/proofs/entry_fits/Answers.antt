-- `extents::entry_fits` meets its contract: each answer rewrites with the tests that led to it.
use borrow.Author.Tests.{eq-eqb, ne_eqb, le-leb, lt-leb}
use Rattle.extents.specs.Sheet.{entry_fits}
use Rattle.extents.proofs.entry_fits.Goals as goal

pub returns-then-e-eq-NONE : goal.returns-then-e-eq-NONE
unfolding entry_fits
returns-then-e-eq-NONE c = record { fits = simp (eq-eqb _ _ c.if-e-eq-NONE.true) }

pub returns-then-end-c : goal.returns-then-end-c
unfolding entry_fits
returns-then-end-c c = record { fits = simp (ne_eqb _ _ c.if-e-eq-NONE.false, lt-leb _ _ c.if-end-c.true) }

pub returns : goal.returns
unfolding entry_fits
returns c = record { fits = simp (ne_eqb _ _ c.if-e-eq-NONE.false, le-leb _ _ c.if-end-c.false) }
