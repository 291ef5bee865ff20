use borrow.Author.Tests.{tests}
use borrow.Author.Rules.{rules}
use native.Mathlib.Omega.{arith}
use mathlib.Core.Path.{◌≡◌, refl}
use mathlib.Core.Bool.{true, false}
use lib.Dec.{leb}
use Rattle.std.proofs.lemmas.Iterator.{cases_from_all, YieldsList-from_range}
use Rattle.defs.specs.Table.{parameters_in, parameters_fit, records_in}
use Rattle.acceptance.proofs.Check.{all-below}
use Rattle.acceptance.proofs.parameters_fit.Goals as goal

pub returns : goal.returns
unfolding parameters_fit
returns c =
    all-below _ _ _
    (cases_from_all _ _ _ (λ i. leb (parameters_in c.args.table.now i) 8 ≡ true) (λ i. leb (parameters_in c.args.table.now i) 8 ≡ false) c.all.ensures.ran
    (YieldsList-from_range 0 c.args.rules (records_in c.args.table.now) refl (omega arith)) (λ x q k. search (rules, tests)) (λ x q k. search (rules, tests)))
