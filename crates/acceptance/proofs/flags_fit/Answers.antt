use borrow.Author.Tests.{tests}
use borrow.Author.Rules.{rules}
use native.Mathlib.Omega.{arith}
use mathlib.Core.Path.{◌≡◌, refl}
use mathlib.Core.Bool.{true, false}
use lib.Dec.{leb}
use Rattle.std.proofs.lemmas.Iterator.{cases_from_all, YieldsList-from_range}
use Rattle.defs.specs.Table.{flag_at, flags_fit, rulesets_in}
use Rattle.acceptance.proofs.Check.{all-below}
use Rattle.acceptance.proofs.flags_fit.Goals as goal

pub returns : goal.returns
unfolding flags_fit flag_at
returns c =
    all-below _ _ _
    (cases_from_all _ _ _ (λ s. leb (flag_at c.args.table.now s) 1 ≡ true) (λ s. leb (flag_at c.args.table.now s) 1 ≡ false) c.all.ensures.ran
    (YieldsList-from_range 0 c.args.sets (rulesets_in c.args.table.now) refl (omega arith)) (λ x q k. search (rules, tests)) (λ x q k. search (rules, tests)))
