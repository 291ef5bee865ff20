use borrow.Author.Tests.{tests}
use borrow.Author.Rules.{rules}
use native.Mathlib.Omega.{arith}
use mathlib.Core.Path.{◌≡◌, refl}
use mathlib.Core.Bool.{true, false}
use Rattle.std.proofs.lemmas.Iterator.{cases_from_all, YieldsList-from_range}
use Rattle.defs.specs.Table.{is_part, part_word_at, parts_fit, rulesets_in, parts_in}
use Rattle.acceptance.proofs.Check.{all-below}
use Rattle.acceptance.proofs.parts_fit.Goals as goal

pub returns : goal.returns
unfolding parts_fit part_word_at
returns c =
    all-below _ _ _
    (cases_from_all _ _ _ (λ k. is_part (rulesets_in c.args.table.now) (part_word_at c.args.table.now k) ≡ true) (λ k. is_part (rulesets_in c.args.table.now) (part_word_at c.args.table.now k) ≡ false) c.all.ensures.ran
    (YieldsList-from_range 0 c.args.parts (parts_in c.args.table.now) refl (omega arith)) (λ x q k. search (rules, tests)) (λ x q k. search (rules, tests)))
