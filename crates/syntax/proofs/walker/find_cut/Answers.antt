use mathlib.Core.Path.{◌≡◌, sym, ◌∙◌}
use Rattle.plain.proofs.Lists.{listed-read}
use Rattle.syntax.specs.declared.walker.Turn.TheVariants as Turn
use Rattle.syntax.proofs.Marks.{marked_class}
use Rattle.syntax.proofs.Cuts.{search-begins, search-turns, search-ends, search-goes-on}
use lib.Dec.{eqb}
use lib.ListN.{get_or}
use Prim.Native.Nat.{◌/◌}
use borrow.Author.Rules.{rules}
use Rattle.token.proofs.Bytes.{laid-whitespace}
use Rattle.syntax.proofs.walker.find_cut.Goals as goal

pub loop-at-init : goal.loop-at-init
loop-at-init c = search-begins _ _ _ _ c.requires.end_in_bounds _ c.requires.from_le_end c.skip_whitespace-begin.ensures.value

pub returns-in-Cut : goal.returns-in-Cut
returns-in-Cut c = search-turns _ _ _ _ c.requires.end_in_bounds _ _ Turn.Cut c.loop-at.invariant c.loop-at-test.true (sym c.in-Cut.is ∙ c.take_in.ensures c.args.wanted _ (c.type_inv.line _).fits (listed-read 256 (marked_class c.args.wanted) _ c.mark.ensures _ (c.type_inv.line _).fits) (c.loop-at.invariant.sees c.loop-at-test.true))

pub returns-in-Stray : goal.returns-in-Stray
returns-in-Stray c = search-turns _ _ _ _ c.requires.end_in_bounds _ _ Turn.Stray c.loop-at.invariant c.loop-at-test.true (sym c.in-Stray.is ∙ c.take_in.ensures c.args.wanted _ (c.type_inv.line _).fits (listed-read 256 (marked_class c.args.wanted) _ c.mark.ensures _ (c.type_inv.line _).fits) (c.loop-at.invariant.sees c.loop-at-test.true))

pub loop-at-preserved : goal.loop-at-preserved
loop-at-preserved c = search-goes-on _ _ _ _ c.requires.end_in_bounds _ _ _ c.loop-at.invariant c.loop-at-test.true (sym c.in-On.is ∙ c.take_in.ensures c.args.wanted _ (c.type_inv.line _).fits (listed-read 256 (marked_class c.args.wanted) _ c.mark.ensures _ (c.type_inv.line _).fits) (c.loop-at.invariant.sees c.loop-at-test.true))

pub returns : goal.returns
returns c = search-ends _ _ _ _ c.requires.end_in_bounds _ _ c.loop-at.invariant c.loop-at-test.false

pub skip_whitespace-begin-requires-clause-tells : goal.skip_whitespace-begin-requires-clause-tells
skip_whitespace-begin-requires-clause-tells c = λ b r h e. let is : r ≡ eqb (get_or c.classes-classes.result b 0 / 256) 1 = search rules in is ∙ laid-whitespace _ c.classes-classes.ensures.answers b h
