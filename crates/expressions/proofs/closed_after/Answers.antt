-- `closed_after` meets its contract.
use mathlib.Core.Path.{sym, ap, ◌∙◌}
use native.Mathlib.Omega.{arith}
use Prim.Native.Nat.{ℕ}
use lib.ListN.{get_or}
use Rattle.extents.proofs.Reading.{end-some}
use Rattle.expressions.proofs.Told.{closed-not, closed-here}
use Rattle.expressions.proofs.closed_after.Goals as goal

pub bounds-tokens-end : goal.bounds-tokens-end
bounds-tokens-end c = omega (arith, c.wide-end.ensures.0, (c.requires c.args.inner (sym (end-some c.args.inner c.if-inner-eq-NONE.false))).0)

pub returns-then-byte_at-ne41 : goal.returns-then-byte_at-ne41
returns-then-byte_at-ne41 c = closed-not c.args.line.now c.args.inner c.if-inner-eq-NONE.false c.wide-sign.result c.byte_at.result (c.wide-sign.ensures.0 ∙ ap (λ (i : ℕ). get_or c.args.tokens.now i 0) c.wide-end.ensures.0 ∙ (c.requires c.args.inner (sym (end-some c.args.inner c.if-inner-eq-NONE.false))).1) c.byte_at.ensures c.if-byte_at-ne41.true

pub returns : goal.returns
returns c = closed-here c.args.line.now c.args.inner c.if-inner-eq-NONE.false c.wide-sign.result c.byte_at.result (c.wide-sign.ensures.0 ∙ ap (λ (i : ℕ). get_or c.args.tokens.now i 0) c.wide-end.ensures.0 ∙ (c.requires c.args.inner (sym (end-some c.args.inner c.if-inner-eq-NONE.false))).1) c.byte_at.ensures c.if-byte_at-ne41.false
