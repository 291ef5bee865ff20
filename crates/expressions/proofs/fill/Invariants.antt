-- `fill` meets its contract. The loop's invariant: the sheet is made from the start on, the whole ends and the tokens from there
-- on are known, and how far the start reaches.
use Prim.Native.Nat.{◌≤◌}
use lib.ListN.{length}
use Rattle.expressions.specs.Filling.{Made, Wholes, Tokens, Reaches}
use Rattle.expressions.proofs.fill.Given as goal

abbrev pub invariant-loop-c : goal.invariant-loop-c
invariant-loop-c l =
    (l.c ≤ length l.line) × (Made l.line l.sheet l.c × Wholes l.line l.wholes l.c) × (Tokens l.line l.tokens l.c × Reaches l.line l.c l.reach)
