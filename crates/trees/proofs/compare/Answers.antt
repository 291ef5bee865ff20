-- Start, end and kind, in that order: each way out has its case of `compared`.
use Rattle.trees.proofs.Sames.{starts-differ, ends-differ, by-kinds}
use Rattle.trees.proofs.compare.Goals as goal
use Rattle.trees.proofs.compare.Goals.{then-x-y-via-then-x-y, then-x-y-via-else-x-y+then-x-y-2}

pub returns-then-x-y : goal.returns-then-x-y
returns-then-x-y c = elim c.then-x-y.branch [ then-x-y-via-then-x-y w ↦ starts-differ c.args.x c.args.y w.if-x-y.true | then-x-y-via-else-x-y+then-x-y-2 w ↦ ends-differ c.args.x c.args.y w.if-x-y-2.true ]

pub returns-in-Expr-Expr : goal.returns-in-Expr-Expr
returns-in-Expr-Expr c = by-kinds c.args.x c.args.y c.if-x-y.false c.if-x-y-2.false c.in-Expr-Expr.is-0 c.in-Expr-Expr.is-1

pub returns-in-Nested-Nested : goal.returns-in-Nested-Nested
returns-in-Nested-Nested c = by-kinds c.args.x c.args.y c.if-x-y.false c.if-x-y-2.false c.in-Nested-Nested.is-0 c.in-Nested-Nested.is-1

pub returns-in_default : goal.returns-in_default
returns-in_default c = by-kinds c.args.x c.args.y c.if-x-y.false c.if-x-y-2.false c.in_default.is-0 c.in_default.is-1

pub returns-in_default-2 : goal.returns-in_default-2
returns-in_default-2 c = by-kinds c.args.x c.args.y c.if-x-y.false c.if-x-y-2.false c.in_default.is-0 c.in_default.is-1
