-- Whether two arguments are the same, as far as their own records say.
use Rattle.std.specs.Prelude.{◌&&◌, eqb}
use Rattle.plain.specs.Choice.{select}
use Rattle.pool.specs.declared.ArgumentKind.{ArgumentKind}
use Rattle.pool.specs.declared.ArgumentKind.TheVariants.{Expr, Nested}
use Rattle.pool.specs.declared.Argument.{Argument}
use Rattle.trees.specs.declared.Compared.{Compared}
use Rattle.trees.specs.declared.Compared.TheVariants.{Different, Alike, Inner}

-- an expression is no nested one; two nested ones are the same if their matches are
abbrev pub compared_kinds : ArgumentKind → ArgumentKind → Compared
compared_kinds Expr Expr = Alike
compared_kinds Expr (Nested n) = Different
compared_kinds (Nested m) Expr = Different
compared_kinds (Nested m) (Nested n) = Inner m n

-- start, end, then kind
unfoldable pub compared : Argument → Argument → Compared
compared x y = select (eqb x.start y.start && eqb x.end y.end) (compared_kinds x.kind y.kind) Different
