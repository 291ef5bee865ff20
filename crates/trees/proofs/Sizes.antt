-- Numbers that add up over a match's records, as how many words it has. Of arguments one after another such a number is the sum
-- of theirs; so what the recursion asks for is a part of what it is asked for, and no sum wraps.
use Rattle.std.specs.Prelude.{Option, Some, None}
use mathlib.Core.Path.{◌≡◌, ap, ◌∙◌}
use mathlib.Core.List.{List}
use Prim.Native.Nat.{ℕ, ◌+◌, ◌≤◌}
use native.Mathlib.Omega.{arith}
use Rattle.readings.specs.Tree.{Tree, node, Args, end, expr, nest}
use Rattle.pool.specs.Meaning.{Entry, tree_at, entries, Heads, Lasts}
use Rattle.pool.specs.declared.ArgumentKind.TheVariants.{Expr, Nested}
use Rattle.pool.specs.declared.Argument.{Argument}
use Rattle.pool.specs.declared.Head.{Head}
use Rattle.trees.specs.Asked.{args_at, TreeAsked, ArgsAsked}
use Rattle.trees.proofs.Arguments.{joined, one, none_before, before, one-after, expr-after, nest-after, nest-earlier}

pub record Sized (tree : Tree → ℕ) (args : Args → ℕ) : Type 0 where
  pub none : args end ≡ 0
  pub joins : (a b : Args) → args (joined a b) ≡ args a + args b
  pub within : (r k : ℕ) (a : Args) → args a ≤ tree (node r k a)
  pub inner : (x y : ℕ) (t : Tree) → tree t ≤ args (nest x y t end)

module _ {tree : Tree → ℕ} {args : Args → ℕ} (sized : Sized tree args) where
  -- ---- the numbers of arguments up to a last one

  module _ {es : List Entry} {a : ℕ} {l : Option (Argument × ℕ)} (is : Lasts es a l) where
    pub size_none : l ≡ None → 0 ≡ args (args_at es a)
    size_none y = omega (arith, ap args (none_before es a is y), sized.none)

    module _ {x : Argument} {p : ℕ} (y : l ≡ Some (x, p)) where
      pub size-before : args (args_at es p) ≤ args (args_at es a)
      size-before = omega (arith, ap args (one-after es a is y) ∙ sized.joins (args_at es p) (one es x))

      pub size-expr : x.kind ≡ Expr → args (args_at es a) ≡ args (args_at es p) + args (expr x.start x.end end)
      size-expr e = ap args (expr-after es a is y e) ∙ sized.joins (args_at es p) (expr x.start x.end end)

      pub size_nest : {m : ℕ} → x.kind ≡ Nested m → args (args_at es a) ≡ args (args_at es p) + args (nest x.start x.end (tree_at es m) end)
      size_nest {m} e = ap args (nest-after es a is y e) ∙ sized.joins (args_at es p) (nest x.start x.end (tree_at es m) end)

  -- ---- what is asked of the parts

  module _ {most : ℕ} {store : List ℕ} {used : ℕ} where
    pub head-asked : {m : ℕ} → TreeAsked tree most store used m → {h : Head} → Heads (entries store used) m h → ArgsAsked args most store used h.args
    head-asked asked {h} is = record {
      stored = asked.stored;
      within = omega (arith, asked.below, is.earlier);
      small = omega (arith, asked.small, ap tree is.means, sized.within h.set h.rule (args_at (entries store used) h.args));
    }

    module _ {a : ℕ} (asked : ArgsAsked args most store used a) {l : Option (Argument × ℕ)} (is : Lasts (entries store used) a l) {x : Argument} {p : ℕ} (y : l ≡ Some (x, p)) where
      pub previous-asked : ArgsAsked args most store used p
      previous-asked = record {
        stored = asked.stored;
        within = omega (arith, asked.within, (before (entries store used) a is y).earlier);
        small = omega (arith, asked.small, size-before is y);
      }

      pub inner-asked : {m : ℕ} → x.kind ≡ Nested m → TreeAsked tree most store used m
      inner-asked {m} e = record {
        stored = asked.stored;
        below = omega (arith, asked.within, nest-earlier (entries store used) a is y e);
        small = omega (arith, asked.small, size_nest is y e, sized.inner x.start x.end (tree_at (entries store used) m));
      }
