-- Arguments one after another. A record of an argument has a link to the one before, so arguments up to one are those up to
-- the one before and then that one; what is counted, compared or written of arguments goes by this.
use Rattle.std.specs.Prelude.{Option, Some, None}
use mathlib.Core.Path.{◌≡◌, refl, ap, subst, ◌∙◌}
use mathlib.Core.List.{List}
use Prim.Native.Nat.{ℕ, ◌+◌, ◌<◌}
use native.Mathlib.Omega.{arith}
use Rattle.readings.specs.Tree.{Args, end, expr, nest}
use Rattle.readings.specs.Answer.{arg_count}
use Rattle.pool.specs.Meaning.{Chain, then_expr, then_nest, unwind, Entry, chain_at, tree_at, linked, InnerEarlier, last_means, Before, LastBefore, Lasts}
use Rattle.pool.specs.declared.ArgumentKind.{ArgumentKind}
use Rattle.pool.specs.declared.ArgumentKind.TheVariants.{Expr, Nested}
use Rattle.pool.specs.declared.Argument.{Argument}
use Rattle.trees.specs.Asked.{args_at}

-- arguments, and others after them
abbrev pub joined : Args → Args → Args
joined end b = b
joined (expr x y a) b = expr x y (joined a b)
joined (nest x y t a) b = nest x y t (joined a b)

-- a chain before arguments: its own arguments, and then these
unwound-more : (c : Chain) (a b : Args) → unwind c (joined a b) ≡ joined (unwind c a) b
unwound-more Chain.none a b = refl
unwound-more (then_expr c x y) a b = unwound-more c (expr x y a) b
unwound-more (then_nest c x y t) a b = unwound-more c (nest x y t a) b

pub unwound : (c : Chain) (a : Args) → unwind c a ≡ joined (unwind c end) a
unwound c a = unwound-more c end a

-- one argument, as a record has it
abbrev pub one_of : List Entry → ℕ → ℕ → ArgumentKind → Args
one_of es x y Expr = expr x y end
one_of es x y (Nested m) = nest x y (tree_at es m) end

abbrev pub one : List Entry → Argument → Args
one es x = one_of es x.start x.end x.kind

linked-one : (es : List Entry) (c : Chain) (x y : ℕ) (k : ArgumentKind) → unwind (linked es c x y k) end ≡ joined (unwind c end) (one_of es x y k)
linked-one es c x y Expr = unwound c (expr x y end)
linked-one es c x y (Nested m) = unwound c (nest x y (tree_at es m) end)

-- how many there are
pub many-joined : (a b : Args) → arg_count (joined a b) ≡ arg_count a + arg_count b
many-joined end b = omega arith
many-joined (expr x y a) b = omega (arith, many-joined a b)
many-joined (nest x y t a) b = omega (arith, many-joined a b)

pub many-one : (es : List Entry) (x y : ℕ) (k : ArgumentKind) → arg_count (one_of es x y k) ≡ 1
many-one es x y Expr = refl
many-one es x y (Nested m) = refl

module _ (es : List Entry) (a : ℕ) {l : Option (Argument × ℕ)} (is : Lasts es a l) where
  pub none_before : l ≡ None → args_at es a ≡ end
  none_before y = ap (λ (c : Chain). unwind c end) (is.means ∙ ap (last_means es) y)

  module _ {x : Argument} {p : ℕ} (y : l ≡ Some (x, p)) where
    pub before : Before a x p
    before = subst (LastBefore a) y is.before

    pub one-after : args_at es a ≡ joined (args_at es p) (one es x)
    one-after =
        ap (λ (c : Chain). unwind c end) (is.means ∙ ap (last_means es) y)
        ∙ linked-one es (chain_at es p) x.start x.end x.kind

    pub many-after : arg_count (args_at es a) ≡ arg_count (args_at es p) + 1
    many-after = omega (arith, ap arg_count one-after, many-joined (args_at es p) (one es x), many-one es x.start x.end x.kind)

    pub expr-after : x.kind ≡ Expr → args_at es a ≡ joined (args_at es p) (expr x.start x.end end)
    expr-after e = one-after ∙ ap (λ (k : ArgumentKind). joined (args_at es p) (one_of es x.start x.end k)) e

    module _ {m : ℕ} (e : x.kind ≡ Nested m) where
      pub nest-after : args_at es a ≡ joined (args_at es p) (nest x.start x.end (tree_at es m) end)
      nest-after = one-after ∙ ap (λ (k : ArgumentKind). joined (args_at es p) (one_of es x.start x.end k)) e

      pub nest-earlier : m < a
      nest-earlier = subst (InnerEarlier a) e before.inner
