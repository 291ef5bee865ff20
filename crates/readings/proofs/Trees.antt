-- The test of trees is exact.
use mathlib.Core.Path.{◌≡◌, refl}
use mathlib.Core.Bool.{true, false, ◌&&◌}
use lib.Dec.{eqb}
use borrow.Author.Tests.{eqb-true, eq-eqb}
use Rattle.plain.proofs.Tests.{and_left, and_right, not-both}
use Rattle.readings.specs.Tree.{Tree, node, Args, end, expr, nest, same_tree, same_args}

mutual
  pub same-tree : (t u : Tree) → same_tree t u ≡ true → t ≡ u
  same-tree (node r k a) (node s j b) h =
      let first = and_left (eqb r s && eqb k j) (same_args a b) h in
      cc (eqb-true r s (and_left (eqb r s) (eqb k j) first), eqb-true k j (and_right (eqb r s) (eqb k j) first), same-args a b (and_right (eqb r s && eqb k j) (same_args a b) h))

  pub same-args : (a b : Args) → same_args a b ≡ true → a ≡ b
  same-args end end h = refl
  same-args end (expr x y b) h = absurd (not-both h refl)
  same-args end (nest x y u b) h = absurd (not-both h refl)
  same-args (expr x y a) end h = absurd (not-both h refl)
  same-args (expr x y a) (expr z w b) h =
      let first = and_left (eqb x z && eqb y w) (same_args a b) h in
      cc (eqb-true x z (and_left (eqb x z) (eqb y w) first), eqb-true y w (and_right (eqb x z) (eqb y w) first), same-args a b (and_right (eqb x z && eqb y w) (same_args a b) h))
  same-args (expr x y a) (nest z w u b) h = absurd (not-both h refl)
  same-args (nest x y t a) end h = absurd (not-both h refl)
  same-args (nest x y t a) (expr z w b) h = absurd (not-both h refl)
  same-args (nest x y t a) (nest z w u b) h =
      let spans-tree = and_left (eqb x z && eqb y w && same_tree t u) (same_args a b) h in
      let spans = and_left (eqb x z && eqb y w) (same_tree t u) spans-tree in
      cc (
        eqb-true x z (and_left (eqb x z) (eqb y w) spans),
        eqb-true y w (and_right (eqb x z) (eqb y w) spans),
        same-tree t u (and_right (eqb x z && eqb y w) (same_tree t u) spans-tree),
        same-args a b (and_right (eqb x z && eqb y w && same_tree t u) (same_args a b) h),
      )

mutual
  pub tree-same : (t : Tree) → same_tree t t ≡ true
  tree-same (node r k a) = rw (eq-eqb r r refl, eq-eqb k k refl, args-same a)

  args-same : (a : Args) → same_args a a ≡ true
  args-same end = refl
  args-same (expr x y a) = rw (eq-eqb x x refl, eq-eqb y y refl, args-same a)
  args-same (nest x y t a) = rw (eq-eqb x x refl, eq-eqb y y refl, tree-same t, args-same a)

pub differ : (t u : Tree) → same_tree t u ≡ false → t ≡ u → ⊥
differ t u h e = not-both (rw (← e) (tree-same t)) h
