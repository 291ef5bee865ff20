-- Arguments are compared from the last one back. Arguments one after another are the same as others, with as many at the
-- end, exactly if the first ones are and the last ones are (`same-joined`): for if not as many stand first, not as many
-- stand in all.
use Rattle.std.specs.Prelude.{Option, Some, None}
use mathlib.Core.Path.{◌≡◌, refl, sym, ap, ap₂, ◌∙◌}
use mathlib.Core.Bool.{Bool, true, false, ◌&&◌}
use mathlib.Core.Logic.{⊎_elim}
use mathlib.Core.List.{List}
use Prim.Native.Nat.{ℕ, ◌<◌}
use native.Mathlib.Omega.{arith}
use lib.Dec.{eqb}
use borrow.Author.Tests.{eq-eqb, ne_eqb}
use Rattle.plain.specs.Choice.{select}
use Rattle.plain.proofs.Tests.{tested, and_both, and-false-left, and-false-right, and-on}
use Rattle.readings.specs.Tree.{Args, end, expr, nest, same_tree, same_args}
use Rattle.readings.specs.Answer.{arg_count}
use Rattle.readings.proofs.Trees.{same-args}
use Rattle.pool.specs.Meaning.{Entry, tree_at, Heads, Lasts}
use Rattle.pool.specs.declared.ArgumentKind.{ArgumentKind}
use Rattle.pool.specs.declared.ArgumentKind.TheVariants.{Expr, Nested}
use Rattle.pool.specs.declared.Argument.{Argument}
use Rattle.pool.specs.declared.Head.{Head}
use Rattle.trees.specs.declared.Compared.{Compared}
use Rattle.trees.specs.declared.Compared.TheVariants.{Different, Alike, Inner}
use Rattle.trees.specs.Asked.{args_at}
use Rattle.trees.specs.Same.{compared_kinds, compared}
use Rattle.trees.proofs.Arguments.{joined, one_of, one, many-joined, many-one, none_before, one-after, many-after, nest-earlier}

and-true : (b : Bool) → (b && true) ≡ b
and-true true = refl
and-true false = refl

and_assoc : (a b c : Bool) → (a && (b && c)) ≡ ((a && b) && c)
and_assoc true b c = refl
and_assoc false b c = refl

-- ---- two arguments

module _ (x y : Argument) where
  pub starts-differ : (x.start ≡ y.start → ⊥) → Different ≡ compared x y
  unfolding compared
  starts-differ h = sym (ap (λ (b : Bool). select b (compared_kinds x.kind y.kind) Different) (and-false-left (eqb x.start y.start) (eqb x.end y.end) (ne_eqb x.start y.start h)))

  pub ends-differ : (x.end ≡ y.end → ⊥) → Different ≡ compared x y
  unfolding compared
  ends-differ h = sym (ap (λ (b : Bool). select b (compared_kinds x.kind y.kind) Different) (and-false-right (eqb x.start y.start) (eqb x.end y.end) (ne_eqb x.end y.end h)))

  pub by-kinds : x.start ≡ y.start → x.end ≡ y.end → {k j : ArgumentKind} → x.kind ≡ k → y.kind ≡ j → compared_kinds k j ≡ compared x y
  unfolding compared
  by-kinds h i e f =
      sym
      (ap (λ (b : Bool). select b (compared_kinds x.kind y.kind) Different) (and_both _ _ (eq-eqb x.start y.start h) (eq-eqb x.end y.end i))
      ∙ ap₂ compared_kinds e f)

  -- two that are judged by their matches are nested, with these
  inner-kinds : {m n : ℕ} → compared x y ≡ Inner m n → (x.kind ≡ Nested m) × (y.kind ≡ Nested n)
  unfolding compared
  inner-kinds {m} {n} e = go (eqb x.start y.start && eqb x.end y.end) x.kind y.kind e
    where
      go : (b : Bool) (k j : ArgumentKind) → select b (compared_kinds k j) Different ≡ Inner m n → (k ≡ Nested m) × (j ≡ Nested n)
      go true Expr Expr e = let z : ◌≡◌ {A = ℕ} 0 1 = cc in absurd (omega arith)
      go true Expr (Nested j) e = let z : ◌≡◌ {A = ℕ} 0 1 = cc in absurd (omega arith)
      go true (Nested k) Expr e = let z : ◌≡◌ {A = ℕ} 0 1 = cc in absurd (omega arith)
      go true (Nested k) (Nested j) e = (cc, cc)
      go false k j e = let z : ◌≡◌ {A = ℕ} 0 1 = cc in absurd (omega arith)

-- what a comparison says of the arguments
abbrev told : List Entry → Compared → Bool
told es Different = false
told es Alike = true
told es (Inner m n) = same_tree (tree_at es m) (tree_at es n)

same-one : (es : List Entry) (x y : Argument) → same_args (one es x) (one es y) ≡ told es (compared x y)
unfolding compared
same-one es x y = go (eqb x.start y.start && eqb x.end y.end) x.kind y.kind refl
  where
    go : (b : Bool) (k j : ArgumentKind) → (eqb x.start y.start && eqb x.end y.end) ≡ b
        → same_args (one_of es x.start x.end k) (one_of es y.start y.end j) ≡ told es (select b (compared_kinds k j) Different)
    go true Expr Expr e = ap (λ (b : Bool). b && true) e
    go false Expr Expr e = ap (λ (b : Bool). b && true) e
    go true Expr (Nested n) e = refl
    go false Expr (Nested n) e = refl
    go true (Nested m) Expr e = refl
    go false (Nested m) Expr e = refl
    go true (Nested m) (Nested n) e = ap (λ (b : Bool). b && same_tree (tree_at es m) (tree_at es n) && true) e ∙ and-true (same_tree (tree_at es m) (tree_at es n))
    go false (Nested m) (Nested n) e = ap (λ (b : Bool). b && same_tree (tree_at es m) (tree_at es n) && true) e

-- ---- arguments one after another

-- not as many are not the same
unlike : (a b : Args) → (arg_count a ≡ arg_count b → ⊥) → same_args a b ≡ false
unlike a b h = ⊎_elim (λ e. absurd (h (ap arg_count (same-args a b e)))) (λ e. e) (tested (same_args a b))

same-joined : (a b x y : Args) → arg_count x ≡ arg_count y → same_args (joined a x) (joined b y) ≡ (same_args a b && same_args x y)
same-joined end end x y h = refl
same-joined end (expr z w b) x y h = unlike x (expr z w (joined b y)) (λ e. omega (arith, many-joined b y))
same-joined end (nest z w u b) x y h = unlike x (nest z w u (joined b y)) (λ e. omega (arith, many-joined b y))
same-joined (expr z w a) end x y h = unlike (expr z w (joined a x)) y (λ e. omega (arith, many-joined a x))
same-joined (expr z w a) (expr z' w' b) x y h = ap (λ (c : Bool). eqb z z' && eqb w w' && c) (same-joined a b x y h) ∙ and_assoc (eqb z z' && eqb w w') (same_args a b) (same_args x y)
same-joined (expr z w a) (nest z' w' u b) x y h = refl
same-joined (nest z w t a) end x y h = unlike (nest z w t (joined a x)) y (λ e. omega (arith, many-joined a x))
same-joined (nest z w t a) (expr z' w' b) x y h = refl
same-joined (nest z w t a) (nest z' w' u b) x y h =
    ap (λ (c : Bool). eqb z z' && eqb w w' && same_tree t u && c) (same-joined a b x y h) ∙ and_assoc (eqb z z' && eqb w w' && same_tree t u) (same_args a b) (same_args x y)

-- ---- matches, and arguments up to a last one

module _ {es : List Entry} {a b : ℕ} where
  module _ {x y : Head} (is : Heads es a x) (are : Heads es b y) where
    same-heads : same_tree (tree_at es a) (tree_at es b) ≡ (eqb x.set y.set && eqb x.rule y.rule && same_args (args_at es x.args) (args_at es y.args))
    same-heads = ap₂ same_tree is.means are.means

    pub sets-differ : (x.set ≡ y.set → ⊥) → false ≡ same_tree (tree_at es a) (tree_at es b)
    sets-differ h = sym (same-heads ∙ and-false-left _ _ (and-false-left _ _ (ne_eqb x.set y.set h)))

    pub rules-differ : (x.rule ≡ y.rule → ⊥) → false ≡ same_tree (tree_at es a) (tree_at es b)
    rules-differ h = sym (same-heads ∙ and-false-left (eqb x.set y.set && eqb x.rule y.rule) _ (and-false-right (eqb x.set y.set) (eqb x.rule y.rule) (ne_eqb x.rule y.rule h)))

    pub by-arguments : x.set ≡ y.set → x.rule ≡ y.rule → {r : Bool} → r ≡ same_args (args_at es x.args) (args_at es y.args) → r ≡ same_tree (tree_at es a) (tree_at es b)
    by-arguments h k e = and-on (and_both _ _ (eq-eqb x.set y.set h) (eq-eqb x.rule y.rule k)) e ∙ sym same-heads

  module _ {l k : Option (Argument × ℕ)} (is : Lasts es a l) (are : Lasts es b k) where
    pub both-none : l ≡ None → k ≡ None → true ≡ same_args (args_at es a) (args_at es b)
    both-none e f = sym (ap₂ same_args (none_before es a is e) (none_before es b are f))

    pub first-none : l ≡ None → {y : Argument} {q : ℕ} → k ≡ Some (y, q) → false ≡ same_args (args_at es a) (args_at es b)
    first-none e {y} {q} f =
        sym
        (unlike (args_at es a) (args_at es b)
        (λ h. omega (arith, ap arg_count (none_before es a is e), many-after es b are f)))

    module _ {x : Argument} {p : ℕ} (e : l ≡ Some (x, p)) where
      pub second_none : k ≡ None → false ≡ same_args (args_at es a) (args_at es b)
      second_none f =
          sym
          (unlike (args_at es a) (args_at es b)
          (λ h. omega (arith, ap arg_count (none_before es b are f), many-after es a is e)))

      module _ {y : Argument} {q : ℕ} (f : k ≡ Some (y, q)) {c : Compared} (says : c ≡ compared x y) where
        by_last : {d : Compared} → c ≡ d → same_args (args_at es a) (args_at es b) ≡ (same_args (args_at es p) (args_at es q) && told es d)
        by_last g =
            ap₂ same_args (one-after es a is e) (one-after es b are f)
            ∙ same-joined (args_at es p) (args_at es q) (one es x) (one es y) (many-one es x.start x.end x.kind ∙ sym (many-one es y.start y.end y.kind))
            ∙ ap (λ (t : Bool). same_args (args_at es p) (args_at es q) && t) (same-one es x y ∙ ap (told es) (sym says ∙ g))

        lasts-differ : {d : Compared} → c ≡ d → told es d ≡ false → false ≡ same_args (args_at es a) (args_at es b)
        lasts-differ {d} g t = sym (by_last g ∙ and-false-right (same_args (args_at es p) (args_at es q)) (told es d) t)

        lasts-alike : {d : Compared} → c ≡ d → told es d ≡ true → {r : Bool} → r ≡ same_args (args_at es p) (args_at es q) → r ≡ same_args (args_at es a) (args_at es b)
        lasts-alike g t {r} h = sym (by_last g ∙ ap₂ ◌&&◌ (sym h) t ∙ and-true r)

        pub different : c ≡ Different → false ≡ same_args (args_at es a) (args_at es b)
        different g = lasts-differ g refl

        pub alike : c ≡ Alike → {r : Bool} → r ≡ same_args (args_at es p) (args_at es q) → r ≡ same_args (args_at es a) (args_at es b)
        alike g = lasts-alike g refl

        pub inner-earlier : {m n : ℕ} → c ≡ Inner m n → (m < a) × (n < b)
        inner-earlier g =
            let (u, v) = inner-kinds x y (sym says ∙ g) in
            (nest-earlier es a is e u, nest-earlier es b are f v)

        module _ {m n : ℕ} (g : c ≡ Inner m n) {i : Bool} (same : i ≡ same_tree (tree_at es m) (tree_at es n)) where
          pub inner-differ : i ≡ false → i ≡ same_args (args_at es a) (args_at es b)
          inner-differ h = h ∙ lasts-differ g (sym same ∙ h)

          pub inner-alike : i ≡ true → {r : Bool} → r ≡ same_args (args_at es p) (args_at es q) → r ≡ same_args (args_at es a) (args_at es b)
          inner-alike h = lasts-alike g (sym same ∙ h)
