-- Words written one list after another. Arguments' words are those of their records in order; lists that are put into a
-- buffer each after the last are put there as one (`put-more` of `plain`).
use Rattle.std.specs.Prelude.{Option, Some, None}
use mathlib.Core.Path.{◌≡◌, refl, sym, ap, subst, ◌∙◌}
use mathlib.Core.List.Memᴰ
use mathlib.Core.List.{List, [], ◌∷◌, ◌++◌, append_assoc, append-nil, Memᴰ}
use Prim.Native.Nat.{ℕ, ◌+◌, ◌≤◌, ◌<◌}
use native.Mathlib.Omega.{arith}
use lib.ListN.{length, length-append}
use Rattle.plain.specs.Buffers.{put_after}
use Rattle.plain.proofs.Buffers.{put-none, put-end, put-more}
use Rattle.readings.specs.Tree.{Tree, Args, end, expr, nest, moved, moved_args}
use Rattle.readings.specs.Answer.{arg_count, tree_words, arg_words}
use Rattle.readings.specs.Measure.{Fit}
use Rattle.readings.proofs.Moved.{args-moved, length-moved-args}
use Rattle.pool.specs.Meaning.{Entry, tree_at, Heads, Lasts}
use Rattle.pool.specs.declared.ArgumentKind.{ArgumentKind}
use Rattle.pool.specs.declared.ArgumentKind.TheVariants.{Expr, Nested}
use Rattle.pool.specs.declared.Argument.{Argument}
use Rattle.pool.specs.declared.Head.{Head}
use Rattle.trees.specs.Asked.{args_at, tree_length, args_length}
use Rattle.trees.proofs.Arguments.{joined, one, none_before, one-after, expr-after, nest-after}
use Rattle.trees.proofs.Sizes.{Sized, size-before, size_nest}

-- ---- the words of arguments one after another

words-joined : (a b : Args) → arg_words (joined a b) ≡ arg_words a ++ arg_words b
words-joined end b = refl
words-joined (expr x y a) b = ap (λ (l : List ℕ). 0 ∷ x ∷ y ∷ l) (words-joined a b)
words-joined (nest x y t a) b = ap (λ (l : List ℕ). 1 ∷ x ∷ y ∷ (tree_words t ++ l)) (words-joined a b) ∙ ap (λ (l : List ℕ). 1 ∷ x ∷ y ∷ l) (sym (append_assoc (tree_words t) (arg_words a) (arg_words b)))

pub words-sized : Sized tree_length args_length
words-sized = record {
  none = refl;
  joins = λ a b. ap length (words-joined a b) ∙ length-append (arg_words a) (arg_words b);
  within = λ r k a. omega arith;
  inner = λ x y t. omega (arith, length-append (tree_words t) []);
}

-- a nested argument has three words of its own, and its match's
pub words-nest : {es : List Entry} {a : ℕ} {l : Option (Argument × ℕ)} → Lasts es a l → {x : Argument} {p : ℕ} → l ≡ Some (x, p) → {m : ℕ} → x.kind ≡ Nested m
    → args_length (args_at es a) ≡ args_length (args_at es p) + 3 + tree_length (tree_at es m)
words-nest {es} is y {m} e = omega (arith, size_nest words-sized is y e, length-append (tree_words (tree_at es m)) [])

-- ---- moved by a base

moved-joined : (d : ℕ) (a b : Args) → moved_args d (joined a b) ≡ joined (moved_args d a) (moved_args d b)
moved-joined d end b = refl
moved-joined d (expr x y a) b = ap (expr (d + x) (d + y)) (moved-joined d a b)
moved-joined d (nest x y t a) b = ap (nest (d + x) (d + y) (moved d t)) (moved-joined d a b)

module _ {es : List Entry} (base : ℕ) {a : ℕ} {l : Option (Argument × ℕ)} (is : Lasts es a l) {x : Argument} {p : ℕ} (y : l ≡ Some (x, p)) where
  -- the words of the arguments before, and of the last one
  words-after : (one : Args) → args_at es a ≡ joined (args_at es p) one
      → arg_words (moved_args base (args_at es a)) ≡ arg_words (moved_args base (args_at es p)) ++ arg_words (moved_args base one)
  words-after one e = ap (λ (u : Args). arg_words (moved_args base u)) e ∙ ap arg_words (moved-joined base (args_at es p) one) ∙ words-joined (moved_args base (args_at es p)) (moved_args base one)

  expr-words : x.kind ≡ Expr → arg_words (moved_args base (args_at es a)) ≡ arg_words (moved_args base (args_at es p)) ++ (0 ∷ (base + x.start) ∷ (base + x.end) ∷ [])
  expr-words j = words-after (expr x.start x.end end) (expr-after es a is y j)

  nest-words : {m : ℕ} → x.kind ≡ Nested m
      → arg_words (moved_args base (args_at es a)) ≡ arg_words (moved_args base (args_at es p)) ++ (1 ∷ (base + x.start) ∷ (base + x.end) ∷ tree_words (moved base (tree_at es m)))
  nest-words {m} j =
      words-after (nest x.start x.end (tree_at es m) end) (nest-after es a is y j)
      ∙ ap (λ (l : List ℕ). arg_words (moved_args base (args_at es p)) ++ (1 ∷ (base + x.start) ∷ (base + x.end) ∷ l)) (append-nil (tree_words (moved base (tree_at es m))))

  -- the place after the arguments before, which is the same under every base
  pub before-end : {b : List ℕ} {n : ℕ} (at : ℕ) (buffer : List ℕ) → (b, n) ≡ put_after at (arg_words (moved_args base (args_at es p))) buffer → n ≡ at + args_length (args_at es p)
  before-end at buffer e = put-end at (arg_words (moved_args base (args_at es p))) buffer e ∙ ap (λ (n : ℕ). at + n) (length-moved-args base (args_at es p))

  -- each part of words that fit fits
  module _ (fit : Fit (arg_words (moved_args base (args_at es a)))) where
    pub fit-before : Fit (arg_words (moved_args base (args_at es p)))
    fit-before w m = fit w (subst (Memᴰ w) (sym (words-after (one es x) (one-after es a is y))) (Memᴰ.append_left (arg_words (moved_args base (one es x))) m))

    pub fit-span : (base + x.start < 4294967296) × (base + x.end < 4294967296)
    fit-span = go x.kind refl
      where
        spans : (k : ℕ) (ws : List ℕ) → arg_words (moved_args base (args_at es a)) ≡ arg_words (moved_args base (args_at es p)) ++ (k ∷ (base + x.start) ∷ (base + x.end) ∷ ws)
            → (base + x.start < 4294967296) × (base + x.end < 4294967296)
        spans k ws e = (
          fit (base + x.start) (subst (Memᴰ (base + x.start)) (sym e) (Memᴰ.append_right (arg_words (moved_args base (args_at es p))) (Memᴰ.tail (Memᴰ.head refl)))),
          fit (base + x.end) (subst (Memᴰ (base + x.end)) (sym e) (Memᴰ.append_right (arg_words (moved_args base (args_at es p))) (Memᴰ.tail (Memᴰ.tail (Memᴰ.head refl))))),
        )

        go : (k : ArgumentKind) → x.kind ≡ k → (base + x.start < 4294967296) × (base + x.end < 4294967296)
        go Expr j = spans 0 [] (expr-words j)
        go (Nested m) j = spans 1 (tree_words (moved base (tree_at es m))) (nest-words j)

    pub fit-inner : {m : ℕ} → x.kind ≡ Nested m → Fit (tree_words (moved base (tree_at es m)))
    fit-inner j w m = fit w (subst (Memᴰ w) (sym (nest-words j)) (Memᴰ.append_right (arg_words (moved_args base (args_at es p))) (Memᴰ.tail (Memᴰ.tail (Memᴰ.tail m)))))

pub fit-head : {es : List Entry} (base : ℕ) {m : ℕ} {h : Head} → Heads es m h → Fit (tree_words (moved base (tree_at es m))) → Fit (arg_words (moved_args base (args_at es h.args)))
fit-head base is fit w m = fit w (subst (λ (t : Tree). Memᴰ w (tree_words (moved base t))) (sym is.means) (Memᴰ.tail (Memᴰ.tail (Memᴰ.tail m))))

-- ---- the words of a match, and of arguments up to a last one

module _ {es : List Entry} (base at : ℕ) (buffer : List ℕ) where
  module _ {m : ℕ} {h : Head} (is : Heads es m h) (room : at + tree_length (tree_at es m) ≤ length buffer) where
    pub tree-put : {b d : List ℕ} {n k count : ℕ} → count ≡ arg_count (args_at es h.args)
        → (b, n) ≡ put_after at (h.set ∷ h.rule ∷ count ∷ []) buffer
        → (d, k) ≡ put_after n (arg_words (moved_args base (args_at es h.args))) b
        → (d, k) ≡ put_after at (tree_words (moved base (tree_at es m))) buffer
    tree-put {count = count} many e f =
        put-more at (h.set ∷ h.rule ∷ count ∷ []) (arg_words (moved_args base (args_at es h.args))) buffer (omega (arith, ap tree_length is.means)) e f
        ∙ ap (λ (n : ℕ). put_after at (h.set ∷ h.rule ∷ n ∷ arg_words (moved_args base (args_at es h.args))) buffer) (many ∙ sym (args-moved base (args_at es h.args)))
        ∙ ap (λ (t : Tree). put_after at (tree_words (moved base t)) buffer) (sym is.means)

  module _ {a : ℕ} {l : Option (Argument × ℕ)} (is : Lasts es a l) where
    pub none-put : l ≡ None → (buffer, at) ≡ put_after at (arg_words (moved_args base (args_at es a))) buffer
    none-put y = put-none at buffer ∙ ap (λ (u : Args). put_after at (arg_words (moved_args base u)) buffer) (sym (none_before es a is y))

    module _ {x : Argument} {p : ℕ} (y : l ≡ Some (x, p)) (room : at + args_length (args_at es a) ≤ length buffer) {b : List ℕ} {n : ℕ}
        (e : (b, n) ≡ put_after at (arg_words (moved_args base (args_at es p))) buffer) where
      abbrev ws : List ℕ
      ws = arg_words (moved_args base (args_at es p))

      many-before : length ws ≤ args_length (args_at es a)
      many-before = omega (arith, length-moved-args base (args_at es p), size-before words-sized is y)

      pub expr-put : x.kind ≡ Expr → {d : List ℕ} {k : ℕ} → (d, k) ≡ put_after n (0 ∷ (base + x.start) ∷ (base + x.end) ∷ []) b → (d, k) ≡ put_after at (arg_words (moved_args base (args_at es a))) buffer
      expr-put j f =
          put-more at ws (0 ∷ (base + x.start) ∷ (base + x.end) ∷ []) buffer (omega (arith, many-before)) e f
          ∙ ap (λ (l : List ℕ). put_after at l buffer) (sym (expr-words base is y j))

      pub nest-put : {m : ℕ} → x.kind ≡ Nested m → {c d : List ℕ} {i k : ℕ} → (c, i) ≡ put_after n (1 ∷ (base + x.start) ∷ (base + x.end) ∷ []) b → (d, k) ≡ put_after i (tree_words (moved base (tree_at es m))) c
          → (d, k) ≡ put_after at (arg_words (moved_args base (args_at es a))) buffer
      nest-put {m} j f g =
          let own : List ℕ = 1 ∷ (base + x.start) ∷ (base + x.end) ∷ [] in
          let tree = tree_words (moved base (tree_at es m)) in
          let size = words-nest is y j in
          let long = length-moved-args base (args_at es p) in
          put-more at (ws ++ own) tree buffer (omega (arith, length-append ws own))
          (put-more at ws own buffer (omega arith) e f) g
          ∙ ap (λ (l : List ℕ). put_after at l buffer) (append_assoc ws own tree ∙ sym (nest-words base is y j))
