-- Answer words are read in one way: a tree says where it ends, so words that are those of a count and of trees are those of no
-- others. So what is said of the trees whose words an answer has is said of the answer.
use mathlib.Core.Path.{◌≡◌, refl, sym, ap, ap₂, ◌∙◌}
use mathlib.Core.List.{List, [], ◌∷◌, ◌++◌, map, append_assoc}
use Prim.Native.Nat.{ℕ}
use native.Mathlib.Nat.{suc_inj}
use native.Mathlib.Omega.{arith}
use lib.ListN.{length}
use Rattle.plain.specs.Buffers.{at_start}
use Rattle.plain.specs.Told.{Told}
use Rattle.readings.specs.Tree.{Tree, node, Args, end, expr, nest, moved}
use Rattle.readings.specs.Answer.{arg_count, tree_words, arg_words, all_words, words_of}
use Rattle.readings.specs.Shift.{answered, refused, Shifted, ShiftedWords}

-- the first of words, and the others
abbrev first : List ℕ → ℕ
first [] = 0
first (x ∷ xs) = x

abbrev others : List ℕ → List ℕ
others [] = []
others (x ∷ xs) = xs

mutual
  -- whatever stands behind them
  tree-one : (t u : Tree) (xs ys : List ℕ) → tree_words t ++ xs ≡ tree_words u ++ ys → (t ≡ u) × (xs ≡ ys)
  tree-one (node r k a) (node s j b) xs ys e =
      let same : r ≡ s = ap first e in
      let rule : k ≡ j = ap (λ (l : List ℕ). first (others l)) e in
      let many : arg_count a ≡ arg_count b = ap (λ (l : List ℕ). first (others (others l))) e in
      let (p, q) = args_one a b xs ys many (ap (λ (l : List ℕ). others (others (others l))) e) in
      (cc (same, rule, p), q)

  args_one : (a b : Args) (xs ys : List ℕ) → arg_count a ≡ arg_count b → arg_words a ++ xs ≡ arg_words b ++ ys → (a ≡ b) × (xs ≡ ys)
  args_one end end xs ys n e = (refl, e)
  args_one end (expr x y b) xs ys n e = absurd (omega (arith, n))
  args_one end (nest x y u b) xs ys n e = absurd (omega (arith, n))
  args_one (expr x y a) end xs ys n e = absurd (omega (arith, n))
  args_one (expr x y a) (expr z w b) xs ys n e =
      let start : x ≡ z = ap (λ (l : List ℕ). first (others l)) e in
      let stop : y ≡ w = ap (λ (l : List ℕ). first (others (others l))) e in
      let (p, q) = args_one a b xs ys (suc_inj n) (ap (λ (l : List ℕ). others (others (others l))) e) in
      (cc (start, stop, p), q)
  args_one (expr x y a) (nest z w u b) xs ys n e = let kind : ◌≡◌ {A = ℕ} 0 1 = ap first e in absurd (omega (arith, kind))
  args_one (nest x y t a) end xs ys n e = absurd (omega (arith, n))
  args_one (nest x y t a) (expr z w b) xs ys n e = let kind : ◌≡◌ {A = ℕ} 1 0 = ap first e in absurd (omega (arith, kind))
  args_one (nest x y t a) (nest z w u b) xs ys n e =
      let start : x ≡ z = ap (λ (l : List ℕ). first (others l)) e in
      let stop : y ≡ w = ap (λ (l : List ℕ). first (others (others l))) e in
      let behind = sym (append_assoc (tree_words t) (arg_words a) xs) ∙ ap (λ (l : List ℕ). others (others (others l))) e ∙ append_assoc (tree_words u) (arg_words b) ys in
      let (i, f) = tree-one t u (arg_words a ++ xs) (arg_words b ++ ys) behind in
      let (p, q) = args_one a b xs ys (suc_inj n) f in
      (cc (start, stop, i, p), q)

all_one : (ts us : List Tree) (xs ys : List ℕ) → length ts ≡ length us → all_words ts ++ xs ≡ all_words us ++ ys → ts ≡ us
unfolding all_words
all_one [] [] xs ys n e = refl
all_one [] (u ∷ us) xs ys n e = absurd (omega (arith, n))
all_one (t ∷ ts) [] xs ys n e = absurd (omega (arith, n))
all_one (t ∷ ts) (u ∷ us) xs ys n e =
    let behind = sym (append_assoc (tree_words t) (all_words ts) xs) ∙ e ∙ append_assoc (tree_words u) (all_words us) ys in
    let (p, f) = tree-one t u (all_words ts ++ xs) (all_words us ++ ys) behind in
    ap₂ (λ (v : Tree) (l : List Tree). v ∷ l) p (all_one ts us xs ys (suc_inj n) f)

-- a buffer at whose start an answer stands has one count and one list of trees there
pub answer-one : (g h : ℕ) (ts us : List Tree) (b c : List ℕ) → at_start (words_of g ts) b ≡ at_start (words_of h us) c → (g ≡ h) × (ts ≡ us)
unfolding words_of
answer-one g h ts us b c e =
    let many : length ts ≡ length us = ap first e in
    let count : g ≡ h = ap (λ (l : List ℕ). first (others l)) e in
    (count, all_one ts us _ _ many (ap (λ (l : List ℕ). others (others l)) e))

-- so of any trees whose words the one answer has, the other has the words moved
pub shifted-words : {d : ℕ} {b : List ℕ} {here there : Told} → Shifted d b here there → here.number ≡ 0 → (count : ℕ) (trees : List Tree)
    → here.buffer ≡ at_start (words_of count trees) b → there.buffer ≡ at_start (words_of count (map (moved d) trees)) b
shifted-words {d} {b} {here} {there} s zero count trees e = go s.answer
  where
    go : ShiftedWords d b here there → there.buffer ≡ at_start (words_of count (map (moved d) trees)) b
    go (answered g ts _ p q) =
        let (i, j) = answer-one g count ts trees b b (sym p ∙ e) in
        q ∙ ap₂ (λ (n : ℕ) (l : List Tree). at_start (words_of n (map (moved d) l)) b) i j
    go (refused n _ _) = absurd (n zero)
