-- What comes out of a walk: exact counts, the greatest-count cut, and the answer as words.
-- In words: docs/MANUAL.md, 4 and 7.2.
use Rattle.std.specs.Prelude.{Bool, true, false, List, [], ◌∷◌, ◌++◌, map, ℕ, suc, ◌+◌, max, eqb, length}
use Rattle.plain.specs.Lists.{keep_if, count}
use Rattle.defs.specs.declared.ruledef.Part.{Part}
use Rattle.defs.specs.declared.ruledef.Part.TheVariants.{Exact, Whitespace, Expression, Nested}
use Rattle.readings.specs.Tree.{Tree, node, Args, end, expr, nest}
use Rattle.readings.specs.Scene.{Scene}

abbrev pub is_exact : Part → Bool
is_exact (Exact b) = true
is_exact Whitespace = false
is_exact Expression = false
is_exact (Nested r) = false

-- a rule's own number of exact parts
unfoldable pub exact_parts : List Part → ℕ
exact_parts ps = count is_exact ps

-- The exact count of a match adds the counts of its nested matches to its rule's own number of exact parts.
abbrev mutual
  pub exact_count : Scene → Tree → ℕ
  exact_count s (node r k a) = exact_parts (s.parts r k) + nested_count s a

  pub nested_count : Scene → Args → ℕ
  nested_count s end = 0
  nested_count s (expr x y a) = nested_count s a
  nested_count s (nest x y t a) = exact_count s t + nested_count s a

unfoldable pub greatest : List ℕ → ℕ
greatest [] = 0
greatest (n ∷ ns) = max n (greatest ns)

-- the greatest exact count among matches, and the matches that have it, in the walk's order
unfoldable pub greatest_count : Scene → List Tree → ℕ
greatest_count s ts = greatest (map (exact_count s) ts)

unfoldable pub best : Scene → List Tree → List Tree
best s ts = keep_if (λ t. eqb (exact_count s t) (greatest_count s ts)) ts

-- how many arguments a match has
abbrev pub arg_count : Args → ℕ
arg_count end = 0
arg_count (expr x y a) = suc (arg_count a)
arg_count (nest x y t a) = suc (arg_count a)

-- each tree: ruleset, rule, argument count; per argument 0 or 1 (expression or nested), start, end, and the inner tree
-- if nested
abbrev mutual
  pub tree_words : Tree → List ℕ
  tree_words (node r k a) = r ∷ k ∷ arg_count a ∷ arg_words a

  pub arg_words : Args → List ℕ
  arg_words end = []
  arg_words (expr x y a) = 0 ∷ x ∷ y ∷ arg_words a
  arg_words (nest x y t a) = 1 ∷ x ∷ y ∷ (tree_words t ++ arg_words a)

unfoldable pub all_words : List Tree → List ℕ
all_words [] = []
all_words (t ∷ ts) = tree_words t ++ all_words ts

-- number of matches, greatest count, then each tree
unfoldable pub words_of : ℕ → List Tree → List ℕ
words_of g ts = length ts ∷ g ∷ all_words ts

abbrev pub answer_words : Scene → List Tree → List ℕ
answer_words s ts = words_of (greatest_count s ts) (best s ts)
