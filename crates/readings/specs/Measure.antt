-- Measures of a tree and of a line, by which the answer's words are bounded.
use Rattle.std.specs.Prelude.{not, ℕ, suc, ◌+◌, ◌<◌, max, length}
use mathlib.Core.List.{List, Memᴰ}
use Rattle.plain.specs.Below.{count_below}
use Rattle.token.specs.Token.{is_whitespace}
use Rattle.syntax.specs.Walker.{byte_at}
use Rattle.readings.specs.Tree.{Tree, node, Args, end, expr, nest}

-- the pool records of a tree: one for each match in it and one for each argument
abbrev mutual
  pub tree_records : Tree → ℕ
  tree_records (node r k a) = suc (arg_records a)

  pub arg_records : Args → ℕ
  arg_records end = 0
  arg_records (expr x y a) = suc (arg_records a)
  arg_records (nest x y t a) = suc (tree_records t + arg_records a)

-- how deep its nested matches stand; 0 if it has none
abbrev mutual
  pub tree_depth : Tree → ℕ
  tree_depth (node r k a) = arg_depth a

  pub arg_depth : Args → ℕ
  arg_depth end = 0
  arg_depth (expr x y a) = arg_depth a
  arg_depth (nest x y t a) = max (suc (tree_depth t)) (arg_depth a)

-- the non-whitespace bytes before a place of a line, and in all of it
unfoldable pub solids_before : List ℕ → ℕ → ℕ
solids_before line p = count_below p (λ i. not (is_whitespace (byte_at line i)))

abbrev pub solids : List ℕ → ℕ
solids line = solids_before line (length line)

-- words that fit 32 bits
abbrev pub Fit : List ℕ → Type 0
Fit ws = (w : ℕ) → Memᴰ w ws → w < 4294967296
