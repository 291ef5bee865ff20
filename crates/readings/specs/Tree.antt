-- A match and its arguments, as data. An argument has its span and a kind: expression, or nested with its match.
use Rattle.std.specs.Prelude.{Bool, true, false, ◌&&◌, ℕ, ◌+◌, eqb}

mutual
  -- a match: its ruleset, its rule's number there, its arguments
  pub data Tree : Type 0 where
    node : ℕ → ℕ → Args → Tree

  -- arguments in order, each with start and end
  pub data Args : Type 0 where
    end : Args
    expr : ℕ → ℕ → Args → Args
    nest : ℕ → ℕ → Tree → Args → Args

-- the Rust's `is_same`: same ruleset, rule and argument spans, all the way down
abbrev mutual
  pub same_tree : Tree → Tree → Bool
  same_tree (node r k a) (node s j b) = eqb r s && eqb k j && same_args a b

  pub same_args : Args → Args → Bool
  same_args end end = true
  same_args end (expr x y b) = false
  same_args end (nest x y u b) = false
  same_args (expr x y a) end = false
  same_args (expr x y a) (expr z w b) = eqb x z && eqb y w && same_args a b
  same_args (expr x y a) (nest z w u b) = false
  same_args (nest x y t a) end = false
  same_args (nest x y t a) (expr z w b) = false
  same_args (nest x y t a) (nest z w u b) = eqb x z && eqb y w && same_tree t u && same_args a b

-- a match with every start and end so much further on, nested ones too, and nothing else
abbrev mutual
  pub moved : ℕ → Tree → Tree
  moved d (node r k a) = node r k (moved_args d a)

  pub moved_args : ℕ → Args → Args
  moved_args d end = end
  moved_args d (expr x y a) = expr (d + x) (d + y) (moved_args d a)
  moved_args d (nest x y t a) = nest (d + x) (d + y) (moved d t) (moved_args d a)
