-- What reading a tree from the pool's records asks.
use Rattle.std.specs.Prelude.{List, ℕ, ◌≤◌, ◌<◌, length}
use Rattle.readings.specs.Tree.{Tree, Args, end}
use Rattle.readings.specs.Answer.{tree_words, arg_words}
use Rattle.pool.specs.Meaning.{Entry, unwind, chain_at, tree_at, Stored, entries}

-- arguments up to a last one, by its number from 1; 0 is none
abbrev pub args_at : List Entry → ℕ → Args
args_at es a = unwind (chain_at es a) end

-- how many answer words a tree has, and arguments have
abbrev pub tree_length : Tree → ℕ
tree_length t = length (tree_words t)

abbrev pub args_length : Args → ℕ
args_length a = length (arg_words a)

-- a match of the pool, of which a number, such as how many words it has, is bounded
pub record TreeAsked (size : Tree → ℕ) (most : ℕ) (store : List ℕ) (used m : ℕ) : Type 0 where
  pub stored : Stored store used
  pub below : m < used
  pub small : size (tree_at (entries store used) m) ≤ most

-- and arguments up to a last one
pub record ArgsAsked (size : Args → ℕ) (most : ℕ) (store : List ℕ) (used a : ℕ) : Type 0 where
  pub stored : Stored store used
  pub within : a ≤ used
  pub small : size (args_at (entries store used) a) ≤ most
