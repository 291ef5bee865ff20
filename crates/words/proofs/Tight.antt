-- How tight the promises are: any two answers that a function's contract allows on the same arguments are equal. Each law is
-- stated over the contract itself, `Post`, so a weaker contract breaks it.
use mathlib.Core.Path.{◌≡◌}
use mathlib.Core.List.{List}
use Prim.Native.Nat.{ℕ}
use Rattle.plain.proofs.Answers.{one_answer}
use Rattle.words.proofs.tree_words.Reads as tree-words
use Rattle.words.proofs.write_tree.Reads as write-tree

pub tree_words-tight : (κs a : _) (r s : ℕ) (x y : _) → tree-words.Post κs a r x → tree-words.Post κs a s y → r ≡ s
tree_words-tight κs a r s x y = one_answer

-- with the lent answer as it stands at exit
pub write_tree-tight : (κs a : _) (r s : ℕ) (x y : _) → write-tree.Post κs a r x → write-tree.Post κs a s y
    → ◌≡◌ {A = List ℕ × ℕ} (x.1.1.1.0.now, r) (y.1.1.1.0.now, s)
write_tree-tight κs a r s x y = one_answer
