use Rattle.std.proofs.Common.{◌+◌, ◌*◌}
use Rattle.words.proofs.+argument_words_tree_words.Given as goal

abbrev pub decreases-argument_words : goal.decreases-argument_words
decreases-argument_words l = 2 * l.a

abbrev pub decreases-tree_words : goal.decreases-tree_words
decreases-tree_words l = 2 * l.m + 1
