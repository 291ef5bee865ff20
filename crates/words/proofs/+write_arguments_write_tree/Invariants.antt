use Rattle.std.proofs.Common.{◌+◌, ◌*◌}
use Rattle.words.proofs.+write_arguments_write_tree.Given as goal

abbrev pub decreases-write_arguments : goal.decreases-write_arguments
decreases-write_arguments l = 2 * l.a

abbrev pub decreases-write_tree : goal.decreases-write_tree
decreases-write_tree l = 2 * l.m + 1
