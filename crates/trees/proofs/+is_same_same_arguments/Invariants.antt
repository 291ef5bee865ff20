-- The cycle of the test of matches. The first match's record number falls; the second's stays in the pool.
use Rattle.std.proofs.Common.{◌+◌, ◌*◌}
use Rattle.trees.proofs.+is_same_same_arguments.Given as goal

abbrev pub decreases-is_same : goal.decreases-is_same
decreases-is_same l = 2 * l.a + 1

abbrev pub decreases-same_arguments : goal.decreases-same_arguments
decreases-same_arguments l = 2 * l.a
