-- The sizes, one after the other.
use borrow.Author.Tests.{le-leb, lt-leb}
use Rattle.defs.specs.Table.{in_range}
use Rattle.acceptance.proofs.sizes_fit.Goals as goal

pub returns-then-sets-lt1 : goal.returns-then-sets-lt1
unfolding in_range
returns-then-sets-lt1 c = rw (in_range, lt-leb 1 c.args.sets c.if-sets-lt1.true)

pub returns-then-sets-gt-MOST_RULESETS : goal.returns-then-sets-gt-MOST_RULESETS
unfolding in_range
returns-then-sets-gt-MOST_RULESETS c = rw (in_range, le-leb 1 c.args.sets c.if-sets-lt1.false, lt-leb c.args.sets 32 c.if-sets-gt-MOST_RULESETS.true)

pub returns-then-rules-gt-MOST_RULES : goal.returns-then-rules-gt-MOST_RULES
unfolding in_range
returns-then-rules-gt-MOST_RULES c = rw (in_range, le-leb 1 c.args.sets c.if-sets-lt1.false, le-leb c.args.sets 32 c.if-sets-gt-MOST_RULESETS.false, lt-leb c.args.rules 512 c.if-rules-gt-MOST_RULES.true)

pub returns : goal.returns
unfolding in_range
returns c = rw (in_range, le-leb 1 c.args.sets c.if-sets-lt1.false, le-leb c.args.sets 32 c.if-sets-gt-MOST_RULESETS.false, le-leb c.args.rules 512 c.if-rules-gt-MOST_RULES.false)
