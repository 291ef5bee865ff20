use native.Mathlib.Omega.{arith}
use Rattle.places.proofs.Words.{small, place-is}
use Rattle.places.proofs.place_of.Goals as goal

pub overflow_cast-result : goal.overflow_cast-result
overflow_cast-result c = omega (arith, (small _ _ c.requires.table_value c.requires.starts_value _ c.requires.rule_bound _ c.ruleset_of-set.ensures.answers _ c.parts_of-parts.ensures.answers).sets)

pub offset_bounds-starts-set : goal.offset_bounds-starts-set
offset_bounds-starts-set c = omega (arith, (small _ _ c.requires.table_value c.requires.starts_value _ c.requires.rule_bound _ c.ruleset_of-set.ensures.answers _ c.parts_of-parts.ensures.answers).sets)

pub bounds-starts-set : goal.bounds-starts-set
bounds-starts-set c = (small _ _ c.requires.table_value c.requires.starts_value _ c.requires.rule_bound _ c.ruleset_of-set.ensures.answers _ c.parts_of-parts.ensures.answers).there

pub overflow_sub-result : goal.overflow_sub-result
overflow_sub-result c = (small _ _ c.requires.table_value c.requires.starts_value _ c.requires.rule_bound _ c.ruleset_of-set.ensures.answers _ c.parts_of-parts.ensures.answers).within

pub overflow_cast-result-2 : goal.overflow_cast-result-2
overflow_cast-result-2 c = omega (arith, (small _ _ c.requires.table_value c.requires.starts_value _ c.requires.rule_bound _ c.ruleset_of-set.ensures.answers _ c.parts_of-parts.ensures.answers).from)

pub overflow_cast-result-3 : goal.overflow_cast-result-3
overflow_cast-result-3 c = omega (arith, (small _ _ c.requires.table_value c.requires.starts_value _ c.requires.rule_bound _ c.ruleset_of-set.ensures.answers _ c.parts_of-parts.ensures.answers).to)

pub returns : goal.returns
returns c = place-is _ _ c.requires.table_value c.requires.starts_value _ c.requires.rule_bound _ c.ruleset_of-set.ensures.answers _ c.parts_of-parts.ensures.answers
