use native.Mathlib.Omega.{arith}
use Rattle.trials.proofs.Telling.{words_of, tell_none, tell-long, tell-matched}
use Rattle.trials.proofs.tell.Goals as goal

pub returns-then-measure-eq0 : goal.returns-then-measure-eq0
returns-then-measure-eq0 c = tell_none _ _ _ _ _ _ c.measure_answer-measure.ensures.answers c.if-measure-eq0.true

pub overflow_cast-result : goal.overflow_cast-result
overflow_cast-result c = omega (arith, words_of _ 0 _ 0 c.args.answer.now _ c.measure_answer-measure.ensures.answers, c.requires.words)

pub returns-then-answer-words : goal.returns-then-answer-words
returns-then-answer-words c = tell-long _ _ _ _ _ _ c.measure_answer-measure.ensures.answers c.if-measure-eq0.false c.if-answer-words.true

pub overflow_cast-result-2 : goal.overflow_cast-result-2
overflow_cast-result-2 c = omega (arith, words_of _ 0 _ 0 c.args.answer.now _ c.measure_answer-measure.ensures.answers, c.requires.words)

pub returns : goal.returns
returns c = tell-matched _ _ _ _ _ _ c.measure_answer-measure.ensures.answers c.if-measure-eq0.false _ c.if-answer-words.false c.write_answer.ensures.answers
