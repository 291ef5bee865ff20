use native.Mathlib.Omega.{arith}
use Rattle.std.proofs.lemmas.Result.{err_from_is_err_and}
use mathlib.Core.Path.{refl, sym, ◌∙◌}
use Rattle.trials.proofs.Tries.{tries-start, words-there, try-ready, try-stands, tries-again, tries-stop, tries-skip, tries-spent, tries-end}
use Rattle.trials.proofs.try_rules.Goals as goal

pub loop-rule-init : goal.loop-rule-init
loop-rule-init c = tries-start c.requires.try_asked _ c.new.ensures.answers

pub bounds-lent-rule : goal.bounds-lent-rule
bounds-lent-rule c = omega (arith, (words-there c.requires.try_asked _ c.loop-rule.invariant (omega arith) _ refl).0, c.requires.prepared.leads.sized)

pub returns-then-so_far-fails : goal.returns-then-so_far-fails
returns-then-so_far-fails c = tries-spent c.requires.try_asked _ c.loop-rule.invariant (omega arith) _ refl c.requires.prepared.leads c.args.lent.now.bytes _ c.new-walker.ensures.answers.0 c.new-walker.ensures.answers.1 _ c.look_ahead-ahead.ensures.answers (sym c.in-Some.is ∙ c.failing_visits.ensures.answers) c.if-so_far-fails.true c.new.ensures.answers

pub loop-rule-preserved-in-Some : goal.loop-rule-preserved-in-Some
loop-rule-preserved-in-Some c = tries-skip c.requires.try_asked _ c.loop-rule.invariant (omega arith) _ refl c.requires.prepared.leads c.args.lent.now.bytes _ c.new-walker.ensures.answers.0 c.new-walker.ensures.answers.1 _ c.look_ahead-ahead.ensures.answers (sym c.in-Some.is ∙ c.failing_visits.ensures.answers) c.if-so_far-fails.false

pub bounds-places-rule : goal.bounds-places-rule
bounds-places-rule c = omega (arith, (words-there c.requires.try_asked _ c.loop-rule.invariant (omega arith) _ refl).1)

pub match_with_rule-requires-clause-ready : goal.match_with_rule-requires-clause-ready
match_with_rule-requires-clause-ready c = try-ready c.requires.try_asked _ c.loop-rule.invariant (omega arith) _ refl _ c.new-walker.ensures.answers.0 c.new-walker.ensures.answers.1 _ refl

pub match_with_rule-requires-clause-stands : goal.match_with_rule-requires-clause-stands
match_with_rule-requires-clause-stands c = try-stands c.requires.try_asked _ c.loop-rule.invariant (omega arith) _ refl _ c.new-walker.ensures.answers.0 c.new-walker.ensures.answers.1 _ refl

pub loop-rule-preserved : goal.loop-rule-preserved
loop-rule-preserved c = tries-again c.requires.try_asked _ c.loop-rule.invariant (omega arith) _ refl _ c.new-walker.ensures.answers.0 c.new-walker.ensures.answers.1 refl c.match_with_rule.ensures c.in_ok-so_far.was (omega (arith, c.match_with_rule.auto))

pub returns-in_err-so_far : goal.returns-in_err-so_far
returns-in_err-so_far c =
    let (error, is, gives) = err_from_is_err_and c.from_residual.result c.from_residual.ensures.1 in
    rw (is, gives) (tries-stop c.requires.try_asked _ c.loop-rule.invariant (omega arith) _ refl _ c.new-walker.ensures.answers.0 c.new-walker.ensures.answers.1 refl c.match_with_rule.ensures c.in_err-so_far.was c.new.ensures.answers)

pub returns : goal.returns
returns c = tries-end c.requires.try_asked _ c.loop-rule.invariant (omega arith) c.new.ensures.answers _ refl refl
