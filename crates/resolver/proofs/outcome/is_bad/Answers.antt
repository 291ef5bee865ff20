-- `resolver::outcome::is_bad` meets its contract: each answer rewrites with the tests of the kind that led to it.
use mathlib.Core.Path.{sym, ◌∙◌}
use borrow.Author.Tests.{ne_eqb}
use Rattle.resolver.specs.Outcome.{is_bad}
use Rattle.resolver.proofs.outcome.is_bad.Goals as goal

pub returns-then-kind : goal.returns-then-kind
unfolding is_bad
returns-then-kind c = record { bad = rw (sym c.kind_in-kind.ensures.kind ∙ c.if-kind.true) }

pub returns-then-kind-2 : goal.returns-then-kind-2
unfolding is_bad
returns-then-kind-2 c = record { bad = rw (c.size-size.ensures.size, sym c.kind_in-kind.ensures.kind ∙ c.if-kind-2.true) }

pub returns : goal.returns
unfolding is_bad
returns c = record {
  bad =
      let not-sized = rw c.kind_in-kind.ensures.kind at c.if-kind-2.false in
      let not-unresolved = rw c.kind_in-kind.ensures.kind at c.if-kind.false in
      rw (c.size-size.ensures.size, ne_eqb _ _ not-sized, ne_eqb _ _ not-unresolved);
}
