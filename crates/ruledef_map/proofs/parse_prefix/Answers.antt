use mathlib.Core.Path.{refl, ap, sym, ◌∙◌}
use mathlib.Core.Bool.{not}
use native.Mathlib.Omega.{arith}
use Rattle.ruledef_map.proofs.Prefixes.{gathered_none, gathered-space, gathered-solid, prefix-full, prefix-end}
use Rattle.ruledef_map.proofs.parse_prefix.Goals as goal
use Rattle.ruledef_map.proofs.parse_prefix.Goals.{then-counts, else-counts}

pub loop-b-init : goal.loop-b-init
loop-b-init c = gathered_none _

pub returns-then-count-ge-MAX_PREFIX_SIZE : goal.returns-then-count-ge-MAX_PREFIX_SIZE
returns-then-count-ge-MAX_PREFIX_SIZE c = record { answers = prefix-full _ _ _ _ c.loop-b.invariant (omega (arith, c.if-count-ge-MAX_PREFIX_SIZE.true)) }

pub loop-b-preserved : goal.loop-b-preserved
loop-b-preserved c =
    elim c.if-counts.branch [
      | then-counts w ↦
          rw (w.bytes-is, w.count-is)
          (gathered-solid _ _ c.loop-b-test.true _ _ _ refl c.loop-b.invariant _ (ap not (sym c.is_whitespace-counts.ensures.answers ∙ w.if-counts.true)) w.to_ascii_lowercase.ensures.answers (omega (arith, c.if-count-ge-MAX_PREFIX_SIZE.false)))
      | else-counts w ↦
          rw (w.bytes-is, w.count-is)
          (gathered-space _ _ c.loop-b-test.true _ _ _ refl c.loop-b.invariant (ap not (sym c.is_whitespace-counts.ensures.answers ∙ w.if-counts.false)))
    ]

pub returns : goal.returns
returns c = record { answers = prefix-end _ _ _ _ c.loop-b.invariant c.loop-b-test.false }
