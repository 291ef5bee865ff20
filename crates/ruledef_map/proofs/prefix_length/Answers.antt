use borrow.Author.Rules.{rules}
use mathlib.Core.Path.{refl, sym, ap, ◌∙◌}
use mathlib.Core.List.{List}
use Prim.Native.Nat.{◌<◌}
use native.Mathlib.Omega.{arith}
use lib.ListN.{length}
use Rattle.ruledef_map.specs.RuledefMap.{leading, prefix_bytes}
use Rattle.defs.specs.declared.ruledef.Part.{Part}
use Rattle.defs.proofs.Words.{parts_whole, parts_within}
use Rattle.ruledef_map.proofs.Prefixes.{continued, continued-whole, continued-full, met-stop, met-short, met-other, met-same, ended-stop}
use Rattle.ruledef_map.proofs.prefix_length.Goals as goal

pub loop-at-init : goal.loop-at-init
loop-at-init c = (
  parts_within _ _ _ c.parts_of-parts.ensures.answers,
  (
    omega arith,
    ap (λ (ps : List Part). continued ps (prefix_bytes c.args.prefix) 0) (parts_whole _ _ _ c.parts_of-parts.ensures.answers) ∙ continued-whole _ _,
  ),
)

pub returns-in-Whitespace : goal.returns-in-Whitespace
unfolding leading
returns-in-Whitespace c =
    met-stop _ _ _ c.loop-at.invariant.0 c.loop-at-test.true Part.Whitespace (sym c.in-Whitespace.is ∙ c.part_at.ensures.answers) (λ ps. refl) _ _ ∙ c.loop-at.invariant.1.1

pub returns-in-Expression : goal.returns-in-Expression
unfolding leading
returns-in-Expression c =
    met-stop _ _ _ c.loop-at.invariant.0 c.loop-at-test.true Part.Expression (sym c.in-Expression.is ∙ c.part_at.ensures.answers) (λ ps. refl) _ _ ∙ c.loop-at.invariant.1.1

pub returns-in-Nested : goal.returns-in-Nested
unfolding leading
returns-in-Nested c =
    met-stop _ _ _ c.loop-at.invariant.0 c.loop-at-test.true (Part.Nested c.in-Nested.field-0) (sym c.in-Nested.is ∙ c.part_at.ensures.answers) (λ ps. refl) _ _ ∙ c.loop-at.invariant.1.1

pub returns-then-same-ge-FULL : goal.returns-then-same-ge-FULL
returns-then-same-ge-FULL c = continued-full _ _ _ c.if-same-ge-FULL.true ∙ c.loop-at.invariant.1.1

pub returns-then-prefix-same : goal.returns-then-prefix-same
returns-then-prefix-same c =
    met-short _ _ _ c.loop-at.invariant.0 c.loop-at-test.true c.in-Exact.b (sym c.in-Exact.is ∙ c.part_at.ensures.answers) c.args.prefix _ c.if-same-ge-FULL.false c.if-prefix-same.true
    ∙ c.loop-at.invariant.1.1

pub returns-then-to_ascii_lowercase-prefix : goal.returns-then-to_ascii_lowercase-prefix
returns-then-to_ascii_lowercase-prefix c =
    let room : c.loop-at.same < length c.args.prefix.bytes = search rules in
    met-other _ _ _ c.loop-at.invariant.0 c.loop-at-test.true c.in-Exact.b (sym c.in-Exact.is ∙ c.part_at.ensures.answers) c.args.prefix _ c.if-same-ge-FULL.false c.if-prefix-same.false room _ c.to_ascii_lowercase.ensures.answers c.if-to_ascii_lowercase-prefix.true
    ∙ c.loop-at.invariant.1.1

pub loop-at-preserved : goal.loop-at-preserved
loop-at-preserved c =
    let room : c.loop-at.same < length c.args.prefix.bytes = search rules in (
      c.loop-at.invariant.0,
      (
        omega arith,
        met-same _ _ _ c.loop-at.invariant.0 c.loop-at-test.true c.in-Exact.b (sym c.in-Exact.is ∙ c.part_at.ensures.answers) c.args.prefix _ c.if-same-ge-FULL.false c.if-prefix-same.false room _ c.to_ascii_lowercase.ensures.answers c.if-to_ascii_lowercase-prefix.false
            ∙ c.loop-at.invariant.1.1,
      ),
    )

pub returns : goal.returns
returns c = ended-stop _ _ _ c.loop-at.invariant.0 c.loop-at-test.false _ _ ∙ c.loop-at.invariant.1.1
