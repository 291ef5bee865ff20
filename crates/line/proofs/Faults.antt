-- The line's fault, as a caller of the check is told it: none or its place, which is at most 120.
use mathlib.Core.Path.{◌≡◌, refl, sym, ap, ◌∙◌}
use mathlib.Core.Bool.{Bool, true, false}
use Rattle.std.specs.Prelude.{Option, None, Some, Result, Ok, Err}
use Rattle.plain.proofs.Options.{none-ne-some, some_inj}
use mathlib.Core.List.{List, [], ◌∷◌}
use Prim.Native.Nat.{ℕ, suc, ◌+◌, ◌-◌, ◌≤◌, ◌<◌}
use native.Mathlib.Omega.{arith}
use lib.Dec.{ltb}
use lib.ListN.{length}
use borrow.Author.Tests.{ltb-false}
use Rattle.plain.specs.Choice.{select}
use Rattle.line.specs.Line.{is_allowed, first_bad, ends_open, or_else, fault_at, numbered, line_says, line_verdict}
use Rattle.line.specs.declared.BadLine.{BadLine}

first-within : (bs : List ℕ) (i p : ℕ) → first_bad bs i ≡ Some p → p < i + length bs
unfolding first_bad
first-within [] i p e = absurd (none-ne-some p e)
first-within (b ∷ bs) i p e = go (is_allowed b) e (λ k. first-within bs (suc i) p k)
  where
    go : (a : Bool) → select a (first_bad bs (suc i)) (Some i) ≡ Some p → (first_bad bs (suc i) ≡ Some p → p < suc i + length bs) → p < i + suc (length bs)
    go true q k = omega (arith, k q)
    go false q k = omega (arith, some_inj q)

pub fault-small : (line : List ℕ) (p : ℕ) → fault_at line ≡ Some p → p ≤ 120
unfolding fault_at
fault-small line p e = long (ltb 120 (length line)) refl e
  where
    last : (b : Bool) → length line ≤ 120 → select b (Some (length line - 1)) None ≡ Some p → p ≤ 120
    last true h q = omega (arith, some_inj q)
    last false h q = absurd (none-ne-some p q)

    byte : (o : Option ℕ) → first_bad line 0 ≡ o → length line ≤ 120 → or_else o (select (ends_open line) (Some (length line - 1)) None) ≡ Some p → p ≤ 120
    byte None i h q = last (ends_open line) h q
    byte (Some j) i h q = omega (arith, first-within line 0 j i, some_inj q)

    long : (b : Bool) → ltb 120 (length line) ≡ b → select b (Some 120) (or_else (first_bad line 0) (select (ends_open line) (Some (length line - 1)) None)) ≡ Some p → p ≤ 120
    long true i q = omega (arith, some_inj q)
    long false i q = byte (first_bad line 0) refl (ltb-false 120 (length line) i) q

module _ (line : List ℕ) (found : Result Unit BadLine) (says : line_says found ≡ line_verdict line) where
  pub line-good : found ≡ Ok tt → fault_at line ≡ None
  line-good e = go (fault_at line) (sym (ap line_says e) ∙ says)
    where
      go : (o : Option ℕ) → ◌≡◌ {A = ℕ × ℕ} (0, 0) (numbered o) → o ≡ None
      go None q = refl
      go (Some p) q = let z : ◌≡◌ {A = ℕ} 0 3 = ap (λ (x : ℕ × ℕ). x.0) q in absurd (omega arith)

  pub line-bad : {bad : BadLine} → found ≡ Err bad → fault_at line ≡ Some bad.place
  line-bad {bad} e = go (fault_at line) (sym (ap line_says e) ∙ says)
    where
      go : (o : Option ℕ) → ◌≡◌ {A = ℕ × ℕ} (3, bad.place) (numbered o) → o ≡ Some bad.place
      go None q = let z : ◌≡◌ {A = ℕ} 3 0 = ap (λ (x : ℕ × ℕ). x.0) q in absurd (omega arith)
      go (Some r) q = ap Some (sym (ap (λ (x : ℕ × ℕ). x.1) q))
