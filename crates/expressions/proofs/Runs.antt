-- Runs of bytes of a kind: where they end, and how a start's run follows from the next one's.
use mathlib.Core.Path.{◌≡◌, refl, sym, ap, ◌∙◌}
use mathlib.Core.Bool.{Bool, true, false}
use mathlib.Core.List.{List}
use Prim.Native.Nat.{ℕ, zero, suc, ◌+◌, ◌-◌, ◌≤◌, ◌<◌}
use native.Mathlib.Decide.{dec_lt, ℕ_discrete}
use native.Mathlib.Omega.{arith}
use native.Mathlib.Numerals.{add-one}
use lib.ListN.{length, get_or-eq_default}
use Rattle.plain.specs.Choice.{select}
use Rattle.plain.proofs.Tests.{not-both}
use Rattle.syntax.specs.Walker.{byte_at}
use Rattle.expressions.specs.Ends.{run_to, run_end}
use Rattle.expressions.proofs.Bytes.{Kind, past}
use Rattle.expressions.proofs.Tokens.{inside}

-- the bytes from c to before e are of a kind
abbrev pub Run : (ℕ → Bool) → List ℕ → ℕ → ℕ → Type 0
Run kind line c e = (i : ℕ) → c ≤ i → i < e → kind (byte_at line i) ≡ true

-- and the byte at e is none
pub record RunEnds (kind : ℕ → Bool) (line : List ℕ) (c e : ℕ) : Type 0 where
  pub from : c ≤ e
  pub run : Run kind line c e
  pub ends : kind (byte_at line e) ≡ false

module _ {kind : ℕ → Bool} (k : Kind kind) (line : List ℕ) where
  -- of so many bytes to go
  run-from : (d c : ℕ) → length line ≤ c + d → RunEnds kind line c (run_to kind line d c)
  unfolding run_to
  run-from zero c h = record {
    from = omega arith;
    run = λ i low high. absurd (omega arith);
    ends = ap kind (get_or-eq_default line 0 (omega arith)) ∙ past k;
  }
  run-from (suc d) c h = go (kind (byte_at line c)) refl (run-from d (suc c) (omega arith))
    where
      go : (t : Bool) → kind (byte_at line c) ≡ t → RunEnds kind line (suc c) (run_to kind line d (suc c)) → RunEnds kind line c (select t (run_to kind line d (suc c)) c)
      go true e r = record {
        from = omega (arith, r.from);
        run = λ i low high. elim (ℕ_discrete i c) [ yes q ↦ ap (λ (n : ℕ). kind (byte_at line n)) q ∙ e | no n ↦ r.run i (omega (arith, n)) high ];
        ends = r.ends;
      }
      go false e r = record { from = omega arith; run = λ i low high. absurd (omega arith); ends = e }

  pub run_is : (c : ℕ) → RunEnds kind line c (run_end kind line c)
  unfolding run_end
  run_is c = run-from (length line - c) c (omega arith)

  -- it lies in the line
  pub run_inside : (c : ℕ) → c ≤ length line → run_end kind line c ≤ length line
  run_inside c h =
      let r = run_is c in
      let from = r.from in
      elim (dec_lt c (run_end kind line c)) [
        | yes l ↦ omega (arith, inside k line (run_end kind line c - 1) (r.run (run_end kind line c - 1) (omega arith) (omega arith)))
        | no d ↦ omega (arith, d)
      ]

  -- a byte of the kind makes it nonempty
  pub run_more : (c : ℕ) → kind (byte_at line c) ≡ true → c < run_end kind line c
  run_more c h =
      let r = run_is c in
      elim (ℕ_discrete c (run_end kind line c)) [
        | yes q ↦ absurd (not-both (ap (λ (n : ℕ). kind (byte_at line n)) (sym q) ∙ h) r.ends)
        | no d ↦ omega (arith, d, r.from)
      ]

  -- and an empty one has none there
  pub run-some : (c : ℕ) → c < run_end kind line c → kind (byte_at line c) ≡ true
  run-some c h = (run_is c).run c (omega arith) h

  pub run-empty : (c : ℕ) → run_end kind line c ≤ c → kind (byte_at line c) ≡ false
  run-empty c h =
      let r = run_is c in
      let same : run_end kind line c ≡ c = omega (arith, r.from) in
      ap (λ (n : ℕ). kind (byte_at line n)) (sym same) ∙ r.ends

  -- a run is that of the next start, if the byte goes on with it
  pub run-next : (c : ℕ) → c < length line → run_end kind line c ≡ select (kind (byte_at line c)) (run_end kind line (c + 1)) c
  unfolding run_end run_to
  run-next c h =
      let more : length line - c ≡ suc (length line - suc c) = omega arith in
      ap (λ (d : ℕ). run_to kind line d c) more
      ∙ ap (λ (n : ℕ). select (kind (byte_at line c)) (run_to kind line (length line - n) n) c) (sym (add-one c))

  pub run-over : run_end kind line (length line) ≡ length line
  unfolding run_end run_to
  run-over = let none : length line - length line ≡ 0 = omega arith in ap (λ (d : ℕ). run_to kind line d (length line)) none
