-- What the walk's promise determines: what is returned, stated over the contract itself. Of the store it says what its records
-- mean and count after a walk that is not refused, and not how they are written or what stands past them; after a refusal,
-- nothing.
use Rattle.std.specs.Prelude.{Result, Ok, Err}
use mathlib.Core.Path.{◌≡◌, refl, sym, ◌∙◌}
use mathlib.Core.List.{List}
use Prim.Native.Nat.{ℕ}
use native.Mathlib.Omega.{arith}
use Rattle.readings.specs.Plan.{Outcome}
use Rattle.readings.specs.Walk.{Found}
use Rattle.pool.specs.declared.Record.{Record}
use Rattle.walk.specs.declared.Place.{Place}
use Rattle.walk.specs.declared.Refusal.{Refusal}
use Rattle.walk.specs.declared.Refusal.TheVariants.{Spent, Deep, Full}
use Rattle.walk.specs.declared.Stopped.{Stopped}
use Rattle.walk.specs.declared.Walked.{Walked}
use Rattle.walk.specs.Met.{number_of, Left, went, halted}
use Rattle.walk.proofs.match_with_rule.Reads as match-with-rule

-- a refusal is known by its number
same-refusal : (r s : Refusal) → number_of r ≡ number_of s → r ≡ s
same-refusal Spent Spent e = refl
same-refusal Spent Deep e = absurd (omega arith)
same-refusal Spent Full e = absurd (omega arith)
same-refusal Deep Spent e = absurd (omega arith)
same-refusal Deep Deep e = refl
same-refusal Deep Full e = absurd (omega arith)
same-refusal Full Spent e = absurd (omega arith)
same-refusal Full Deep e = absurd (omega arith)
same-refusal Full Full e = refl

same_left : {t : List ℕ} {o : Outcome (List Found)} {place : Place} {log : List Record} {a b : List ℕ} {r s : Result Walked Stopped} → Left t o place log a r → Left t o place log b s → r ≡ s
same_left (went {w = a} x) (went {w = b} y) =
    let e = sym x.done_with ∙ y.done_with in
    let i : a.left ≡ b.left = cc in
    let j : a.pool.used ≡ b.pool.used = cc in
    λ k. Ok (record { left = i k; pool = record { used = j k } })
same_left (went x) (halted f) =
    let e = sym x.done_with ∙ f in
    let z : ◌≡◌ {A = ℕ} 0 1 = cc in
    absurd (omega arith)
same_left (halted e) (went y) =
    let f = sym y.done_with ∙ e in
    let z : ◌≡◌ {A = ℕ} 0 1 = cc in
    absurd (omega arith)
same_left (halted {s = a} e) (halted {s = b} f) =
    let q = sym e ∙ f in
    let i : number_of a.why ≡ number_of b.why = cc in
    let j : a.left ≡ b.left = cc in
    λ k. Err (record { why = same-refusal a.why b.why i k; left = j k })

pub match_with_rule-tight : (κs a : _) (r s : Result Walked Stopped) (x y : _) → match-with-rule.Post κs a r x → match-with-rule.Post κs a s y → r ≡ s
match_with_rule-tight κs a r s x y = same_left
