-- An answer's case as the C struct's fields, and what is promised of it.
use mathlib.Core.Path.{◌≡◌, sym, ap, subst, ◌∙◌}
use mathlib.Core.List.{List}
use Rattle.std.specs.Prelude.{Result}
use Prim.Native.Nat.{ℕ}
use Rattle.plain.specs.Told.{Told}
use Rattle.readings.specs.Scene.{Scene}
use Rattle.readings.specs.Demand.{Demand3}
use Rattle.listing.specs.Calls.{ReadCall}
use Rattle.expressions.specs.Call.{FillCall}
use Rattle.tholdrimash.specs.declared.TholdrimashAnswer.{TholdrimashAnswer}
use Rattle.program.specs.declared.ProgramError.{ProgramError}
use Rattle.program.specs.Says.{program_says}
use Rattle.tholdrimash.specs.Interface.{told, told_whole}

-- of any call's answers: the case's number and fields are the struct's
pub fields-of : {A : Type 0} (says : A → List ℕ → Told) {answer a : A} {r s : TholdrimashAnswer} → answer ≡ a → r ≡ s → ((b : List ℕ) → told s b ≡ says a b)
    → (b : List ℕ) → told r b ≡ says answer b
fields-of {A = A} says e q f b = ap (λ (x : TholdrimashAnswer). told x b) q ∙ f b ∙ sym (ap (λ (x : A). says x b) e)

-- what holds of the answer holds of its fields
pub reads_of : (s : Scene) (b : List ℕ) {r q : Told} → r ≡ q → Demand3 s b q → Demand3 s b r
reads_of s b e d = subst (Demand3 s b) (sym e) d

-- what reading may tell, the struct's fields may tell
pub call-of : (text room : List ℕ) {r q : Told} → r ≡ q → ReadCall text room q → ReadCall text room r
call-of text room e c = subst (ReadCall text room) (sym e) c

-- and what filling may tell
pub fills_of : (line sheet : List ℕ) {r q : Told} → r ≡ q → FillCall line sheet q → FillCall line sheet r
fills_of line sheet e c = subst (FillCall line sheet) (sym e) c

-- of a program call's answers
module _ {answer a : Result ℕ ProgramError} {r s : TholdrimashAnswer} where
  pub whole_of : answer ≡ a → r ≡ s → ((rows b : List ℕ) → told_whole s rows b ≡ program_says a rows b) → (rows b : List ℕ) → told_whole r rows b ≡ program_says answer rows b
  whole_of e q f rows b = ap (λ (x : TholdrimashAnswer). told_whole x rows b) q ∙ f rows b ∙ sym (ap (λ (x : Result ℕ ProgramError). program_says x rows b) e)
