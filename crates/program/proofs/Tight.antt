-- How tight the promises are: any two answers that a contract allows on the same arguments are equal, in what is returned and in
-- rows and answers at exit. Each law is stated over the contract itself, `Post`: its first clause, `answers`, is an equation, and
-- an answer's case is known by its number and words. So `readings` and `agrees`, which speak of the same answer, leave no more
-- choice.
use mathlib.Core.Path.{◌≡◌, refl, sym, ap, ◌∙◌}
use mathlib.Core.List.{List}
use Rattle.std.specs.Prelude.{Result, Ok, Err}
use Prim.Native.Nat.{ℕ}
use lib.Dec.{eqb}
use Rattle.plain.specs.Choice.{select}
use Rattle.plain.proofs.Answers.{one_answer}
use Rattle.runs.specs.Program.{ProgramTold}
use Rattle.program.specs.declared.ProgramError.{ProgramError}
use Rattle.program.specs.declared.ProgramError.TheVariants.{BadTable, BadProgram}
use Rattle.program.specs.Says.{program_says}
use Rattle.program.proofs.match_program.Reads as match-program
use Rattle.program.proofs.lookup_program.Reads as lookup-program

-- the answer of a number and words
case-of : ProgramTold → Result ℕ ProgramError
case-of r = select (eqb r.told.number 0) (Ok r.told.words) (select (eqb r.told.number 2) (Err BadTable) (Err BadProgram))

case-of-says : (a : Result ℕ ProgramError) (rows answers : List ℕ) → case-of (program_says a rows answers) ≡ a
unfolding case-of
case-of-says (Ok w) rows answers = refl
case-of-says (Err BadTable) rows answers = refl
case-of-says (Err BadProgram) rows answers = refl

memory-of : (a : Result ℕ ProgramError) (rows answers : List ℕ) → ((program_says a rows answers).rows ≡ rows) × ((program_says a rows answers).told.buffer ≡ answers)
memory-of (Ok w) rows answers = (refl, refl)
memory-of (Err BadTable) rows answers = (refl, refl)
memory-of (Err BadProgram) rows answers = (refl, refl)

same_answer : (a c : Result ℕ ProgramError) (v w b d : List ℕ) → program_says a v b ≡ program_says c w d → (a ≡ c) × (v ≡ w) × (b ≡ d)
same_answer a c v w b d e = (
  sym (case-of-says a v b) ∙ ap case-of e ∙ case-of-says c w d,
  sym (memory-of a v b).0 ∙ ap (λ (r : ProgramTold). r.rows) e ∙ (memory-of c w d).0,
  sym (memory-of a v b).1 ∙ ap (λ (r : ProgramTold). r.told.buffer) e ∙ (memory-of c w d).1,
)

pub match_program-tight : (κs a : _) (r s : Result ℕ ProgramError) (x y : _) → match-program.Post κs a r x → match-program.Post κs a s y
    → (r ≡ s) × (x.1.1.1.1.1.1.0.now ≡ y.1.1.1.1.1.1.0.now) × (x.1.1.1.1.1.1.1.0.now ≡ y.1.1.1.1.1.1.1.0.now)
match_program-tight κs a r s x y p q = same_answer r s _ _ _ _ (one_answer p.0 q.0)

pub lookup_program-tight : (κs a : _) (r s : Result ℕ ProgramError) (x y : _) → lookup-program.Post κs a r x → lookup-program.Post κs a s y
    → (r ≡ s) × (x.1.1.1.1.1.1.0.now ≡ y.1.1.1.1.1.1.0.now) × (x.1.1.1.1.1.1.1.0.now ≡ y.1.1.1.1.1.1.1.0.now)
lookup_program-tight κs a r s x y p q = same_answer r s _ _ _ _ (one_answer p.0 q.0)
