-- A rule that fails in its leading exact parts: told by its prefix and by what the line has ahead of the cursor, without a
-- walk. The visits that it makes, and its plan.
-- In words: docs/MANUAL.md, 5.
use Rattle.std.specs.Prelude.{◌≡◌, List, [], ◌∷◌, map, ℕ, zero, suc, ◌<◌, eqb, ltb, length, take}
use Rattle.std.proofs.Math.Seq.{slice}
use Rattle.plain.specs.Choice.{select}
use Rattle.plain.specs.Lists.{keep_if}
use Rattle.token.specs.Token.{is_solid, lowered}
use Rattle.readings.specs.Plan.{Plan, visit}

-- the first 4 non-whitespace bytes from cursor c on and below limit l, lowered
unfoldable pub ahead : List ℕ → ℕ → ℕ → List ℕ
ahead line l c = take 4 (map lowered (keep_if is_solid (slice c l line)))

-- how many leading bytes of a rule's prefix are those that the line has
unfoldable pub agreed : List ℕ → List ℕ → ℕ
agreed [] p = 0
agreed (b ∷ q) [] = 0
agreed (b ∷ q) (a ∷ p) = select (eqb a b) (suc (agreed q p)) 0

-- they agree in j places, and the rule's goes on: the line's differs there, or has ended
abbrev pub FailsAt : List ℕ → List ℕ → ℕ → Type 0
FailsAt q p j = (agreed q p ≡ j) × (j < length q)

-- the visits of a rule that fails so; 0 of one that does not
unfoldable pub failing : List ℕ → List ℕ → ℕ
failing q p = select (ltb (agreed q p) (length q)) (suc (agreed q p)) 0

-- so many visits, and then the plan
unfoldable pub visited : {A : Type 0} → ℕ → Plan A → Plan A
visited zero p = p
visited (suc n) p = visit (visited n p)
