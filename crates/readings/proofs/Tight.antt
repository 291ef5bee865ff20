-- No choice is left: what a definition declares has one value. The call, the scan and the lookup are functions of what they
-- are given, order of the trees included; what follows is said of the relations, which could allow more.
use mathlib.Core.Path.{◌≡◌, refl, sym, ◌∙◌}
use Rattle.plain.proofs.Options.{some_inj}
use mathlib.Core.List.{List, [], ◌∷◌, Memᴰ}
use Prim.Native.Nat.{ℕ, ◌≤◌}
use native.Mathlib.Omega.{arith}
use lib.ListN.{length}
use Rattle.plain.specs.Told.{Told}
use Rattle.defs.specs.declared.ruledef.Part.{Part}
use Rattle.readings.specs.Tree.{Tree, Args}
use Rattle.readings.specs.Scene.{Scene, Lawful}
use Rattle.readings.specs.Reading.{Useful, Exactly-at, Cut-for, Span, From, Readings}
use Rattle.readings.specs.Demand.{BestReadings}
use Rattle.readings.specs.Call.{call_with}
use Rattle.readings.proofs.Leaves.{useful-only, exactly-found, span-found, cut-found}
use Rattle.readings.proofs.Runs.{total, total-fewer}
use Rattle.readings.proofs.Walks.{same-end}
use Rattle.readings.proofs.Numbers.{Case, numbered}

-- ---- the leaves of the relation

module _ (s : Scene) (l c : ℕ) where
  pub one_place : {p q : ℕ} → Useful s l c p → Useful s l c q → p ≡ q
  one_place u v = useful-only s l c u ∙ sym (useful-only s l c v)

  pub one-past : (x d e : ℕ) → Exactly-at s l c x d → Exactly-at s l c x e → d ≡ e
  one-past x d e p q = some_inj (sym (exactly-found s l c x d p) ∙ exactly-found s l c x e q)

  pub one_span : (e f g h i : ℕ) → Span s l c e f g → Span s l c e h i → (f ≡ h) × (g ≡ i)
  one_span e f g h i p q = (span-found s l c e f g p ∙ sym (span-found s l c e h i q), p.stops ∙ sym q.stops)

  pub one-cut : Lawful s → (ps : List Part) (m n : ℕ) → Cut-for s l c ps m → Cut-for s l c ps n → m ≡ n
  one-cut law ps m n p q = some_inj (sym (cut-found s l c law ps m p) ∙ cut-found s l c law ps n q)

-- a rule's arguments say where it ends
pub one_end : {s : Scene} {l c e f : ℕ} {ps : List Part} {a : Args} → From s l ps c a e → From s l ps c a f → e ≡ f
one_end u v = same-end u v

-- ---- lists of readings

ones : {A : Type 0} (xs : List A) → total (λ x. 1) xs ≡ length xs
ones [] = refl
ones (x ∷ xs) = omega (arith, ones xs)

-- any two lists of the readings, or of those with the greatest exact count, have the same members and the same length
module _ (s : Scene) (ts us : List Tree) where
  pub readings-same : Readings s ts → Readings s us → {t : Tree} → Memᴰ t ts → Memᴰ t us
  readings-same p q m = q.every (p.only m)

  pub best-same : BestReadings s ts → BestReadings s us → {t : Tree} → Memᴰ t ts → Memᴰ t us
  best-same p q m = q.every (p.only m)

  pub best-as-many : BestReadings s ts → BestReadings s us → length ts ≤ length us
  best-as-many p q = omega (arith, ones ts, ones us, total-fewer (λ x. 1) ts us p.once (λ t m. best-same p q m))

-- ---- a call's number, and all that it tells

module _ (order : Scene → List (ℕ × ℕ)) (t line sheet : List ℕ) (budget base : ℕ) (b : List ℕ) where
  pub one_number : {m n : ℕ} → Case order t line sheet budget base b m → Case order t line sheet budget base b n → m ≡ n
  one_number p q = sym (numbered order t line sheet budget base b p) ∙ numbered order t line sheet budget base b q

  pub one_told : (r u : Told) → r ≡ call_with order t line sheet budget base b → u ≡ call_with order t line sheet budget base b → r ≡ u
  one_told r u p q = p ∙ sym q
