-- The greatest-count cut keeps exactly the readings with the greatest exact count, each once.
use mathlib.Core.Path.{◌≡◌, refl, sym, subst}
use mathlib.Core.Logic.{inl, inr}
use mathlib.Core.List.Memᴰ
use mathlib.Core.List.{List, [], ◌∷◌, map, Memᴰ}
use Prim.Native.Nat.{◌≤◌, max}
use native.Mathlib.Decide.{dec_le}
use native.Mathlib.Omega.{arith}
use lib.Dec.{eqb}
use borrow.Author.Tests.{eqb-true, eq-eqb}
use Rattle.plain.proofs.Members.{kept-mem, kept-has, kept-apart}
use Rattle.readings.specs.Tree.{Tree}
use Rattle.readings.specs.Scene.{Scene}
use Rattle.readings.specs.Reading.{Reading, Readings}
use Rattle.readings.specs.Demand.{BestReadings}
use Rattle.readings.specs.Answer.{exact_count, greatest, greatest_count, best}

module _ (s : Scene) where
  -- no match has more, and one has as many
  pub at_most : (ts : List Tree) {t : Tree} → Memᴰ t ts → exact_count s t ≤ greatest_count s ts
  unfolding greatest_count greatest
  at_most [] m = absurd (Memᴰ.not-nil m)
  at_most (u ∷ ts) {t} m =
      elim (Memᴰ.cases_cons m) [
        | inl e ↦ subst (λ (v : Tree). exact_count s v ≤ max (exact_count s u) (greatest (map (exact_count s) ts))) (sym e) (omega arith)
        | inr n ↦ omega (arith, at_most ts n)
      ]

  pub reached : (t : Tree) (ts : List Tree) → (u : Tree) × Memᴰ u (t ∷ ts) × (exact_count s u ≡ greatest_count s (t ∷ ts))
  unfolding greatest_count greatest
  reached t [] = (t, Memᴰ.head refl, omega arith)
  reached t (v ∷ ts) = by (dec_le (greatest_count s (v ∷ ts)) (exact_count s t)) (reached v ts)
    where
      by : Dec (greatest_count s (v ∷ ts) ≤ exact_count s t) → (u : Tree) × Memᴰ u (v ∷ ts) × (exact_count s u ≡ greatest_count s (v ∷ ts))
          → (u : Tree) × Memᴰ u (t ∷ v ∷ ts) × (exact_count s u ≡ max (exact_count s t) (greatest_count s (v ∷ ts)))
      by (yes h) r = (t, Memᴰ.head refl, omega arith)
      by (no h) (u, m, e) = (u, Memᴰ.tail m, omega (arith, h))

pub best-readings : (s : Scene) (ts : List Tree) → Readings s ts → BestReadings s (best s ts)
unfolding best
best-readings s ts r = record {
  only = λ {t} m.
      let (i, e) = kept-mem (λ t. eqb (exact_count s t) (greatest_count s ts)) ts m in
      record { reads = r.only i; most = λ u k. omega (arith, at_most s ts (r.every k), eqb-true (exact_count s t) (greatest_count s ts) e) };
  every = λ {t} g. kept-has (λ t. eqb (exact_count s t) (greatest_count s ts)) ts (eq-eqb _ _ (equal t ts (λ u k. r.only k) (r.every g.reads) g.most)) (r.every g.reads);
  once = kept-apart (λ t. eqb (exact_count s t) (greatest_count s ts)) (λ (t : Tree). t) ts r.once;
}
  where
    equal : (t : Tree) (us : List Tree) → ((u : Tree) → Memᴰ u us → Reading s u) → Memᴰ t us → ((u : Tree) → Reading s u → exact_count s u ≤ exact_count s t)
        → exact_count s t ≡ greatest_count s us
    equal t [] only m most = absurd (Memᴰ.not-nil m)
    equal t (v ∷ us) only m most =
        let (u, n, e) = reached s v us in
        omega (arith, at_most s (v ∷ us) m, most u (only u n))

pub best-counts : (s : Scene) (ts : List Tree) (t : Tree) → Memᴰ t (best s ts) → exact_count s t ≡ greatest_count s ts
unfolding best
best-counts s ts t m = eqb-true (exact_count s t) (greatest_count s ts) (kept-mem (λ t. eqb (exact_count s t) (greatest_count s ts)) ts m).1

-- some match has the greatest count
pub best-one : (s : Scene) (t : Tree) (ts : List Tree) → (u : Tree) × Memᴰ u (best s (t ∷ ts))
unfolding best
best-one s t ts =
    let (u, m, e) = reached s t ts in
    (u, kept-has (λ v. eqb (exact_count s v) (greatest_count s (t ∷ ts))) (t ∷ ts) (eq-eqb _ _ e) m)
