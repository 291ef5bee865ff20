-- Demand 3, in the contracts of scan and lookup.
use mathlib.Core.Path.{◌≡◌, sym, ap, subst, ◌∙◌}
use mathlib.Core.List.{List}
use Prim.Native.Nat.{ℕ, ◌≤◌}
use Rattle.plain.specs.Told.{Told}
use Rattle.readings.specs.Scene.{scene_of, based}
use Rattle.readings.specs.Call.{Accepted, scan_call, lookup_call}
use Rattle.readings.specs.Demand.{Within, Demand3}
use Rattle.readings.proofs.Theorems.{scan-demand, lookup-demand, lookup-agrees}

module _ (t line sheet : List ℕ) (budget base : ℕ) (b : List ℕ) (r : Told) where
  pub scan-reads : r ≡ scan_call t line sheet budget base b → Accepted t line sheet budget base → Within t line sheet budget → Demand3 (based base (scene_of t line sheet)) b r
  scan-reads e ok w = subst (Demand3 (based base (scene_of t line sheet)) b) (sym e) (scan-demand t line sheet budget base b ok w)

  module _ (e : r ≡ lookup_call t line sheet budget base b) (ok : Accepted t line sheet budget base) (w : Within t line sheet budget) where
    pub lookup-reads : Demand3 (based base (scene_of t line sheet)) b r
    lookup-reads = subst (Demand3 (based base (scene_of t line sheet)) b) (sym e) (lookup-demand t line sheet budget base b ok w).0

    pub lookup-visits : r.visits ≤ (scan_call t line sheet budget base b).visits
    lookup-visits = subst (λ (x : Told). x.visits ≤ (scan_call t line sheet budget base b).visits) (sym e) (lookup-demand t line sheet budget base b ok w).1

    pub lookup-tells : (r.number ≡ (scan_call t line sheet budget base b).number) × (r.words ≡ (scan_call t line sheet budget base b).words)
    lookup-tells = let (n, m) = lookup-agrees t line sheet budget base b ok w in (ap (λ (x : Told). x.number) e ∙ n, ap (λ (x : Told). x.words) e ∙ m)
