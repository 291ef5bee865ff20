-- Two runs over lines that tell alike, line by line: the same rows and the same words used. The room left has the same length in
-- both, though the words before it may differ, and what a call tells depends on the room's length alone.
use mathlib.Core.Path.{◌≡◌, refl, ap, ap₂, ◌∙◌}
use mathlib.Core.List.{List, [], ◌∷◌}
use Prim.Native.Nat.{ℕ, ◌+◌}
use native.Mathlib.Omega.{arith}
use lib.ListN.{length, drop, length-drop}
use Rattle.plain.specs.Told.{Told}
use Rattle.lines.specs.Lines.{Line}
use Rattle.runs.specs.Program.{Ran, taken, run_lines}
use Rattle.runs.proofs.Shapes.{Shape, shape-keeps, shape_same, same_taken}

-- the same number and words
abbrev pub Alike : Told → Told → Type 0
Alike r s = (r.number ≡ s.number) × (r.words ≡ s.words)

module _ (f g : Line → List ℕ → Told) where
  -- lines that two calls tell alike, whatever the room
  pub data AllAlike : List Line → List Line → Type 0 where
    none : AllAlike [] []
    more : {x y : Line} {xs ys : List Line} → ((room : List ℕ) → Alike (f x room) (g y room)) → AllAlike xs ys → AllAlike (x ∷ xs) (y ∷ ys)

  module _ (shape : (x : Line) → Shape (f x)) (shape' : (x : Line) → Shape (g x)) where
    -- on rooms of one length
    pub rows_alike : {xs ys : List Line} → AllAlike xs ys → (used : ℕ) (a b : List ℕ) → length a ≡ length b
        → ((run_lines f xs used a).rows ≡ (run_lines g ys used b).rows) × ((run_lines f xs used a).words ≡ (run_lines g ys used b).words)
    unfolding run_lines
    rows_alike none used a b same = (refl, refl)
    rows_alike (more {x} {y} {xs} {ys} tells rest) used a b same =
        let (n, w) = tells a in
        let (n', w') = shape_same (shape' y) a b same in
        let number = n ∙ n' in
        let size = same_taken (f x a) (g y b) number (w ∙ w') in
        let kept = shape-keeps (shape x) a in
        let kept' = shape-keeps (shape' y) b in
        let left : length (drop (taken (f x a)) (f x a).buffer) ≡ length (drop (taken (g y b)) (g y b).buffer)
        = omega (arith, length-drop (taken (f x a)) (f x a).buffer, length-drop (taken (g y b)) (g y b).buffer, size, kept.long, kept'.long) in
        let (rs, ws) = rows_alike rest (used + taken (f x a)) (drop (taken (f x a)) (f x a).buffer) (drop (taken (g y b)) (g y b).buffer) left in
        let moved = ap (λ (k : ℕ). run_lines g ys (used + k) (drop (taken (g y b)) (g y b).buffer)) size in (
          ap₂ (λ (k : ℕ) (l : List ℕ). k ∷ used ∷ l) number (rs ∙ ap (λ (r : Ran). r.rows) moved),
          ws ∙ ap (λ (r : Ran). r.words) moved,
        )
