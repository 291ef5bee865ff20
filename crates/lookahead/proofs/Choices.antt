-- The choices of a parameter's step, for any scene: an expression's ends are its candidates added one by one, so at most
-- three; the limits are one or two; all lie between cursor and limit. Neither cut nor limits look at the sheet.
use mathlib.Core.Path.{◌≡◌, refl, sym, ap, ◌∙◌}
use mathlib.Core.Bool.{Bool}
use mathlib.Core.List.{List, [], ◌∷◌, ◌++◌, append_assoc, Memᴰ}
use Rattle.std.specs.Prelude.{Option, None, Some}
use Prim.Native.Nat.{ℕ, ◌≤◌}
use native.Mathlib.Omega.{arith}
use lib.ListN.{length}
use Rattle.defs.specs.declared.ruledef.Part.{Part}
use Rattle.readings.specs.Scene.{Scene, Lawful, scene_of}
use Rattle.readings.specs.Walk.{useful_at, lookahead, cut_by, cut_for, list_of, free_under, candidates, fresh, firsts, same_end, ends, limits}
use Rattle.readings.proofs.Leaves.{limit-declared}
use Rattle.readings.proofs.Candidates.{end-declared}
use Rattle.readings.proofs.Spans.{candidate-within, under-within}
use Rattle.lookahead.specs.Held.{added}
use Rattle.lookahead.proofs.Added.{firsts-added, added-few}

-- ---- the sheet

module _ (t line sheet other : List ℕ) (l c : ℕ) (ps : List Part) where
  pub sheet-free : cut_for (scene_of t line sheet) l c ps ≡ cut_for (scene_of t line other) l c ps
  unfolding cut_for scene_of
  sheet-free = by (lookahead ps)
    where
      by : (o : Option ℕ) → cut_by (scene_of t line sheet) l c o ≡ cut_by (scene_of t line other) l c o
      by None = refl
      by (Some x) = refl

  pub sheet-free-limits : limits (scene_of t line sheet) l c ps ≡ limits (scene_of t line other) l c ps
  unfolding limits
  sheet-free-limits = ap (λ (o : Option ℕ). l ∷ list_of o) sheet-free

-- ---- how many

module _ (s : Scene) (l c : ℕ) (ps : List Part) where
  abbrev same : ℕ → ℕ → Bool
  same = same_end s.line l

  pub ends-added : ends s l c ps ≡ added same (added same (added same [] (s.free c l)) (free_under s.free c (cut_for s l c ps))) (s.greedy c l)
  unfolding ends candidates firsts fresh
  ends-added = whole (s.free c l) (free_under s.free c (cut_for s l c ps)) (s.greedy c l)
    where
      whole : (a b g : Option ℕ) → firsts same (list_of a ++ (list_of b ++ list_of g)) ≡ added same (added same (added same [] a) b) g
      whole a b g =
          ap (firsts same) (sym (append_assoc (list_of a) (list_of b) (list_of g)))
          ∙ firsts-added (useful_at s l) (list_of a ++ list_of b) g
          ∙ ap (λ (es : List ℕ). added same es g)
          (firsts-added (useful_at s l) (list_of a) b
          ∙ ap (λ (es : List ℕ). added same es b) (firsts-added (useful_at s l) [] a))

  pub ends-few : length (ends s l c ps) ≤ 3
  ends-few =
      let one = added-few same [] (s.free c l) in
      let two = added-few same (added same [] (s.free c l)) (free_under s.free c (cut_for s l c ps)) in
      let three = added-few same (added same (added same [] (s.free c l)) (free_under s.free c (cut_for s l c ps))) (s.greedy c l) in
      omega (arith, ap length ends-added)

  pub limits-few : (1 ≤ length (limits s l c ps)) × (length (limits s l c ps) ≤ 2)
  unfolding limits
  limits-few = by (cut_for s l c ps)
    where
      by : (o : Option ℕ) → (1 ≤ length (l ∷ list_of o)) × (length (l ∷ list_of o) ≤ 2)
      by None = (omega arith, omega arith)
      by (Some m) = (omega arith, omega arith)

-- ---- where they lie

module _ (s : Scene) (law : Lawful s) (l c : ℕ) (ps : List Part) (h : c ≤ l) where
  pub ends-within : (e : ℕ) → Memᴰ e (ends s l c ps) → (c ≤ e) × (e ≤ l)
  ends-within e m = candidate-within s law l c ps h (end-declared s law l c ps m)

  pub limits-within : (m : ℕ) → Memᴰ m (limits s l c ps) → (c ≤ m) × (m ≤ l)
  limits-within m i = under-within s law l c ps h (limit-declared s l c law ps m i)
