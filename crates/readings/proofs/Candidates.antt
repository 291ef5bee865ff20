-- An expression's candidate ends: the walk's list holds exactly the declared ones, each once.
use mathlib.Core.Path.{◌≡◌, refl, sym, ap, ◌∙◌, subst}
use mathlib.Core.Bool.{true, false}
use mathlib.Core.List.{List, [], ◌∷◌, ◌++◌, Memᴰ}
use Rattle.std.specs.Prelude.{Option, None, Some}
use Rattle.plain.proofs.Options.{some_inj, none-ne-some}
use Prim.Native.Nat.{ℕ}
use borrow.Author.Tests.{eqb-true, eqb-false, eq-eqb, ne_eqb}
use Rattle.plain.specs.Lists.{Apart}
use Rattle.plain.proofs.Members.{apart_by}
use Rattle.defs.specs.declared.ruledef.Part.{Part}
use Rattle.readings.specs.Scene.{Scene, Lawful}
use Rattle.readings.specs.Reading.{Useful, Cut-for, SamePlace, Candidate, freely, cut_short, greedily}
use Rattle.readings.specs.Walk.{useful_at, cut_for, list_of, free_under, candidates, same_end, firsts, ends}
use Rattle.readings.proofs.Leaves.{useful-found, useful-only, cut-declared, cut-found}
use Rattle.readings.proofs.Firsts.{First, here, there, firsts-first, first-firsts, firsts-once}

-- ---- the test of ends is exact

place_same : (s : Scene) (l d e : ℕ) → same_end s.line l d e ≡ true → SamePlace s l d e
place_same s l d e t =
    (useful_at s l d, useful-found s l d, subst (Useful s l e) (sym (eqb-true (useful_at s l d) (useful_at s l e) t)) (useful-found s l e))

place_other : (s : Scene) (l d e : ℕ) → same_end s.line l d e ≡ false → SamePlace s l d e → ⊥
place_other s l d e f (p, u, v) = eqb-false (useful_at s l d) (useful_at s l e) f (sym (useful-only s l d u) ∙ useful-only s l e v)

other_place : (s : Scene) (l d e : ℕ) → (SamePlace s l d e → ⊥) → same_end s.line l d e ≡ false
other_place s l d e n = ne_eqb (useful_at s l d) (useful_at s l e) (λ q. n (place_same s l d e (eq-eqb (useful_at s l d) (useful_at s l e) q)))

module _ (s : Scene) (law : Lawful s) (l c : ℕ) (ps : List Part) where
  under-cut : (o : Option ℕ) (e : ℕ) → cut_for s l c ps ≡ o → free_under s.free c o ≡ Some e → (m : ℕ) × Cut-for s l c ps m × (s.free c m ≡ Some e)
  under-cut None e p q = absurd (none-ne-some e q)
  under-cut (Some m) e p q = (m, cut-declared s l c law ps m p, q)

  cut-under : (m e : ℕ) → Cut-for s l c ps m → s.free c m ≡ Some e → free_under s.free c (cut_for s l c ps) ≡ Some e
  cut-under m e k q = ap (free_under s.free c) (cut-found s l c law ps m k) ∙ q

  -- ---- listed, so declared

  module _ (e : ℕ) where
    greedy-declared : (g : Option ℕ) → s.greedy c l ≡ g
        → ((d : ℕ) → s.free c l ≡ Some d → SamePlace s l d e → ⊥) → ((m d : ℕ) → Cut-for s l c ps m → s.free c m ≡ Some d → SamePlace s l d e → ⊥)
        → First (same_end s.line l) (list_of g) e → Candidate s l c ps e
    greedy-declared None p no-free no_cut x = elim x [ ]
    greedy-declared (Some z) p no-free no_cut here = greedily p no-free no_cut
    greedy-declared (Some z) p no-free no_cut (there t x) = elim x [ ]

    cut-next : (b g : Option ℕ) → free_under s.free c (cut_for s l c ps) ≡ b → s.greedy c l ≡ g
        → ((d : ℕ) → s.free c l ≡ Some d → SamePlace s l d e → ⊥)
        → First (same_end s.line l) (list_of b ++ list_of g) e → Candidate s l c ps e
    cut-next None g p q no-free f =
        greedy-declared g q no-free (λ m d k r x. absurd (none-ne-some d (sym p ∙ cut-under m d k r))) f
    cut-next (Some y) g p q no-free here = let (m, k, r) = under-cut (cut_for s l c ps) y refl p in cut_short k r no-free
    cut-next (Some y) g p q no-free (there t f) =
        greedy-declared g q no-free
        (λ m d k r x. place_other s l y e t (subst (λ (n : ℕ). SamePlace s l n e) (sym (some_inj (sym p ∙ cut-under m d k r))) x))
        f

    declared : (a b g : Option ℕ) → s.free c l ≡ a → free_under s.free c (cut_for s l c ps) ≡ b → s.greedy c l ≡ g
        → First (same_end s.line l) (list_of a ++ (list_of b ++ list_of g)) e → Candidate s l c ps e
    declared None b g o p q f = cut-next b g p q (λ d r x. absurd (none-ne-some d (sym o ∙ r))) f
    declared (Some x) b g o p q here = freely o
    declared (Some x) b g o p q (there t f) =
        cut-next b g p q (λ d r y. place_other s l x e t (subst (λ (n : ℕ). SamePlace s l n e) (sym (some_inj (sym o ∙ r))) y)) f

  pub end-declared : {e : ℕ} → Memᴰ e (ends s l c ps) → Candidate s l c ps e
  unfolding ends candidates
  end-declared {e} m = declared e (s.free c l) (free_under s.free c (cut_for s l c ps)) (s.greedy c l) refl refl refl (firsts-first (same_end s.line l) (candidates s l c ps) m)

  -- ---- declared, so listed

  skipped : (o : Option ℕ) (xs : List ℕ) (e : ℕ) → ((d : ℕ) → o ≡ Some d → SamePlace s l d e → ⊥) → First (same_end s.line l) xs e → First (same_end s.line l) (list_of o ++ xs) e
  skipped None xs e n f = f
  skipped (Some x) xs e n f = there (other_place s l x e (n x refl)) f

  listed-first : (o : Option ℕ) (xs : List ℕ) (e : ℕ) → o ≡ Some e → First (same_end s.line l) (list_of o ++ xs) e
  listed-first None xs e p = absurd (none-ne-some e p)
  listed-first (Some x) xs e p = subst (λ (n : ℕ). First (same_end s.line l) (x ∷ xs) n) (some_inj p) here

  listed-last : (o : Option ℕ) (e : ℕ) → o ≡ Some e → First (same_end s.line l) (list_of o) e
  listed-last None e p = absurd (none-ne-some e p)
  listed-last (Some x) e p = subst (λ (n : ℕ). First (same_end s.line l) (x ∷ []) n) (some_inj p) here

  pub end-listed : {e : ℕ} → Candidate s l c ps e → Memᴰ e (ends s l c ps)
  unfolding ends candidates
  end-listed {e} (freely p) = first-firsts (same_end s.line l) (listed-first (s.free c l) (list_of (free_under s.free c (cut_for s l c ps)) ++ list_of (s.greedy c l)) e p)
  end-listed {e} (cut_short {m = m} k p n) =
      first-firsts (same_end s.line l)
      (skipped (s.free c l) (list_of (free_under s.free c (cut_for s l c ps)) ++ list_of (s.greedy c l)) e n
      (listed-first (free_under s.free c (cut_for s l c ps)) (list_of (s.greedy c l)) e (cut-under m e k p)))
  end-listed {e} (greedily p n no_cut) =
      first-firsts (same_end s.line l)
      (skipped (s.free c l) (list_of (free_under s.free c (cut_for s l c ps)) ++ list_of (s.greedy c l)) e n
      (skipped (free_under s.free c (cut_for s l c ps)) (list_of (s.greedy c l)) e
      (λ d q x. let (m, k, r) = under-cut (cut_for s l c ps) d refl q in no_cut m d k r x)
      (listed-last (s.greedy c l) e p)))

  -- ---- each once

  pub ends-apart : Apart (λ (e : ℕ). e) (ends s l c ps)
  unfolding ends
  ends-apart =
      apart_by (useful_at s l) (λ (e : ℕ). e) (λ x y q. ap (useful_at s l) q) (firsts (same_end s.line l) (candidates s l c ps))
      (firsts-once (same_end s.line l) (useful_at s l) (λ x y. eqb-true (useful_at s l x) (useful_at s l y)) (λ x y. eqb-false (useful_at s l x) (useful_at s l y)) (candidates s l c ps))
