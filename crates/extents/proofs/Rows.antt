-- What the row's loop knows: limits below the row's start are not judged, so the loop begins at the start.
use mathlib.Core.Path.{◌≡◌, refl, sym, ap, ◌∙◌}
use mathlib.Core.Logic.{◌⊎◌, inl, inr}
use mathlib.Core.Bool.{Bool, true, false, not, ◌&&◌, ◌||◌}
use mathlib.Core.List.{List}
use Prim.Native.Nat.{ℕ, ◌+◌, ◌≤◌, ◌<◌}
use native.Mathlib.Decide.{ℕ_discrete}
use native.Mathlib.Omega.{arith}
use lib.Dec.{eqb, leb}
use lib.ListN.{length, get_or, set}
use lib.Seq.{get_or-set_same, get_or-set_other}
use borrow.Author.Tests.{lt-ltb, le-ltb, leb-true, leb-false, eq-eqb, eqb-true}
use Rattle.plain.specs.Below.{every_below}
use Rattle.plain.proofs.Below.{every-all, every_more}
use Rattle.plain.proofs.Tests.{or_left, tested}
use Rattle.extents.specs.Sheet.{entry_at, entry_fits, fits_at}
use Rattle.extents.specs.declared.Half.{Half}

module _ (sheet : List ℕ) (n : ℕ) (half : Half) where
  -- the limits below a start are not judged
  pub none-judged : (c : ℕ) → every_below c (fits_at sheet n half c) ≡ true
  unfolding fits_at
  none-judged c = every-all c _ (λ l above. or_left _ _ (lt-ltb l c above))

  -- from its start on, an entry is judged: what is said of its byte is said of its place
  pub judged :
      {c l e : ℕ} {r : Bool} → c ≤ l → e ≡ entry_at sheet n half c l → r ≡ entry_fits c l e →
      r ≡ fits_at sheet n half c l
  unfolding fits_at
  judged {c} {l} from byte answer = answer ∙ ap (entry_fits c l) byte ∙ rw (le-ltb l c from)

-- ---- as bytes, with no branch

-- a test on bytes that joins nothing but comparisons: with the entry held between its start and its limit, it holds exactly
-- where the entry does not fit
pub odd_is :
    (c l e : ℕ) {r : ℕ} → (c ≤ e → e ≤ l → r ≡ e) → (c ≤ l → r ≡ e → (c ≤ e) × (e ≤ l)) → c ≤ l →
    (not (eqb e 255) && not (eqb r e)) ≡ not (entry_fits c l e)
unfolding entry_fits
odd_is c l e {r} stays lies from = go (eqb e 255) (tested (leb c e)) (tested (leb e l)) (tested (eqb r e))
  where
    go :
        (t : Bool) → (leb c e ≡ true) ⊎ (leb c e ≡ false) → (leb e l ≡ true) ⊎ (leb e l ≡ false) → (eqb r e ≡ true) ⊎ (eqb r e ≡ false) →
        (not t && not (eqb r e)) ≡ not (t || (leb c e && leb e l))
    go true p q same = refl
    go false (inl p) (inl q) same = rw (p, q, eq-eqb r e (stays (leb-true c e p) (leb-true e l q)))
    go false (inl p) (inr q) (inl same) = absurd (omega (arith, lies from (eqb-true r e same), leb-false e l q))
    go false (inl p) (inr q) (inr other) = rw (p, q, other)
    go false (inr p) q (inl same) = absurd (omega (arith, lies from (eqb-true r e same), leb-false c e p))
    go false (inr p) q (inr other) = rw (p, other)

-- something is odd, in one part or another, exactly if not both fit
pub joined : (odd fits here : Bool) → here ≡ not fits → (not odd && fits) ≡ not (odd || here)
joined true fits here e = refl
joined false true here e = ap not (sym e)
joined false false here e = ap not (sym e)

-- what is odd so far, with what is odd here
pub odd-more : (i : ℕ) (f : ℕ → Bool) (odd here : Bool) → every_below i f ≡ not odd → here ≡ not (f i) → every_below (i + 1) f ≡ not (odd || here)
odd-more i f odd here p q = every_more i f ∙ ap (λ (b : Bool). b && f i) p ∙ joined odd (f i) here q

-- what is odd, once all is tried
pub all-tried : (n : ℕ) (f : ℕ → Bool) (i : ℕ) (odd : Bool) → i ≡ n → every_below i f ≡ not odd → odd ≡ not (every_below n f)
all-tried n f i odd e p = sym (not-not odd) ∙ ap not (sym p ∙ ap (λ (m : ℕ). every_below m f) e)
  where
    not-not : (b : Bool) → not (not b) ≡ b
    not-not true = refl
    not-not false = refl

-- ---- the places of the longest line

-- a list that holds the places below one, after that one is put at itself
pub held_more : (list : List ℕ) (p : ℕ) → p < length list → ((i : ℕ) → i < p → get_or list i 0 ≡ i) → (i : ℕ) → i < p + 1 → get_or (set list p p) i 0 ≡ i
held_more list p h f i below =
    elim (ℕ_discrete i p) [
      | yes e ↦ ap (λ (k : ℕ). get_or (set list p p) k 0) e ∙ get_or-set_same list p p 0 h ∙ sym e
      | no d ↦ get_or-set_other list p i p 0 d ∙ f i (omega (arith, d))
    ]
