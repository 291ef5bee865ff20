-- Two calls that keep demand 3 tell the same number and words. Any two lists of the best readings have the same members, each
-- once, so they need as many words, and there is room for both or for neither.
use mathlib.Core.Path.{◌≡◌, refl, sym, ◌∙◌}
use mathlib.Core.Logic.{◌↔◌}
use mathlib.Core.List.{List, [], ◌∷◌}
use Prim.Native.Nat.{ℕ, ◌≤◌}
use native.Mathlib.Decide.{dec_le}
use native.Mathlib.Omega.{arith}
use lib.ListN.{length, length-append}
use Rattle.plain.specs.Told.{Told}
use Rattle.readings.specs.Tree.{Tree}
use Rattle.readings.specs.Scene.{Scene}
use Rattle.readings.specs.Reading.{Reading}
use Rattle.readings.specs.Answer.{tree_words, all_words, words_of}
use Rattle.readings.specs.Demand.{Best, needed, Tells, Demand3, no_match, listed}
use Rattle.readings.proofs.Runs.{total, total-fewer}

-- a best reading is a reading
best-reads : {s : Scene} (best : Best s) → Reading s best.one.0
best-reads best = (best.readings.only best.one.1).reads

all-words : (ts : List Tree) → length (all_words ts) ≡ total (λ t. length (tree_words t)) ts
unfolding all_words
all-words [] = refl
all-words (t ∷ ts) = omega (arith, length-append (tree_words t) (all_words ts), all-words ts)

module _ {s : Scene} (p q : Best s) where
  no_more : length (needed p) ≤ length (needed q)
  unfolding words_of
  no_more =
      omega (
        arith,
        total-fewer (λ (t : Tree). length (tree_words t)) p.trees q.trees p.readings.once (λ t m. q.readings.every (p.readings.only m)),
        all-words p.trees,
        all-words q.trees,
      )

pub as-many-needed : {s : Scene} (p q : Best s) → length (needed p) ≡ length (needed q)
as-many-needed p q = omega (arith, no_more p q, no_more q p)

module _ {s : Scene} {b : List ℕ} where
  same-tells : {p q : Best s} {x y : Told} → Tells p b x → Tells q b y → (x.number ≡ y.number) × (x.words ≡ y.words)
  same-tells {p} {q} {x} {y} u v = (by (dec_le (length (needed p)) (length b)), u.words ∙ as-many-needed p q ∙ sym v.words)
    where
      by : Dec (length (needed p) ≤ length b) → x.number ≡ y.number
      by (yes h) = (u.room h).0 ∙ sym (v.room (omega (arith, as-many-needed p q))).0
      by (no h) = (u.no_room (omega (arith, h))).0 ∙ sym (v.no_room (omega (arith, h, as-many-needed p q))).0

  -- so where the scan's answer has room, lookup's has
  pub same-told : {x y : Told} → Demand3 s b x → Demand3 s b y → (x.number ≡ y.number) × (x.words ≡ y.words)
  same-told (no_match n e) (no_match m f) = (e.0 ∙ sym f.0, e.1 ∙ sym f.1)
  same-told (no_match n e) (listed best v) = absurd (n _ (best-reads best))
  same-told (listed best u) (no_match m f) = absurd (m _ (best-reads best))
  same-told (listed p u) (listed q v) = same-tells u v

  number-listed : {p : Best s} {x : Told} → Tells p b x → x.number ≡ 1 → ⊥
  number-listed {p} {x} u e = by (dec_le (length (needed p)) (length b))
    where
      by : Dec (length (needed p) ≤ length b) → ⊥
      by (yes h) = omega (arith, e, (u.room h).0)
      by (no h) = omega (arith, e, (u.no_room (omega (arith, h))).0)

  -- "no match" exactly when no reading exists
  pub no-match-exactly : {x : Told} → Demand3 s b x → (x.number ≡ 1) ↔ ((t : Tree) → Reading s t → ⊥)
  no-match-exactly (no_match n e) = (λ _. n, λ _. e.0)
  no-match-exactly (listed best u) = (λ e. absurd (number-listed u e), λ n. absurd (n _ (best-reads best)))
