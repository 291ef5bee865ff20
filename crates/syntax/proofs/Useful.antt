-- The useful place: the scan's steps, for the code, and that the scan finds the place that document 01 describes.
use mathlib.Core.Path.{◌≡◌, sym, ap, ◌∙◌, subst}
use mathlib.Core.Logic.{⊎_elim}
use mathlib.Core.Bool.{Bool, true, false}
use mathlib.Core.List.{List}
use Prim.Native.Nat.{ℕ, zero, suc, ◌+◌, ◌-◌, ◌≤◌, ◌<◌, min}
use native.Mathlib.Numerals.{add-one}
use native.Mathlib.Decide.{ℕ_discrete, dec_lt}
use native.Mathlib.Omega.{arith}
use lib.ListN.{length}
use lib.Seq.{slice_empty, slice-cons}
use Rattle.plain.specs.Choice.{select}
use Rattle.plain.proofs.Tests.{tested, not-both}
use Rattle.token.specs.Token.{is_whitespace}
use Rattle.syntax.specs.Walker.{byte_at, held, moved_to, limited, UsefulPlace, skipped, useful_from, useful}
use Rattle.syntax.specs.declared.walker.Walker.{Walker}

module _ (line : List ℕ) (l : ℕ) (fits : l ≤ length line) where
  pub useful-end : useful_from line l l ≡ l
  unfolding useful_from skipped
  useful-end = rw slice_empty

  unrolled : (c : ℕ) → c < l → useful_from line c l ≡ select (is_whitespace (byte_at line c)) (useful_from line (suc c) l) c
  unfolding useful_from skipped
  unrolled c h = ap (λ (bs : List ℕ). skipped bs c) (slice-cons c l line 0 h fits)

  pub useful-here : (c : ℕ) → c < l → is_whitespace (byte_at line c) ≡ false → useful_from line c l ≡ c
  useful-here c h e = unrolled c h ∙ ap (λ (b : Bool). select b (useful_from line (suc c) l) c) e

  pub useful-later : (c : ℕ) → c < l → is_whitespace (byte_at line c) ≡ true → useful_from line (c + 1) l ≡ useful_from line c l
  useful-later c h e =
      ap (λ (n : ℕ). useful_from line n l) (add-one c)
      ∙ sym (unrolled c h ∙ ap (λ (b : Bool). select b (useful_from line (suc c) l) c) e)

  abbrev at : ℕ → Walker
  at c = record { cursor = c; limit = l }

  place_end : UsefulPlace line (at l) l
  place_end = record {
    from = omega arith;
    within = omega arith;
    passed = λ i h k. absurd (omega arith);
    stands = λ h. absurd (omega arith);
  }

  place_here : (c : ℕ) → c < l → is_whitespace (byte_at line c) ≡ false → UsefulPlace line (at c) c
  place_here c h e = record {
    from = omega arith;
    within = omega arith;
    passed = λ i p q. absurd (omega arith);
    stands = λ q. e;
  }

  place-later : (c p : ℕ) → is_whitespace (byte_at line c) ≡ true → UsefulPlace line (at (suc c)) p → UsefulPlace line (at c) p
  place-later c p e u = record {
    from = omega (arith, u.from);
    within = u.within;
    passed = λ i h k. elim (ℕ_discrete i c) [ yes q ↦ ap (λ n. is_whitespace (byte_at line n)) q ∙ e | no n ↦ u.passed i (omega (arith, n)) k ];
    stands = u.stands;
  }

  -- from any place on, with so many bytes to go
  placed : (d c : ℕ) → c + d ≡ l → UsefulPlace line (at c) (useful_from line c l)
  placed zero c e =
      let here : l ≡ c = omega arith in
      subst (λ (n : ℕ). UsefulPlace line (at n) (useful_from line n l)) here
      (subst (λ (n : ℕ). UsefulPlace line (at l) n) (sym useful-end) place_end)
  placed (suc d) c e =
      ⊎_elim
      (λ t. subst (λ (n : ℕ). UsefulPlace line (at c) n)
      (ap (λ n. useful_from line n l) (sym (add-one c)) ∙ useful-later c (omega arith) t)
      (place-later c _ t (placed d (suc c) (omega arith))))
      (λ t. subst (λ (n : ℕ). UsefulPlace line (at c) n) (sym (useful-here c (omega arith) t)) (place_here c (omega arith) t))
      (tested (is_whitespace (byte_at line c)))

-- ---- a loop over whitespace: where it stands, the useful place from here on is the one from its start

abbrev pub Skipped : List ℕ → ℕ → ℕ → ℕ → Type 0
Skipped line from end at = (at ≤ end) × (useful_from line at end ≡ useful_from line from end)

module _ (line : List ℕ) (from end : ℕ) (fits : end ≤ length line) where
  pub skip-stops : (at : ℕ) → Skipped line from end at → at < end → is_whitespace (byte_at line at) ≡ false → (at ≡ useful_from line from end) × (at ≤ end)
  skip-stops at h l f = (sym (useful-here line end fits at l f) ∙ h.1, h.0)

  pub skip_goes_on : (at : ℕ) → Skipped line from end at → at < end → is_whitespace (byte_at line at) ≡ true → Skipped line from end (at + 1)
  skip_goes_on at h l w = (omega arith, useful-later line end fits at l w ∙ h.1)

  pub skip-ends : (at : ℕ) → Skipped line from end at → end ≤ at → (at ≡ useful_from line from end) × (at ≤ end)
  skip-ends at h l =
      let last : at ≡ end = omega arith in
      (last ∙ sym (useful-end line end fits) ∙ ap (λ (n : ℕ). useful_from line n end) (sym last) ∙ h.1, h.0)

  pub skip-over : (at : ℕ) → Skipped line from end at → end ≤ at → end ≡ useful_from line from end
  skip-over at h l =
      let last : at ≡ end = omega arith in
      sym last ∙ (skip-ends at h l).0

-- a walker within its line
abbrev pub InLine : List ℕ → Walker → Type 0
InLine line w = (w.cursor ≤ w.limit) × (w.limit ≤ length line)

pub held-within : (line : List ℕ) (w : Walker) → InLine line (held line w)
unfolding held
held-within line w = (omega arith, omega arith)

pub held-is-within : (line : List ℕ) (w v : Walker) → v ≡ held line w → InLine line v
held-is-within line w v e = subst (InLine line) (sym e) (held-within line w)

-- holding a walker that is within its line changes nothing
pub held_same : (line : List ℕ) (w : Walker) → InLine line w → held line w ≡ w
unfolding held
held_same line w h =
    let l : min w.limit (length line) ≡ w.limit = omega arith in
    let c : min w.cursor (min w.limit (length line)) ≡ w.cursor = omega arith in
    λ i. record { cursor = c i; limit = l i }

-- so a walker within its line moves to a place below its limit, and takes a limit between its place and the line's end
pub index-set : (line : List ℕ) (w : Walker) (at : ℕ) → InLine line w → at ≤ w.limit
    → moved_to line at (held line w) ≡ record { cursor = at; limit = w.limit }
unfolding moved_to
index-set line w at h k = ap (moved_to line at) (held_same line w h) ∙ held_same line _ (k, h.1)

pub limit-set : (line : List ℕ) (w : Walker) (end : ℕ) → InLine line w → w.cursor ≤ end → end ≤ length line
    → limited line end (held line w) ≡ record { cursor = w.cursor; limit = end }
unfolding limited
limit-set line w end h k l = ap (limited line end) (held_same line w h) ∙ held_same line _ (k, l)

-- the scan finds the useful place
pub useful-is : (line : List ℕ) (w : Walker) → InLine line w → UsefulPlace line w (useful line w)
unfolding useful
useful-is line w h = placed line w.limit h.1 (w.limit - w.cursor) w.cursor (omega arith)

-- and there is only one
pub useful-one : (line : List ℕ) (w : Walker) (p q : ℕ) → UsefulPlace line w p → UsefulPlace line w q → p ≡ q
useful-one line w p q a b = ordered (dec_lt p q) (dec_lt q p)
  where
    before : (m n : ℕ) → UsefulPlace line w m → UsefulPlace line w n → m < n → ⊥
    before m n u v h = not-both (v.passed m u.from h) (u.stands (omega (arith, v.within)))

    ordered : Dec (p < q) → Dec (q < p) → p ≡ q
    ordered (yes h) k = absurd (before p q a b h)
    ordered (no h) (yes k) = absurd (before q p b a k)
    ordered (no h) (no k) = omega (arith, h, k)

-- what holding comes to, step by step
pub held_by : (line : List ℕ) (w : Walker) (l c : ℕ) → l ≡ min w.limit (length line) → c ≡ min w.cursor l
    → ◌≡◌ {A = Walker} (record { cursor = c; limit = l }) (held line w)
unfolding held
held_by line w l c p q = λ i. record { cursor = (q ∙ ap (min w.cursor) p) i; limit = p i }
