-- Two prefixes compared by their numbers: the first byte that differs decides, and a rule's byte that is 0 is none.
use mathlib.Core.Path.{◌≡◌, refl, sym, ap, ap₂, ◌∙◌}
use mathlib.Core.Logic.{inl, inr}
use mathlib.Core.Bool.{Bool, true, false}
use mathlib.Core.List.{List, [], ◌∷◌}
use Prim.Native.Nat.{ℕ, zero, suc, ◌+◌, ◌*◌, ◌/◌, ◌%◌, ◌≤◌, ◌<◌}
use native.Mathlib.Omega.{arith}
use lib.Dec.{eqb, ltb}
use lib.ListN.{length, get_or, drop}
use borrow.Author.Tests.{eq-eqb, ne_eqb, eqb-true, eqb-false, lt-ltb, le-ltb, ltb-true, ltb-false}
use Rattle.std.specs.Prelude.{Option, None, Some}
use Rattle.plain.specs.Choice.{select}
use Rattle.plain.specs.Lists.{every}
use Rattle.plain.proofs.Tests.{tested}
use Rattle.sorting.proofs.Insertions.{every-head, every-tail}
use Rattle.readings.specs.Fail.{agreed, failing}
use Rattle.leads.specs.Leads.{key_of, failing_by, some_visits, failing_of}
use Rattle.leads.proofs.Keys.{is_byte, byte-some, small_at}

-- ---- how a rule fails, byte by byte

-- so many bytes later
abbrev later : ℕ → ℕ → ℕ
later v zero = 0
later v (suc m) = suc (v + m)

later-zero : (m : ℕ) → later 0 m ≡ m
later-zero zero = refl
later-zero (suc m) = omega arith

later_more : (v m : ℕ) → later (suc v) m ≡ later v (later 1 m)
later_more v zero = refl
later_more v (suc m) = omega arith

pub failing-none : (p : List ℕ) → failing [] p ≡ 0
unfolding failing agreed
failing-none p = ap (λ (b : Bool). select b 1 0) (le-ltb 0 0 (omega arith))

failing-ends : (b : ℕ) (q : List ℕ) → failing (b ∷ q) [] ≡ 1
unfolding failing agreed
failing-ends b q = ap (λ (t : Bool). select t 1 0) (lt-ltb 0 (suc (length q)) (omega arith))

module _ (b a : ℕ) (q p : List ℕ) where
  agreed-by : (t : Bool) → eqb a b ≡ t → agreed (b ∷ q) (a ∷ p) ≡ select t (suc (agreed q p)) 0
  unfolding agreed
  agreed-by t e = ap (λ (t : Bool). select t (suc (agreed q p)) 0) e

  failing-other : (b ≡ a → ⊥) → failing (b ∷ q) (a ∷ p) ≡ 1
  unfolding failing
  failing-other d =
      let e = agreed-by false (ne_eqb a b (λ k. d (sym k))) in
      let i : ltb 0 (suc (length q)) ≡ true = lt-ltb 0 (suc (length q)) (omega arith) in
      rw (e, i)

  failing-same : b ≡ a → failing (b ∷ q) (a ∷ p) ≡ later 1 (failing q p)
  unfolding failing
  failing-same s =
      let e = agreed-by true (eq-eqb a b (sym s)) in
      elim (tested (ltb (agreed q p) (length q))) [
        | inl t ↦ let i : ltb (suc (agreed q p)) (suc (length q)) ≡ true = lt-ltb (suc (agreed q p)) (suc (length q)) (omega (arith, ltb-true (agreed q p) (length q) t)) in rw (e, t, i) (omega arith)
        | inr t ↦ let i : ltb (suc (agreed q p)) (suc (length q)) ≡ false = le-ltb (suc (agreed q p)) (suc (length q)) (omega (arith, ltb-false (agreed q p) (length q) t)) in rw (e, t, i) refl
      ]

-- of n bytes, after v that agree
unfoldable by_bytes : ℕ → ℕ → List ℕ → List ℕ → ℕ
by_bytes zero v q p = 0
by_bytes (suc n) v q p =
    select (eqb (get_or q 0 0) (get_or p 0 0)) (by_bytes n (suc v) (drop 1 q) (drop 1 p)) (select (eqb (get_or q 0 0) 0) 0 (suc v))

by-bytes : (n v : ℕ) (q p : List ℕ) → every is_byte q ≡ true → length q ≤ n → by_bytes n v q p ≡ later v (failing q p)
unfolding by_bytes
by-bytes zero v [] p k l = sym (ap (later v) (failing-none p))
by-bytes zero v (b ∷ q) p k l = absurd (omega arith)
by-bytes (suc n) v [] p k l =
    none (eqb 0 (get_or p 0 0)) (by-bytes n (suc v) [] (drop 1 p) k (omega arith) ∙ ap (later (suc v)) (failing-none (drop 1 p))) ∙ sym (ap (later v) (failing-none p))
  where
    none : (t : Bool) → by_bytes n (suc v) [] (drop 1 p) ≡ 0 → select t (by_bytes n (suc v) [] (drop 1 p)) 0 ≡ 0
    none true e = e
    none false e = refl
by-bytes (suc n) v (b ∷ q) [] k l =
    let i : eqb b 0 ≡ false = ne_eqb b 0 (λ e. omega (arith, byte-some b (every-head is_byte b q k))) in
    rw (i, failing-ends b q) (omega arith)
by-bytes (suc n) v (b ∷ q) (a ∷ p) k l =
    elim (tested (eqb b a)) [
      | inl t ↦
          rw t
          (by-bytes n (suc v) q p (every-tail is_byte b q k) (omega arith) ∙ later_more v (failing q p) ∙ ap (later v) (sym (failing-same b a q p (eqb-true b a t))))
      | inr t ↦
          let i : eqb b 0 ≡ false = ne_eqb b 0 (λ e. omega (arith, byte-some b (every-head is_byte b q k))) in
          let f = failing-other b a q p (eqb-false b a t) in
          rw (t, i, f) (omega arith)
    ]

-- ---- the same by numbers

-- a number without its lower bytes
module _ (l : List ℕ) (small : (j : ℕ) → get_or l j 0 < 256) where
  without-one : key_of l / 256 ≡ (get_or l 0 0 * 256 + get_or l 1 0) * 256 + get_or l 2 0
  unfolding key_of
  without-one = omega (arith, small 3)

  without-two : key_of l / 65536 ≡ get_or l 0 0 * 256 + get_or l 1 0
  unfolding key_of
  without-two = omega (arith, small 2, small 3)

  without-three : key_of l / 16777216 ≡ get_or l 0 0
  unfolding key_of
  without-three = omega (arith, small 1, small 2, small 3)

-- the last byte
last_byte : (a : ℕ) {b : ℕ} → b < 256 → (a * 256 + b) % 256 ≡ b
last_byte a h = omega arith

-- numbers whose upper bytes are the same are the same if the last is
same-last : {a c : ℕ} (b d : ℕ) → a ≡ c → eqb (a * 256 + b) (c * 256 + d) ≡ eqb b d
same-last {a} {c} b d e =
    elim (tested (eqb b d)) [
      | inl t ↦ eq-eqb (a * 256 + b) (c * 256 + d) (omega (arith, e, eqb-true b d t)) ∙ sym t
      | inr t ↦ ne_eqb (a * 256 + b) (c * 256 + d) (λ k. eqb-false b d t (omega (arith, e))) ∙ sym t
    ]

module _ (q p : List ℕ) (bytes : every is_byte q ≡ true) (small-p : (j : ℕ) → get_or p j 0 < 256) where
  small-q : (j : ℕ) → get_or q j 0 < 256
  small-q = small_at q bytes

  abbrev q₀ : ℕ
  q₀ = get_or q 0 0

  abbrev q₁ : ℕ
  q₁ = get_or q 1 0

  abbrev q₂ : ℕ
  q₂ = get_or q 2 0

  abbrev q₃ : ℕ
  q₃ = get_or q 3 0

  abbrev p₀ : ℕ
  p₀ = get_or p 0 0

  abbrev p₁ : ℕ
  p₁ = get_or p 1 0

  abbrev p₂ : ℕ
  p₂ = get_or p 2 0

  abbrev p₃ : ℕ
  p₃ = get_or p 3 0

  abbrev unless : ℕ → ℕ → ℕ
  unless b v = select (eqb b 0) 0 v

  at-fourth : (q₀ * 256 + q₁) * 256 + q₂ ≡ (p₀ * 256 + p₁) * 256 + p₂ → select (eqb (key_of q) (key_of p)) 0 (unless (key_of q % 256) 4) ≡ select (eqb q₃ p₃) 0 (unless q₃ 4)
  unfolding key_of
  at-fourth e = ap₂ (λ (t : Bool) (b : ℕ). select t 0 (unless b 4)) (same-last q₃ p₃ e) (last_byte ((q₀ * 256 + q₁) * 256 + q₂) (small-q 3))

  at-third : (rest : ℕ) → q₀ * 256 + q₁ ≡ p₀ * 256 + p₁ → select (eqb (key_of q / 256) (key_of p / 256)) rest (unless (key_of q / 256 % 256) 3) ≡ select (eqb q₂ p₂) rest (unless q₂ 3)
  at-third rest e =
      ap₂ (λ (x y : ℕ). select (eqb x y) rest (unless (x % 256) 3)) (without-one q small-q) (without-one p small-p)
      ∙ ap₂ (λ (t : Bool) (b : ℕ). select t rest (unless b 3)) (same-last q₂ p₂ e) (last_byte (q₀ * 256 + q₁) (small-q 2))

  at_second : (rest : ℕ) → q₀ ≡ p₀ → select (eqb (key_of q / 65536) (key_of p / 65536)) rest (unless (key_of q / 65536 % 256) 2) ≡ select (eqb q₁ p₁) rest (unless q₁ 2)
  at_second rest e =
      ap₂ (λ (x y : ℕ). select (eqb x y) rest (unless (x % 256) 2)) (without-two q small-q) (without-two p small-p)
      ∙ ap₂ (λ (t : Bool) (b : ℕ). select t rest (unless b 2)) (same-last q₁ p₁ e) (last_byte q₀ (small-q 1))

  at_first : (rest : ℕ) → select (eqb (key_of q / 16777216) (key_of p / 16777216)) rest (unless (key_of q / 16777216 % 256) 1) ≡ select (eqb q₀ p₀) rest (unless q₀ 1)
  at_first rest =
      let low : q₀ % 256 ≡ q₀ = omega (arith, small-q 0) in
      ap₂ (λ (x y : ℕ). select (eqb x y) rest (unless (x % 256) 1)) (without-three q small-q) (without-three p small-p)
      ∙ ap (λ (b : ℕ). select (eqb q₀ p₀) rest (unless b 1)) low

  -- what comes after a test may lean on it
  under : (b : Bool) (x y z : ℕ) → (b ≡ true → x ≡ y) → select b x z ≡ select b y z
  under true x y z f = f refl
  under false x y z f = refl

  abbrev told : ℕ → ℕ → ℕ → ℕ → ℕ → ℕ → ℕ → ℕ → ℕ
  told a b c d e f g h = select (eqb a e) (select (eqb b f) (select (eqb c g) (select (eqb d h) 0 (unless d 4)) (unless c 3)) (unless b 2)) (unless a 1)

  by-places : failing_by (key_of q) (key_of p) ≡ told q₀ q₁ q₂ q₃ p₀ p₁ p₂ p₃
  unfolding failing_by
  by-places =
      at_first _
      ∙ under (eqb q₀ p₀) _ _ (unless q₀ 1)
      (λ e. at_second _ (eqb-true q₀ p₀ e)
      ∙ under (eqb q₁ p₁) _ _ (unless q₁ 2)
      (λ f. let two : q₀ * 256 + q₁ ≡ p₀ * 256 + p₁ = omega (arith, eqb-true q₀ p₀ e, eqb-true q₁ p₁ f) in
      at-third _ two ∙ under (eqb q₂ p₂) _ _ (unless q₂ 3) (λ g. at-fourth (omega (arith, two, eqb-true q₂ p₂ g)))))

  as_bytes : by_bytes 4 0 q p ≡ told q₀ q₁ q₂ q₃ p₀ p₁ p₂ p₃
  unfolding by_bytes
  as_bytes = λ i. told q₀ (next q 0 i) (after_two q i) (after-three q i) p₀ (next p 0 i) (after_two p i) (after-three p i)
    where
      next : (l : List ℕ) (j : ℕ) → get_or (drop 1 l) j 0 ≡ get_or l (suc j) 0
      next [] j = refl
      next (x ∷ l) j = refl

      after_two : (l : List ℕ) → get_or (drop 1 (drop 1 l)) 0 0 ≡ get_or l 2 0
      after_two l = next (drop 1 l) 0 ∙ next l 1

      after-three : (l : List ℕ) → get_or (drop 1 (drop 1 (drop 1 l))) 0 0 ≡ get_or l 3 0
      after-three l = next (drop 1 (drop 1 l)) 0 ∙ next (drop 1 l) 1 ∙ next l 2

  pub failing-by : length q ≤ 4 → failing_by (key_of q) (key_of p) ≡ failing q p
  failing-by few = by-places ∙ sym as_bytes ∙ by-bytes 4 0 q p bytes few ∙ later-zero (failing q p)

-- ---- as the code tests

-- no visits are none
none-ended : (b : Bool) (v : ℕ) → 0 < v → some_visits (select b 0 v) ≡ select b None (Some v)
none-ended true v h = refl
none-ended false v h = rw (ne_eqb v 0 (λ e. omega arith))

pub nothing_known : (rule : ℕ) {a : Option ℕ} → a ≡ None → None ≡ failing_of rule a
unfolding failing_of
nothing_known rule e = rw e

module _ (rule line : ℕ) {a : Option ℕ} (is : a ≡ Some line) {r : Option ℕ} where
  pub differ-first : (rule / 16777216 ≡ line / 16777216 → ⊥) → r ≡ select (eqb (rule / 16777216 % 256) 0) None (Some 1) → r ≡ failing_of rule a
  unfolding failing_of failing_by
  differ-first d e = rw (is, ne_eqb (rule / 16777216) (line / 16777216) d) (e ∙ sym (none-ended _ 1 (omega arith)))

  module _ (x : rule / 16777216 ≡ line / 16777216) where
    pub differ-second : (rule / 65536 ≡ line / 65536 → ⊥) → r ≡ select (eqb (rule / 65536 % 256) 0) None (Some 2) → r ≡ failing_of rule a
    unfolding failing_of failing_by
    differ-second d e = rw (is, eq-eqb (rule / 16777216) (line / 16777216) x, ne_eqb (rule / 65536) (line / 65536) d) (e ∙ sym (none-ended _ 2 (omega arith)))

    module _ (y : rule / 65536 ≡ line / 65536) where
      pub differ-third : (rule / 256 ≡ line / 256 → ⊥) → r ≡ select (eqb (rule / 256 % 256) 0) None (Some 3) → r ≡ failing_of rule a
      unfolding failing_of failing_by
      differ-third d e = rw (is, eq-eqb (rule / 16777216) (line / 16777216) x, eq-eqb (rule / 65536) (line / 65536) y, ne_eqb (rule / 256) (line / 256) d) (e ∙ sym (none-ended _ 3 (omega arith)))

      module _ (z : rule / 256 ≡ line / 256) where
        pub differ-fourth : (rule ≡ line → ⊥) → r ≡ select (eqb (rule % 256) 0) None (Some 4) → r ≡ failing_of rule a
        unfolding failing_of failing_by
        differ-fourth d e = rw (is, eq-eqb (rule / 16777216) (line / 16777216) x, eq-eqb (rule / 65536) (line / 65536) y, eq-eqb (rule / 256) (line / 256) z, ne_eqb rule line d) (e ∙ sym (none-ended _ 4 (omega arith)))

        pub differ-nowhere : rule ≡ line → r ≡ None → r ≡ failing_of rule a
        unfolding failing_of failing_by
        differ-nowhere d e = rw (is, eq-eqb (rule / 16777216) (line / 16777216) x, eq-eqb (rule / 65536) (line / 65536) y, eq-eqb (rule / 256) (line / 256) z, eq-eqb rule line d) e
