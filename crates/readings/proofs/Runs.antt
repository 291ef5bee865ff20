-- A run that is not refused answers the plan's value at the plan's own cost, and is not refused exactly if visits and room
-- suffice. A plan made of others costs what they cost together.
use mathlib.Core.Path.{◌≡◌, refl, sym, ◌∙◌, ap}
use mathlib.Core.Logic.{inl, inr}
use mathlib.Core.Bool.{Bool, true, false}
use Rattle.std.specs.Prelude.{Some}
use Rattle.plain.proofs.Options.{none-ne-some}
use mathlib.Core.List.Memᴰ
use mathlib.Core.List.{List, [], ◌∷◌, ◌++◌, map, Memᴰ}
use Prim.Native.Nat.{ℕ, zero, suc, ◌+◌, ◌≤◌}
use native.Mathlib.Omega.{arith}
use lib.Dec.{ltb}
use borrow.Author.Tests.{ltb-true, lt-ltb}
use Rattle.plain.specs.Lists.{Apart}
use Rattle.readings.specs.Plan.{Plan, give, visit, keep, deep, Gives, Outcome, done, stop, run, room, visits, records, pooled, ◌then◌, each, mapped}
use Rattle.readings.proofs.Plans.{then-value, each-parts}

module _ {A : Type 0} where
  refused : {n w v u : ℕ} {a : A} → stop n w ≡ done v u a → ⊥
  refused h = let z : ◌≡◌ {A = ℕ} 0 1 = cc in omega arith

  pooled-done : (b : Bool) (v : ℕ) (r : Outcome A) {w u : ℕ} {a : A} → pooled b v r ≡ done w u a → (b ≡ true) × (r ≡ done w u a)
  pooled-done true v r h = (refl, h)
  pooled-done false v r h = absurd (refused h)

  -- done: the value, and what it cost
  pub run-done : (p : Plan A) (v u : ℕ) {v' u' : ℕ} {a : A} → run p v u ≡ done v' u' a → Gives p a × (v ≡ visits p + v') × (u' ≡ records p + u)
  unfolding run
  run-done (give x) v u {v'} {u'} {a} h =
      let p : x ≡ a = cc in
      let q : v ≡ v' = cc in
      let r : u ≡ u' = cc in
      (ap Some p, omega arith, omega arith)
  run-done (visit p) zero u h = absurd (refused h)
  run-done (visit p) (suc v) u h = let (g, q, r) = run-done p v u h in (g, omega arith, r)
  run-done (keep p) v u h = let (g, q, r) = run-done p v (suc u) (pooled-done (ltb u room) v _ h).1 in (g, q, omega arith)
  run-done deep v u h = absurd (refused h)

  pub run_room : (p : Plan A) (v u : ℕ) {w z : ℕ} {a : A} → run p v u ≡ done w z a → u ≤ room → records p + u ≤ room
  unfolding run
  run_room (give x) v u h k = omega arith
  run_room (visit p) zero u h k = absurd (refused h)
  run_room (visit p) (suc v) u h k = run_room p v u h k
  run_room (keep p) v u h k =
      let (b, r) = pooled-done (ltb u room) v _ h in
      omega (arith, run_room p v (suc u) r (ltb-true u room b))
  run_room deep v u h k = absurd (refused h)

  -- and done exactly if visits and room suffice
  pub run-enough : (p : Plan A) (v w u : ℕ) {a : A} → Gives p a → records p + u ≤ room → v ≡ visits p + w → run p v u ≡ done w (records p + u) a
  unfolding run
  run-enough (give x) v w u {a} h e q =
      let p : x ≡ a = cc in
      let r : v ≡ w = omega arith in
      let i : 0 + u ≡ u = omega arith in
      cc
  run-enough (visit p) zero w u h e q = absurd (omega arith)
  run-enough (visit p) (suc v) w u h e q = run-enough p v w u h e (omega arith)
  run-enough (keep p) v w u {a} h e q =
      let t : records p + suc u ≡ suc (records p) + u = omega arith in
      let i : ltb u room ≡ true = lt-ltb u room (omega arith) in
      let r : run p v (suc u) ≡ done w (records p + suc u) a = run-enough p v w (suc u) h (omega arith) q in
      rw (i, r, t)
  run-enough deep v w u h e q = absurd (none-ne-some _ h)

  -- on number 6 no visit is left, so the visits made are the budget
  pub run-spent : (p : Plan A) (v u : ℕ) {w : ℕ} → run p v u ≡ stop 6 w → w ≡ 0
  unfolding run
  run-spent (give x) v u h = absurd (refused (sym h))
  run-spent (visit p) zero u {w} h = let e : w ≡ 0 = cc in e
  run-spent (visit p) (suc v) u h = run-spent p v u h
  run-spent (keep p) v u {w} h = go (ltb u room) h (λ k. run-spent p v (suc u) k)
    where
      go : (b : Bool) → pooled b v (run p v (suc u)) ≡ stop 6 w → (run p v (suc u) ≡ stop 6 w → w ≡ 0) → w ≡ 0
      go true e k = k e
      go false e k = let z : ◌≡◌ {A = ℕ} 8 6 = cc in absurd (omega arith)
  run-spent deep v u h = let z : ◌≡◌ {A = ℕ} 7 6 = cc in absurd (omega arith)

  -- a refusal leaves no more visits than there were
  pub stop-left : (p : Plan A) (v u : ℕ) {n w : ℕ} → run p v u ≡ stop n w → w ≤ v
  unfolding run
  stop-left (give x) v u h = absurd (refused (sym h))
  stop-left (visit p) zero u {n} {w} h = let e : w ≡ 0 = cc in omega arith
  stop-left (visit p) (suc v) u h = omega (arith, stop-left p v u h)
  stop-left (keep p) v u {n} {w} h = go (ltb u room) h (λ k. stop-left p v (suc u) k)
    where
      go : (b : Bool) → pooled b v (run p v (suc u)) ≡ stop n w → (run p v (suc u) ≡ stop n w → w ≤ v) → w ≤ v
      go true e k = k e
      go false e k = let q : w ≡ v = cc in omega arith
  stop-left deep v u {n} {w} h = let q : w ≡ v = cc in omega arith

-- ---- each answer changed: the same refusal, or the same visits and records and the answers changed

abbrev pub mapped_end : {A B : Type 0} → (A → B) → Outcome (List A) → Outcome (List B)
mapped_end f (done v u xs) = done v u (map f xs)
mapped_end f (stop n v) = stop n v

module _ {A B : Type 0} (f : A → B) where
  pub run-mapped : (p : Plan (List A)) (v u : ℕ) → run (mapped f p) v u ≡ mapped_end f (run p v u)
  unfolding mapped run ◌then◌
  run-mapped (give xs) v u = refl
  run-mapped (visit p) zero u = refl
  run-mapped (visit p) (suc v) u = run-mapped p v u
  run-mapped (keep p) v u = ap (pooled (ltb u room) v) (run-mapped p v (suc u)) ∙ go (ltb u room)
    where
      go : (b : Bool) → pooled b v (mapped_end f (run p v (suc u))) ≡ mapped_end f (pooled b v (run p v (suc u)))
      go true = refl
      go false = refl
  run-mapped deep v u = refl

-- ---- cost together

pub then-cost : {A B : Type 0} (p : Plan A) (f : A → Plan B) {a : A} → Gives p a
    → (visits (p then f) ≡ visits p + visits (f a)) × (records (p then f) ≡ records p + records (f a))
unfolding ◌then◌
then-cost (give x) f {a} h = let e : x ≡ a = cc in rw e (omega arith)
then-cost (visit p) f h = let (i, j) = then-cost p f h in (omega arith, omega arith)
then-cost (keep p) f h = let (i, j) = then-cost p f h in (omega arith, omega arith)
then-cost deep f h = absurd (none-ne-some _ h)

abbrev pub total : {A : Type 0} → (A → ℕ) → List A → ℕ
total f [] = 0
total f (x ∷ xs) = f x + total f xs

module _ {A B : Type 0} (f : A → Plan (List B)) where
  pub each-cost : (xs : List A) {rs : List B} → Gives (each xs f) rs
      → (visits (each xs f) ≡ total (λ x. visits (f x)) xs) × (records (each xs f) ≡ total (λ x. records (f x)) xs)
  unfolding each ◌then◌
  each-cost [] h = (refl, refl)
  each-cost (x ∷ xs) h =
      let (a, b, p, q, e) = each-parts f x xs h in
      let (i, j) = then-cost (f x) (λ a. each xs f then λ b. give (a ++ b)) p in
      let (k, l) = then-cost (each xs f) (λ b. give (a ++ b)) q in
      let (m, n) = each-cost xs q in
      (omega arith, omega arith)

  pub each_gave : (xs : List A) {rs : List B} {x : A} → Gives (each xs f) rs → Memᴰ x xs → (r : List B) × Gives (f x) r
  each_gave [] h m = absurd (Memᴰ.not-nil m)
  each_gave (y ∷ xs) h m =
      let (a, b, p, q, e) = each-parts f y xs h in
      elim (Memᴰ.cases_cons m) [ inl i ↦ (a, rw i p) | inr j ↦ each_gave xs q j ]

  pub each-gives : (xs : List A) → ((x : A) → Memᴰ x xs → (r : List B) × Gives (f x) r) → (rs : List B) × Gives (each xs f) rs
  unfolding each ◌then◌
  each-gives [] h = ([], refl)
  each-gives (x ∷ xs) h =
      let (a, p) = h x (Memᴰ.head refl) in
      let (b, q) = each-gives xs (λ y m. h y (Memᴰ.tail m)) in
      (a ++ b, then-value (f x) (λ a. each xs f then λ b. give (a ++ b)) p (then-value (each xs f) (λ b. give (a ++ b)) q refl))

-- ---- fewer members cost no more

without : {A : Type 0} {x : A} {xs : List A} → Memᴰ x xs → List A
without (Memᴰ.head {xs = xs} e) = xs
without (Memᴰ.tail {x = y} m) = y ∷ without m

module _ {A : Type 0} where
  without-total : (f : A → ℕ) {x : A} {xs : List A} (m : Memᴰ x xs) → total f xs ≡ f x + total f (without m)
  unfolding without
  without-total f (Memᴰ.head e) = rw e refl
  without-total f (Memᴰ.tail m) = omega (arith, without-total f m)

  without-mem : {x y : A} {xs : List A} (m : Memᴰ x xs) → Memᴰ y xs → (x ≡ y → ⊥) → Memᴰ y (without m)
  unfolding without
  without-mem (Memᴰ.head e) n d = elim (Memᴰ.cases_cons n) [ inl q ↦ absurd (d (e ∙ sym q)) | inr j ↦ j ]
  without-mem (Memᴰ.tail m) n d = elim (Memᴰ.cases_cons n) [ inl q ↦ Memᴰ.head q | inr j ↦ Memᴰ.tail (without-mem m j d) ]

  pub total-fewer : (f : A → ℕ) (xs ys : List A) → Apart (λ (x : A). x) xs → ((x : A) → Memᴰ x xs → Memᴰ x ys) → total f xs ≤ total f ys
  total-fewer f [] ys u h = omega arith
  total-fewer f (x ∷ xs) ys u h =
      let m = h x (Memᴰ.head refl) in
      omega (arith, without-total f m, total-fewer f xs (without m) u.1 (λ y n. without-mem m (h y (Memᴰ.tail n)) (u.0 y n)))
