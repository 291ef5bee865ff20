-- The indices that a test keeps, ascending: with one index more, how many they are, and when there is just one.
use mathlib.Core.Path.{◌≡◌, refl, sym, ap, ◌∙◌}
use mathlib.Core.Bool.{Bool, true, false}
use mathlib.Core.List.{List, [], ◌∷◌, ◌++◌, append-nil, Memᴰ}
use Prim.Native.Nat.{ℕ, zero, suc, ◌≤◌, ◌<◌}
use native.Mathlib.Numerals.{add-one}
use native.Mathlib.Decide.{ℕ_discrete}
use native.Mathlib.Omega.{arith}
use lib.ListN.{length, get_or, take, length-append}
use lib.Seq.{take-suc}
use Rattle.plain.specs.Choice.{select}
use Rattle.plain.specs.Lists.{range, keep_if, count}
use Rattle.plain.proofs.Below.{count-grows}
use Rattle.plain.proofs.Lists.{kept-length, kept_more, kept-none}
use Rattle.plain.proofs.Members.{range-below, range-has, kept-mem, kept-has}
use Rattle.plain.proofs.Passed.{count-more}

-- a test that does not hold fails
fails : (b : Bool) → (b ≡ true → ⊥) → b ≡ false
fails true h = absurd (h refl)
fails false h = refl

module _ (f : ℕ → Bool) where
  -- the indices below n that the test keeps
  abbrev pub kept : ℕ → List ℕ
  kept n = keep_if f (range 0 n)

  -- one index more, kept or not
  next-kept : (n : ℕ) → kept (suc n) ≡ kept n ++ select (f n) (n ∷ []) []
  next-kept n = ap kept (sym (add-one n)) ∙ kept_more n f

  pub kept_in : (n : ℕ) → f n ≡ true → kept (suc n) ≡ kept n ++ (n ∷ [])
  kept_in n t = rw (next-kept, t)

  pub kept_out : (n : ℕ) → f n ≡ false → kept (suc n) ≡ kept n
  kept_out n t = rw (next-kept, t) (append-nil (kept n))

  -- more indices, no fewer kept
  pub kept-grows : (m n : ℕ) → m ≤ n → length (kept m) ≤ length (kept n)
  kept-grows m n h = omega (arith, kept-length m f, kept-length n f, count-grows m n f h)

  -- an index that passes the test is kept
  pub kept-all : (n j : ℕ) → j < n → f j ≡ true → Memᴰ j (kept n)
  kept-all n j l t = kept-has f (range 0 n) t (range-has 0 n j (omega arith) (omega arith))

  -- and no other is
  pub kept-only : (n j : ℕ) → Memᴰ j (kept n) → (j < n) × (f j ≡ true)
  kept-only n j m = let (i, t) = kept-mem f (range 0 n) m in (omega (arith, range-below 0 n i), t)

  -- the one index that passes the test is kept alone
  pub one_kept :
      (n i : ℕ) → i < n → f i ≡ true → ((j : ℕ) → j < n → f j ≡ true → j ≡ i) → kept n ≡ i ∷ []
  one_kept zero i l t only = absurd (omega arith)
  one_kept (suc n) i l t only =
      elim (ℕ_discrete i n) [
        | yes e ↦
            rw (kept_in n (sym (ap f e) ∙ t), kept-none n f (λ j m. fails (f j) (λ h. omega (arith, only j (omega arith) h))), e)
        | no d ↦
            kept_out n (fails (f n) (λ h. d (sym (only n (omega arith) h))))
            ∙ one_kept n i (omega (arith, d)) t (λ j m. only j (omega arith))
      ]

module _ {A : Type 0} (f : A → Bool) (xs : List A) (d : A) where
  none-counted : length (kept (λ k. f (get_or xs k d)) 0) ≡ count f (take 0 xs)
  unfolding range keep_if count
  none-counted = refl

  one-or-none : (b : Bool) (i : ℕ) → length (select b (i ∷ []) []) ≡ select b 1 0
  one-or-none true i = refl
  one-or-none false i = refl

  -- as many indices are kept as elements pass the test
  pub kept-counted : (i : ℕ) → i ≤ length xs → length (kept (λ k. f (get_or xs k d)) i) ≡ count f (take i xs)
  kept-counted zero l = none-counted
  kept-counted (suc i) l =
      rw (next-kept, length-append, one-or-none, kept-counted i (omega arith), take-suc xs i d l, count-more)
