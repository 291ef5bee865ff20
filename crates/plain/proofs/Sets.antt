-- Runs of stores (`sets`): one run after another is one run, and runs that lie apart may change places.
use mathlib.Core.Path.{◌≡◌, refl, ap, ◌∙◌}
use mathlib.Core.List.{List, [], ◌∷◌, ◌++◌}
use Prim.Native.Nat.{ℕ, zero, suc, ◌+◌, ◌≤◌, ◌<◌}
use native.Mathlib.Omega.{arith}
use lib.ListN.{length, set, drop}
use lib.Seq.{sets, sets-eq}
use Rattle.plain.specs.Buffers.{at_start}

pub sets-append : (t : List ℕ) (i : ℕ) (xs ys : List ℕ) → sets t i (xs ++ ys) ≡ sets (sets t i xs) (i + length xs) ys
sets-append t i [] ys = ap (λ (n : ℕ). sets t n ys) (omega arith)
sets-append t i (x ∷ xs) ys = sets-append (set t i x) (suc i) xs ys ∙ ap (λ (n : ℕ). sets (sets (set t i x) (suc i) xs) n ys) (omega arith)

set_apart : (t : List ℕ) (i j x y : ℕ) → i < j → set (set t i x) j y ≡ set (set t j y) i x
set_apart [] i j x y h = refl
set_apart (a ∷ t) i zero x y h = absurd (omega arith)
set_apart (a ∷ t) zero (suc j) x y h = refl
set_apart (a ∷ t) (suc i) (suc j) x y h = ap (λ (l : List ℕ). a ∷ l) (set_apart t i j x y (omega arith))

set-sets : (t : List ℕ) (i x j : ℕ) (ys : List ℕ) → i < j → sets (set t i x) j ys ≡ set (sets t j ys) i x
set-sets t i x j [] h = refl
set-sets t i x j (y ∷ ys) h = ap (λ (l : List ℕ). sets l (suc j) ys) (set_apart t i j x y h) ∙ set-sets (set t j y) i x (suc j) ys (omega arith)

pub sets-apart : (t : List ℕ) (i : ℕ) (xs : List ℕ) (j : ℕ) (ys : List ℕ) → i + length xs ≤ j → sets (sets t i xs) j ys ≡ sets (sets t j ys) i xs
sets-apart t i [] j ys h = refl
sets-apart t i (x ∷ xs) j ys h =
    sets-apart (set t i x) (suc i) xs j ys (omega arith) ∙ ap (λ (l : List ℕ). sets l (suc i) xs) (set-sets t i x j ys (omega arith))

-- a run from the start is a list written there
pub sets-start : (t xs : List ℕ) → length xs ≤ length t → sets t 0 xs ≡ at_start xs t
sets-start t xs h = let size : 0 + length xs ≡ length xs = omega arith in sets-eq xs t 0 (omega arith) ∙ ap (λ (n : ℕ). xs ++ drop n t) size
