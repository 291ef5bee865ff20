-- Bytes compared, and bytes cut into pieces: cutting undoes parting and ending.
use mathlib.Core.Path.{◌≡◌, refl, sym, ap, ap₂, ◌∙◌}
use mathlib.Core.Bool.{Bool, true, false, not, ◌&&◌}
use mathlib.Core.List.{List, [], ◌∷◌, ◌++◌, append_assoc}
use Prim.Native.Nat.{ℕ, ◌<◌}
use native.Mathlib.Omega.{arith}
use lib.Dec.{eqb}
use lib.ListN.{length}
use borrow.Author.Tests.{eqb-true, eq-eqb, not-true}
use Rattle.plain.specs.Choice.{select}
use Rattle.plain.specs.Lists.{every}
use Rattle.plain.proofs.Tests.{not-both, and_left, and_right, and_both}
use Rattle.plain.proofs.Every.{every_append}
use Rattle.printing.specs.Listing.{Bytes, parted, ended}
use Rattle.printing.specs.Reading.{same, onto, pieces}
use Rattle.printing.specs.FirstBad.{lacks}

pub same_refl : (x : Bytes) → same x x ≡ true
unfolding same
same_refl [] = refl
same_refl (b ∷ x) = and_both _ _ (eq-eqb b b refl) (same_refl x)

pub same_true : (x y : Bytes) → same x y ≡ true → x ≡ y
unfolding same
same_true [] [] h = refl
same_true [] (c ∷ y) h = absurd (not-both h refl)
same_true (b ∷ x) [] h = absurd (not-both h refl)
same_true (b ∷ x) (c ∷ y) h = ap₂ ◌∷◌ (eqb-true b c (and_left _ _ h)) (same_true x y (and_right (eqb b c) _ h))

module _ (c : ℕ) where
  pub lacks-append : (x y : Bytes) → lacks c x ≡ true → lacks c y ≡ true → lacks c (x ++ y) ≡ true
  unfolding lacks
  lacks-append x y p q = every_append (λ b. not (eqb b c)) x y p q

  -- one piece, and a piece before a cut
  pub piece-last : (x : Bytes) → lacks c x ≡ true → pieces c x ≡ x ∷ []
  unfolding lacks every pieces
  piece-last [] h = refl
  piece-last (b ∷ x) h =
      ap (λ (t : Bool). select t ([] ∷ pieces c x) (onto b (pieces c x))) (not-true (eqb b c) (and_left _ _ h))
      ∙ ap (onto b) (piece-last x (and_right (not (eqb b c)) _ h))

  pub piece-first : (x t : Bytes) → lacks c x ≡ true → pieces c (x ++ (c ∷ t)) ≡ x ∷ pieces c t
  unfolding lacks every pieces
  piece-first [] t h = ap (λ (b : Bool). select b ([] ∷ pieces c t) (onto c (pieces c t))) (eq-eqb c c refl)
  piece-first (b ∷ x) t h =
      ap (λ (s : Bool). select s ([] ∷ pieces c (x ++ (c ∷ t))) (onto b (pieces c (x ++ (c ∷ t))))) (not-true (eqb b c) (and_left _ _ h))
      ∙ ap (onto b) (piece-first x t (and_right (not (eqb b c)) _ h))

  pub pieces-parted : (x : Bytes) (xs : List Bytes) → every (lacks c) (x ∷ xs) ≡ true → pieces c (parted c (x ∷ xs)) ≡ x ∷ xs
  unfolding every parted
  pieces-parted x [] h = piece-last x (and_left _ _ h)
  pieces-parted x (y ∷ xs) h =
      piece-first x (parted c (y ∷ xs)) (and_left _ _ h) ∙ ap (λ (l : List Bytes). x ∷ l) (pieces-parted y xs (and_right (lacks c x) _ h))

  -- there is a piece
  pub pieces-some : (t : Bytes) → 0 < length (pieces c t)
  unfolding pieces
  pieces-some [] = omega arith
  pieces-some (b ∷ t) = go (eqb b c) (pieces c t)
    where
      go : (s : Bool) (ps : List Bytes) → 0 < length (select s ([] ∷ ps) (onto b ps))
      go true ps = omega arith
      go false [] = omega arith
      go false (x ∷ ps) = omega arith

  -- pieces parted are what was cut
  parted-none : (ps : List Bytes) → 0 < length ps → parted c ([] ∷ ps) ≡ c ∷ parted c ps
  unfolding parted
  parted-none [] h = absurd (omega arith)
  parted-none (x ∷ ps) h = refl

  parted-onto : (b : ℕ) (ps : List Bytes) → parted c (onto b ps) ≡ b ∷ parted c ps
  unfolding parted
  parted-onto b [] = refl
  parted-onto b (x ∷ []) = refl
  parted-onto b (x ∷ (y ∷ ps)) = refl

  pub parted-pieces : (t : Bytes) → parted c (pieces c t) ≡ t
  unfolding pieces parted
  parted-pieces [] = refl
  parted-pieces (b ∷ t) = go (eqb b c) refl (parted-pieces t)
    where
      go : (s : Bool) → eqb b c ≡ s → parted c (pieces c t) ≡ t → parted c (select s ([] ∷ pieces c t) (onto b (pieces c t))) ≡ b ∷ t
      go true e h = parted-none (pieces c t) (pieces-some t) ∙ ap₂ ◌∷◌ (sym (eqb-true b c e)) h
      go false e h = parted-onto b (pieces c t) ∙ ap (λ (l : Bytes). b ∷ l) h

  -- no piece has the byte
  pub pieces-lack : (t : Bytes) → every (lacks c) (pieces c t) ≡ true
  unfolding pieces every lacks
  pieces-lack [] = refl
  pieces-lack (b ∷ t) = go (eqb b c) refl (pieces c t) (pieces-lack t)
    where
      go : (s : Bool) → eqb b c ≡ s → (ps : List Bytes) → every (lacks c) ps ≡ true → every (lacks c) (select s ([] ∷ ps) (onto b ps)) ≡ true
      go true e ps h = h
      go false e [] h = ap (λ (s : Bool). (not s && true) && true) e
      go false e (x ∷ ps) h = ap (λ (s : Bool). (not s && lacks c x) && every (lacks c) ps) e ∙ h

-- lines ended, before more text
pub pieces-ended : (xs : List Bytes) (t : Bytes) → every (lacks 10) xs ≡ true → pieces 10 (ended xs ++ t) ≡ xs ++ pieces 10 t
unfolding ended every
pieces-ended [] t h = refl
pieces-ended (x ∷ xs) t h =
    ap (pieces 10) (append_assoc x (10 ∷ ended xs) t)
    ∙ piece-first 10 x (ended xs ++ t) (and_left _ _ h)
    ∙ ap (λ (l : List Bytes). x ∷ l) (pieces-ended xs t (and_right (lacks 10 x) _ h))

pub parted-ended : (xs : List Bytes) (y : Bytes) (ys : List Bytes) → parted 10 (xs ++ (y ∷ ys)) ≡ ended xs ++ parted 10 (y ∷ ys)
unfolding ended parted
parted-ended [] y ys = refl
parted-ended (x ∷ []) y ys = sym (append_assoc x (10 ∷ []) (parted 10 (y ∷ ys)))
parted-ended (x ∷ (z ∷ xs)) y ys =
    ap (λ (l : Bytes). x ++ (10 ∷ l)) (parted-ended (z ∷ xs) y ys) ∙ sym (append_assoc x (10 ∷ ended (z ∷ xs)) (parted 10 (y ∷ ys)))

pub ended-append : (xs ys : List Bytes) → ended (xs ++ ys) ≡ ended xs ++ ended ys
unfolding ended
ended-append [] ys = refl
ended-append (x ∷ xs) ys = ap (λ (l : Bytes). x ++ (10 ∷ l)) (ended-append xs ys) ∙ sym (append_assoc x (10 ∷ ended xs) (ended ys))
