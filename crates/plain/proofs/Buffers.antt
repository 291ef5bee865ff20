-- Lists put into a buffer: nothing, three words stored one by one, and two lists, the second after the first, which are put
-- there as one.
use mathlib.Core.Path.{◌≡◌, sym, ap, ap₂, ◌∙◌}
use mathlib.Core.List.{List, [], ◌∷◌, ◌++◌, append_assoc, append-nil}
use Prim.Native.Nat.{ℕ, ◌+◌, ◌≤◌}
use native.Mathlib.Numerals.{add-one}
use native.Mathlib.Nat.{add-zero}
use native.Mathlib.Omega.{arith}
use lib.ListN.{length, take, drop, set, length-append, take-append-drop}
use lib.Seq.{length-take-le, take_at, drop_at, drop-drop, sets-eq}
use Rattle.plain.specs.Buffers.{put_after}

pub put-none : (at : ℕ) (buffer : List ℕ) → (buffer, at) ≡ put_after at [] buffer
put-none at buffer =
    ap₂ (λ (l : List ℕ) (n : ℕ). (l, n))
    (sym (take-append-drop at buffer) ∙ ap₂ (λ (l : List ℕ) (n : ℕ). l ++ drop n buffer) (sym (append-nil (take at buffer))) (sym (add-zero at)))
    (sym (add-zero at))

pub put-end : {b : List ℕ} {n : ℕ} (at : ℕ) (ws buffer : List ℕ) → (b, n) ≡ put_after at ws buffer → n ≡ at + length ws
put-end at ws buffer e = ap (λ (x : List ℕ × ℕ). x.1) e

module _ (at : ℕ) (ws vs buffer : List ℕ) (room : at + length ws ≤ length buffer) where
  front : length (take at buffer ++ ws) ≡ at + length ws
  front = omega (arith, length-append (take at buffer) ws, length-take-le at buffer (omega arith))

  -- the second list, put after the first
  abbrev second : List ℕ × ℕ
  second = put_after (at + length ws) vs (take at buffer ++ ws ++ drop (at + length ws) buffer)

  as_one : second ≡ put_after at (ws ++ vs) buffer
  as_one =
      let p = take at buffer ++ ws in
      let q = drop (at + length ws) buffer in
      let n = at + length ws in
      let all : n + length vs ≡ at + length (ws ++ vs) = omega (arith, length-append ws vs) in
      let before : take n (p ++ q) ++ vs ≡ take at buffer ++ (ws ++ vs) = ap (λ (l : List ℕ). l ++ vs) (take_at p q n front) ∙ append_assoc (take at buffer) ws vs in
      let after : drop (n + length vs) (p ++ q) ≡ drop (at + length (ws ++ vs)) buffer = sym (drop-drop (length vs) n (p ++ q)) ∙ ap (drop (length vs)) (drop_at p q n front) ∙ drop-drop (length vs) n buffer ∙ ap (λ (k : ℕ). drop k buffer) all in
      ap₂ (λ (l : List ℕ) (k : ℕ). (l, k)) (ap₂ ◌++◌ before after) all

  pub put-more : {b d : List ℕ} {n k : ℕ} → (b, n) ≡ put_after at ws buffer → (d, k) ≡ put_after n vs b → (d, k) ≡ put_after at (ws ++ vs) buffer
  put-more e f = f ∙ ap (λ (x : List ℕ × ℕ). put_after x.1 vs x.0) e ∙ as_one

pub put_three : (at x y z : ℕ) (buffer : List ℕ) → at + 3 ≤ length buffer
    → (set (set (set buffer at x) (at + 1) y) (at + 2) z, at + 3) ≡ put_after at (x ∷ y ∷ z ∷ []) buffer
put_three at x y z buffer h =
    ap (λ (l : List ℕ). (l, at + 3))
    (ap₂ (λ (n m : ℕ). set (set (set buffer at x) n y) m z) (add-one at) (omega arith)
    ∙ sets-eq (x ∷ y ∷ z ∷ []) buffer at h)
