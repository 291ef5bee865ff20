-- What the sentences of acceptance say of sizes and of a part word.
use mathlib.Core.Path.{◌≡◌, sym, ◌∙◌}
use mathlib.Core.Bool.{true, false, not, ◌&&◌, or-false}
use Prim.Native.Nat.{ℕ, ◌+◌, ◌-◌, ◌≤◌, ◌<◌}
use native.Mathlib.Decide.{dec_lt}
use native.Mathlib.Omega.{arith}
use lib.Dec.{eqb, leb, ltb}
use borrow.Author.Tests.{leb-true, le-leb, lt-leb, ne_eqb, lt-ltb, le-ltb}
use Rattle.plain.proofs.Tests.{and_left, and_right}
use Rattle.defs.specs.Table.{in_range, is_part}

pub record Sizes (s r p : ℕ) : Type 0 where
  pub some : 1 ≤ s
  pub sets : s ≤ 32
  pub rules : r ≤ 512
  pub parts : p ≤ 8192

pub sizes-bound : (s r p : ℕ) → in_range s r p ≡ true → Sizes s r p
unfolding in_range
sizes-bound s r p e =
    let abc = and_left (leb 1 s && leb s 32 && leb r 512) (leb p 8192) e in
    let ab = and_left (leb 1 s && leb s 32) (leb r 512) abc in
    record {
      some = leb-true 1 s (and_left (leb 1 s) (leb s 32) ab);
      sets = leb-true s 32 (and_right (leb 1 s) (leb s 32) ab);
      rules = leb-true r 512 (and_right (leb 1 s && leb s 32) (leb r 512) abc);
      parts = leb-true p 8192 (and_right (leb 1 s && leb s 32 && leb r 512) (leb p 8192) e);
    }

-- ---- a part word

module _ (s w : ℕ) where
  pub part_low : w < 33 → false ≡ is_part s w
  unfolding is_part
  part_low h = sym (rw (is_part, lt-leb 33 w h, lt-eqb 256 (omega arith), lt-eqb 257 (omega arith), lt-leb 512 w (omega arith)))
    where
      lt-eqb : (n : ℕ) → w < n → eqb w n ≡ false
      lt-eqb n l = ne_eqb w n (λ e. omega arith)

  pub part-printed : 33 ≤ w → w ≤ 126 → not (eqb w 59) ≡ is_part s w
  unfolding is_part
  part-printed h k =
      sym
      (rw (is_part, le-leb 33 w h, le-leb w 126 k, lt-eqb 256 (omega arith), lt-eqb 257 (omega arith), lt-leb 512 w (omega arith))
      (simp or-false))
    where
      lt-eqb : (n : ℕ) → w < n → eqb w n ≡ false
      lt-eqb n l = ne_eqb w n (λ e. omega arith)

  pub part-space : w ≡ 256 → true ≡ is_part s w
  unfolding is_part
  part-space e = sym (rw e)

  pub part-expr : w ≡ 257 → true ≡ is_part s w
  unfolding is_part
  part-expr e = sym (rw e)

  pub part-between : 126 < w → (w ≡ 256 → ⊥) → (w ≡ 257 → ⊥) → w < 512 → false ≡ is_part s w
  unfolding is_part
  part-between h p q k = sym (rw (is_part, le-leb 33 w (omega arith), lt-leb w 126 h, ne_eqb w 256 p, ne_eqb w 257 q, lt-leb 512 w k))

  pub part-ruleset : 126 < w → (w ≡ 256 → ⊥) → (w ≡ 257 → ⊥) → 512 ≤ w → ltb (w - 512) s ≡ is_part s w
  unfolding is_part
  part-ruleset h p q k =
      go (dec_lt w (512 + s))
      ∙ sym (rw (is_part, le-leb 33 w (omega arith), lt-leb w 126 h, ne_eqb w 256 p, ne_eqb w 257 q, le-leb 512 w k))
    where
      go : Dec (w < 512 + s) → ltb (w - 512) s ≡ ltb w (512 + s)
      go (yes l) = lt-ltb (w - 512) s (omega arith) ∙ sym (lt-ltb w (512 + s) l)
      go (no l) = le-ltb (w - 512) s (omega (arith, l)) ∙ sym (le-ltb w (512 + s) (omega (arith, l)))
