-- Items laid one after another: what is left to lay from here is what there was to lay from the start.
use mathlib.Core.Path.{◌≡◌, refl, sym, ap, ap₂, ◌∙◌, subst}
use mathlib.Core.List.{List, [], ◌∷◌, ◌++◌}
use Prim.Native.Nat.{ℕ, suc, ◌+◌, ◌≤◌, ◌<◌}
use native.Mathlib.Omega.{arith}
use lib.ListN.{length, get_or, set, drop, length-append, drop_of_length-le}
use lib.Seq.{sets, set_out, length-sets, drop-cons}
use Rattle.plain.proofs.Sets.{sets-append}
use Rattle.fields.specs.Laid.{Laid, Ready}

-- the place in the middle of laying: what is left from here
pub record Laying (text₀ : List ℕ) (at₀ : ℕ) (all : List ℕ) (text : List ℕ) (at : ℕ) (rest : List ℕ) : Type 0 where
  pub same : sets text at rest ≡ sets text₀ at₀ all
  pub room : at + length rest ≡ at₀ + length all
  pub long : length text ≡ length text₀

pub laying-all : (text : List ℕ) (at : ℕ) (all : List ℕ) → Laying text at all text at all
laying-all text at all = record { same = refl; room = refl; long = refl }

laid-long : {a b xs : List ℕ} {i j : ℕ} → Laid a i xs b j → length b ≡ length a
laid-long {a} {b} {xs} {i} l = ap length l.left ∙ length-sets a i xs

pub laying-next : {a₀ all a b xs : List ℕ} {i₀ i j : ℕ} (rest ys : List ℕ) → rest ≡ xs ++ ys → Laying a₀ i₀ all a i rest → Laid a i xs b j → Laying a₀ i₀ all b j ys
laying-next {a₀} {all} {a} {b} {xs} {i₀} {i} {j} rest ys e h l =
    record {
      same = ap₂ (λ (t : List ℕ) (n : ℕ). sets t n ys) l.left l.to ∙ sym (sets-append a i xs ys) ∙ ap (sets a i) (sym e) ∙ h.same;
      room = omega (arith, l.to, h.room, ap length e, length-append xs ys);
      long = laid-long l ∙ h.long;
    }

pub laying-done : {a₀ all a : List ℕ} {i₀ i : ℕ} (rest : List ℕ) → rest ≡ [] → Laying a₀ i₀ all a i rest → Laid a₀ i₀ all a i
laying-done {a₀} {all} {a} {i₀} {i} rest e h =
    record { left = ap (sets a i) (sym e) ∙ h.same; to = omega (arith, h.room, ap length e) }

-- there is room for what comes next
pub laying-ready : {a₀ all a : List ℕ} {i₀ i : ℕ} (rest xs ys : List ℕ) → rest ≡ xs ++ ys → Ready i₀ all → Laying a₀ i₀ all a i rest → Ready i xs
laying-ready rest xs ys e r h = record { small = omega (arith, r.small, h.room, ap length e, length-append xs ys) }

pub laid_then : {a b c xs ys : List ℕ} {i j k : ℕ} → Laid a i xs b j → Laid b j ys c k → Laid a i (xs ++ ys) c k
laid_then {a} {b} {c} {xs} {ys} {i} {j} {k} l m =
    record {
      left = m.left ∙ ap₂ (λ (t : List ℕ) (n : ℕ). sets t n ys) l.left l.to ∙ sym (sets-append a i xs ys);
      to = omega (arith, m.to, l.to, length-append xs ys);
    }

pub laid_as : {a b xs ys : List ℕ} {i j : ℕ} → xs ≡ ys → Laid a i xs b j → Laid a i ys b j
laid_as {a} {b} {xs} {ys} {i} {j} e l = subst (λ (z : List ℕ). Laid a i z b j) e l

-- one item, within the memory or past it
pub laid_in : (text : List ℕ) (at b : ℕ) → Laid text at (b ∷ []) (set text at b) (at + 1)
laid_in text at b = record { left = refl; to = omega arith }

pub laid_out : (text : List ℕ) (at b : ℕ) → length text ≤ at → Laid text at (b ∷ []) text (at + 1)
laid_out text at b h = record { left = sym (set_out text at b h); to = omega arith }

-- ---- room

pub ready-as : {i : ℕ} {xs ys : List ℕ} → xs ≡ ys → Ready i xs → Ready i ys
ready-as {i} e r = subst (Ready i) e r

pub ready-short : {i : ℕ} (xs ys : List ℕ) → length ys ≤ length xs → Ready i xs → Ready i ys
ready-short xs ys h r = record { small = omega (arith, h, r.small) }

pub ready-front : {i : ℕ} (xs ys : List ℕ) → Ready i (xs ++ ys) → Ready i xs
ready-front xs ys r = record { small = omega (arith, r.small, length-append xs ys) }

pub ready-back : {a b : List ℕ} {i j : ℕ} (xs ys : List ℕ) → Ready i (xs ++ ys) → Laid a i xs b j → Ready j ys
ready-back xs ys r l = record { small = omega (arith, r.small, l.to, length-append xs ys) }

-- ---- a list, item by item

pub word_next : (w : List ℕ) (i : ℕ) → i < length w → drop i w ≡ (get_or w i 0 ∷ []) ++ drop (i + 1) w
word_next w i h = let next : suc i ≡ i + 1 = omega arith in drop-cons w i 0 h ∙ ap (λ (n : ℕ). get_or w i 0 ∷ drop n w) next

pub word_over : (w : List ℕ) (i : ℕ) → length w ≤ i → drop i w ≡ []
word_over w i h = drop_of_length-le w {i = i} h
