-- What is chosen, said with no search for the least: an index exactly if its outcome's size is known and no known size
-- is less; and one index alone exactly if every other known size is greater. One way, an index that is kept has the
-- least size, and any other of that size would be kept too; the other way, a size that no other is below is the least.
use mathlib.Core.Path.{◌≡◌, refl, sym, ap, ◌∙◌, subst}
use mathlib.Core.List.Memᴰ
use mathlib.Core.List.{List, [], ◌∷◌, Memᴰ}
use Rattle.std.specs.Prelude.{Some}
use Rattle.plain.proofs.Options.{none-ne-some}
use Prim.Native.Nat.{ℕ, zero, suc, ◌≤◌, ◌<◌}
use native.Mathlib.Decide.{ℕ_discrete}
use native.Mathlib.Omega.{arith}
use lib.ListN.{length, get_or}
use Rattle.plain.specs.Lists.{count}
use Rattle.resolver.specs.Outcome.{Outcome, is_known, size_of}
use Rattle.resolver.specs.Outcome.Outcome.{unresolved}
use Rattle.resolver.specs.Selection.{least_size, indices_of, choice_of}
use Rattle.resolver.specs.LastPass.{size_at, OnlyLeast}
use Rattle.plain.proofs.Kept.{kept-all, kept-only, one_kept}
use Rattle.resolver.proofs.Least.{has-true, has_same, least-at-most, least-attained, some_least}

-- an outcome with a size is in the list
in_list : (os : List Outcome) (i t : ℕ) → size_at os i ≡ Some t → i < length os
unfolding size_of
in_list [] i t h = absurd (none-ne-some t h)
in_list (o ∷ os) zero t h = omega arith
in_list (o ∷ os) (suc i) t h = omega (arith, in_list os i t h)

-- the outcome at an index has a known size, and no known size is less
pub record OfLeast (os : List Outcome) (i : ℕ) : Type 0 where
  pub size : ℕ
  pub known : size_at os i ≡ Some size
  pub others : (j t : ℕ) → size_at os j ≡ Some t → size ≤ t

module _ (os : List Outcome) where
  -- an index of the least size is chosen
  chosen-least : (j m : ℕ) → least_size os ≡ Some m → size_at os j ≡ Some m → Memᴰ j (choice_of os)
  unfolding choice_of indices_of
  chosen-least j m least size =
      kept-all _ (length os) j (in_list os j m size)
      (rw least (has_same m (get_or os j unresolved) size))

  -- where an outcome is known some index is chosen
  pub some-chosen : (count is_known os ≡ 0 → ⊥) → (i : ℕ) × Memᴰ i (choice_of os)
  some-chosen some_Known =
      let (m, least) = some_least os some_Known in
      let (i, within, size) = least-attained os m least in
      (i, chosen-least i m least size)

  -- an index that is chosen has the least size
  least-chosen : (i : ℕ) → Memᴰ i (choice_of os) → (m : ℕ) × (least_size os ≡ Some m) × (size_at os i ≡ Some m)
  unfolding choice_of indices_of
  least-chosen i there = has-true (least_size os) (get_or os i unresolved) (kept-only _ (length os) i there).1

  -- an index is chosen exactly if its outcome has a known size and no known size is less
  pub chosen-exactly :
      (i : ℕ) → (Memᴰ i (choice_of os) → OfLeast os i) × (OfLeast os i → Memᴰ i (choice_of os))
  chosen-exactly i = (
    λ there.
        let (m, least, size) = least-chosen i there in
        record {
          size = m;
          known = size;
          others = λ j t size-j.
              let (n, same, most) = least-at-most os j t size-j in
              let m-is : m ≡ n = cc in
              omega arith;
        },
    λ at.
        let (m, least, most) = least-at-most os i at.size at.known in
        let (k, within, size) = least-attained os m least in
        let same : m ≡ at.size = omega (arith, at.others k m size) in
        chosen-least i m least (at.known ∙ ap Some (sym same)),
  )

  -- chosen alone, it is the only least
  pub chosen-alone : (i : ℕ) → choice_of os ≡ i ∷ [] → OnlyLeast os i
  chosen-alone i alone =
      let (m, least, size) = least-chosen i (subst (λ (l : List ℕ). Memᴰ i l) (sym alone) (Memᴰ.head refl)) in
      record {
        size = m;
        known = size;
        others = λ j t other size-j.
            let (n, same, most) = least-at-most os j t size-j in
            let m-is : m ≡ n = cc in
            let apart : m ≡ t → ⊥ = λ e.
            other (Memᴰ.eq_of_singleton (subst (λ (l : List ℕ). Memᴰ j l) alone
            (chosen-least j m least (size-j ∙ ap Some (sym e))))) in
            omega (arith, apart);
      }

  -- an only least size is the least
  only-is-least : (i : ℕ) (only : OnlyLeast os i) → least_size os ≡ Some only.size
  only-is-least i only =
      let (m, least, most) = least-at-most os i only.size only.known in
      let (k, within, size) = least-attained os m least in
      elim (ℕ_discrete k i) [
        | yes e ↦ least ∙ sym size ∙ ap (size_at os) e ∙ only.known
        | no d ↦ absurd (omega (arith, only.others k m d size))
      ]

  -- the only least is chosen alone
  pub alone-chosen : (i : ℕ) → OnlyLeast os i → choice_of os ≡ i ∷ []
  unfolding choice_of indices_of
  alone-chosen i only =
      let least = only-is-least i only in
      one_kept _ (length os) i (in_list os i only.size only.known)
      (rw least (has_same only.size (get_or os i unresolved) only.known))
      (λ j within passes.
      let (m, same, size) = has-true (least_size os) (get_or os j unresolved) passes in
      elim (ℕ_discrete j i) [
        | yes e ↦ e
        | no d ↦ let m-is : m ≡ only.size = cc in absurd (omega (arith, only.others j m d size))
      ])
