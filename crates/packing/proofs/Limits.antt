-- Data within the limits: its sentences, and that fewer rules, or the first rulesets alone, are within them too.
use mathlib.Core.Path.{◌≡◌, refl}
use mathlib.Core.Bool.{Bool, true}
use mathlib.Core.List.{List, [], ◌∷◌, ◌++◌}
use Prim.Native.Nat.{ℕ, ◌+◌, ◌<◌}
use native.Mathlib.Omega.{arith}
use lib.Dec.{leb}
use lib.ListN.{length, length-append}
use borrow.Author.Tests.{le-leb}
use Rattle.plain.specs.Lists.{every}
use Rattle.plain.proofs.Tests.{and_left, and_right, and_both}
use Rattle.plain.proofs.Every.{every_first}
use Rattle.defs.specs.Table.{in_range}
use Rattle.defs.proofs.Fits.{Sizes, sizes-bound}
use Rattle.packing.specs.Data.{Rule, rule_fits, ascend, parts_of, data_fits, data_from}

pub sizes-range : (s r p : ℕ) → Sizes s r p → in_range s r p ≡ true
unfolding in_range
sizes-range s r p z =
    and_both _ _ (and_both _ _ (and_both _ _ (le-leb 1 s z.some) (le-leb s 32 z.sets)) (le-leb r 512 z.rules)) (le-leb p 8192 z.parts)

-- the limits, sentence by sentence
pub record Fits (ts : List Bool) (rs : List Rule) : Type 0 where
  pub sizes : Sizes (length ts) (length rs) (parts_of rs)
  pub order : ascend 0 rs ≡ true
  pub each : every (rule_fits (length ts)) rs ≡ true

module _ (ts : List Bool) (rs : List Rule) where
  pub fits_all : data_fits (data_from ts rs) ≡ true → Fits ts rs
  unfolding data_fits
  fits_all h =
      let tests = and_right (in_range (length ts) (length rs) (parts_of rs)) _ h in
      record {
        sizes = sizes-bound _ _ _ (and_left (in_range (length ts) (length rs) (parts_of rs)) _ h);
        order = and_left (ascend 0 rs) _ tests;
        each = and_right (ascend 0 rs) _ tests;
      }

  pub all-fits : Fits ts rs → data_fits (data_from ts rs) ≡ true
  unfolding data_fits
  all-fits f = and_both _ _ (sizes-range _ _ _ f.sizes) (and_both _ _ f.order f.each)

pub parts_of-append : (xs ys : List Rule) → parts_of (xs ++ ys) ≡ parts_of xs + parts_of ys
unfolding parts_of
parts_of-append [] ys = omega arith
parts_of-append (x ∷ xs) ys = omega (arith, parts_of-append xs ys)

ascend-first : (s : ℕ) (xs ys : List Rule) → ascend s (xs ++ ys) ≡ true → ascend s xs ≡ true
unfolding ascend
ascend-first s [] ys h = refl
ascend-first s (x ∷ xs) ys h = and_both _ _ (and_left (leb s x.set) _ h) (ascend-first x.set xs ys (and_right (leb s x.set) _ h))

pub fits-rules : (ts : List Bool) (xs ys : List Rule) → data_fits (data_from ts (xs ++ ys)) ≡ true → data_fits (data_from ts xs) ≡ true
fits-rules ts xs ys h =
    let f = fits_all ts (xs ++ ys) h in
    all-fits ts xs
    (record {
      sizes = omega (arith, f.sizes, length-append xs ys, parts_of-append xs ys);
      order = ascend-first 0 xs ys f.order;
      each = every_first (rule_fits (length ts)) xs ys f.each;
    })

pub fits-tops : (ts us : List Bool) (rs : List Rule) → 0 < length ts → data_fits (data_from (ts ++ us) rs) ≡ true → data_fits (data_from ts []) ≡ true
unfolding parts_of ascend every
fits-tops ts us rs some h =
    let f = fits_all (ts ++ us) rs h in
    all-fits ts []
    (record {
      sizes = omega (arith, f.sizes, length-append ts us);
      order = refl;
      each = refl;
    })
