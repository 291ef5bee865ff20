-- Entries whose start lies above their limit change no answer: sheets that are alike are judged alike and have the same
-- ends. Each entry is compared where it is read; where it is not, its start lies above its limit on both sides.
use mathlib.Core.Path.{◌≡◌, sym, ◌∙◌}
use mathlib.Core.Logic.{⊎_elim}
use mathlib.Core.List.{List}
use Prim.Native.Nat.{ℕ, ◌+◌, ◌≤◌, ◌<◌}
use native.Mathlib.Omega.{arith}
use borrow.Author.Tests.{ltb-false}
use lib.Dec.{ltb}
use lib.ListN.{set, length-set}
use lib.Seq.{get_or-set_other}
use Rattle.plain.proofs.Below.{every-same}
use Rattle.plain.proofs.Tests.{tested}
use Rattle.extents.specs.Sheet.{sized, place_of, entry_at, fits_at, row_fits, half_fits, sheet_fits}
use Rattle.extents.specs.Sheet.{readable, end_in, free_end, greedy_end}
use Rattle.extents.specs.Alike.{Alike}
use Rattle.extents.specs.declared.Half.{Half}
use Rattle.extents.specs.declared.Half.TheVariants.{Free, Greedy}
use Rattle.extents.proofs.Places.{one_place}
use Rattle.extents.proofs.Reading.{in_order, unread}

module _ {n : ℕ} {a b : List ℕ} (alike : Alike n a b) where
  same-size : sized a n ≡ sized b n
  unfolding sized
  same-size = rw alike.long

  same_at : (half : Half) (c l : ℕ) → l < n + 1 → fits_at a n half c l ≡ fits_at b n half c l
  unfolding fits_at
  same_at half c l within =
      ⊎_elim (λ above. rw above)
      (λ from. rw (alike.entries half c l (ltb-false l c from) (omega arith)))
      (tested (ltb l c))

  same_half : (half : Half) → half_fits a n half ≡ half_fits b n half
  unfolding half_fits row_fits
  same_half half = every-same (n + 1) _ _ (λ c within. every-same (n + 1) _ _ (same_at half c))

  -- both sheets are good, or both are bad
  pub same-sheet : sheet_fits a n ≡ sheet_fits b n
  unfolding sheet_fits
  same-sheet = rw (same-size, same_half Free, same_half Greedy)

  same-readable : (c l : ℕ) → readable a n c l ≡ readable b n c l
  unfolding readable
  same-readable c l = rw same-size

  -- a half has the same end in both, for every start and limit
  pub same_end : (half : Half) (c l : ℕ) → end_in a n half c l ≡ end_in b n half c l
  unfolding end_in
  same_end half c l =
      ⊎_elim
      (λ there.
      let (from, within) = in_order a n c l there in
      rw (same-readable c l, alike.entries half c l from within))
      (λ nowhere. unread a n c l half nowhere ∙ sym (unread b n c l half (sym (same-readable c l) ∙ nowhere)))
      (tested (readable a n c l))

  pub same-free : (c l : ℕ) → free_end a n c l ≡ free_end b n c l
  same-free = same_end Free

  pub same-greedy : (c l : ℕ) → greedy_end a n c l ≡ greedy_end b n c l
  same-greedy = same_end Greedy

-- an entry whose start lies above its limit may hold any byte
pub any-byte :
    (sheet : List ℕ) (n : ℕ) (half : Half) (c l byte : ℕ) → l < c → c ≤ n →
    Alike n sheet (set sheet (place_of n half c l) byte)
unfolding entry_at
any-byte sheet n half c l byte above start =
    record {
      long = sym (length-set sheet (place_of n half c l) byte);
      entries = λ other d k from within.
          sym (get_or-set_other sheet (place_of n half c l) (place_of n other d k) byte 0
          (λ e. let same = one_place n other half d k c l (omega arith) within start (omega arith) e in omega arith));
    }
