-- When an entry is read. Where it is, its start is not above its limit and its limit lies within the line, and the
-- answer is the entry's end; where it is not, there is no end.
use mathlib.Core.Path.{◌≡◌}
use mathlib.Core.Bool.{true, false, ◌&&◌}
use mathlib.Core.List.{List}
use Rattle.std.specs.Prelude.{None, Some}
use Prim.Native.Nat.{ℕ, ◌≤◌}
use borrow.Author.Tests.{leb-true, eq-eqb, ne_eqb}
use lib.Dec.{leb}
use Rattle.plain.proofs.Tests.{and_left, and_right}
use Rattle.extents.specs.Sheet.{sized, entry_at}
use Rattle.extents.specs.Sheet.{readable, entry_end, end_in}
use Rattle.extents.specs.declared.Half.{Half}

module _ (sheet : List ℕ) (n c l : ℕ) where
  pub in_order : readable sheet n c l ≡ true → (c ≤ l) × (l ≤ n)
  unfolding readable
  in_order there =
      let both : (leb c l && leb l n) ≡ true = and_right (sized sheet n) _ there in
      (leb-true c l (and_left _ (leb l n) both), leb-true l n (and_right (leb c l) _ both))

  pub read : (half : Half) → readable sheet n c l ≡ true → end_in sheet n half c l ≡ entry_end (entry_at sheet n half c l)
  unfolding end_in
  read half there = rw there

  pub unread : (half : Half) → readable sheet n c l ≡ false → end_in sheet n half c l ≡ None
  unfolding end_in
  unread half nowhere = rw nowhere

-- an entry's end, by what its byte is
pub end_none : (e : ℕ) → e ≡ 255 → None ≡ entry_end e
end_none e h = rw (eq-eqb e 255 h)

pub end-some : (e : ℕ) → (e ≡ 255 → ⊥) → Some e ≡ entry_end e
end-some e n = rw (ne_eqb e 255 n)
