-- The numbers of a sheet's size. A slice has fewer than 2^63 bytes, so a sheet of 2(n+1)² bytes has n below 2^31. Each
-- law is the monotony of a product, and the rest is linear.
use mathlib.Core.Path.{◌≡◌}
use mathlib.Core.Bool.{true, false}
use mathlib.Core.List.{List}
use Prim.Native.Nat.{ℕ, ◌+◌, ◌*◌, ◌^◌, ◌≤◌, ◌<◌}
use native.Mathlib.Nat.{mul-le-mul, le-mul_of_pos_right}
use native.Mathlib.Omega.{arith}
use borrow.Author.Tests.{eqb-true, ne_eqb}
use lib.ListN.{length}
use Rattle.extents.specs.Sheet.{sized}

-- the sheet's length, of a line that is not too long, fits 64 bits
pub length-fits : {n : ℕ} → n < 2 ^ 31 → 2 * ((n + 1) * (n + 1)) < 2 ^ 64
length-fits {n} h =
    let side : n + 1 ≤ 2 ^ 31 = omega arith in
    omega (arith, mul-le-mul side side)

-- no slice is the sheet of a line that is too long
pub too_long : (sheet : List ℕ) {n : ℕ} → length sheet < 2 ^ 63 → 2 ^ 31 ≤ n → sized sheet n ≡ false
unfolding sized
too_long sheet {n} short h =
    let side : 2 ^ 31 ≤ n + 1 = omega arith in
    ne_eqb (length sheet) (2 * ((n + 1) * (n + 1))) (λ e. omega (arith, mul-le-mul side side))

pub sized-length : (sheet : List ℕ) (n : ℕ) → sized sheet n ≡ true → length sheet ≡ 2 * ((n + 1) * (n + 1))
unfolding sized
sized-length sheet n h = eqb-true (length sheet) (2 * ((n + 1) * (n + 1))) h

-- a sheet is longer than its line
pub longer : (sheet : List ℕ) (n : ℕ) → sized sheet n ≡ true → n < length sheet
longer sheet n h = omega (arith, sized-length sheet n h, le-mul_of_pos_right {m = n + 1} (n + 1) (omega arith))
