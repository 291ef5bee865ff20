-- A prefix's key, byte by byte: the key of one byte more is the last one and that byte times what it weighs at its place, so it is
-- greater, since no byte is 0. There are four places, and each is computed.
use mathlib.Core.Path.{◌≡◌, refl}
use mathlib.Core.Bool.{true}
use mathlib.Core.List.{List}
use Prim.Native.Nat.{ℕ, zero, suc, ◌+◌, ◌*◌, ◌/◌, ◌<◌}
use native.Mathlib.Omega.{arith}
use lib.ListN.{get_or, take}
use Rattle.plain.specs.Lists.{every}
use Rattle.leads.specs.Leads.{key_of}
use Rattle.leads.proofs.Keys.{is_byte, small_at, key-within}
use Rattle.leads.proofs.Bytes.{every_take}

-- what the byte at a place weighs
unfoldable pub weight_of : ℕ → ℕ
weight_of zero = 16777216
weight_of (suc zero) = 65536
weight_of (suc (suc zero)) = 256
weight_of (suc (suc (suc zero))) = 1
weight_of (suc (suc (suc (suc n)))) = 0

weight-next : (size : ℕ) → size < 4 → weight_of size / 256 ≡ weight_of (size + 1)
unfolding weight_of
weight-next zero l = refl
weight-next (suc zero) l = refl
weight-next (suc (suc zero)) l = refl
weight-next (suc (suc (suc zero))) l = refl
weight-next (suc (suc (suc (suc n)))) l = absurd (omega arith)

key-next : (size : ℕ) (p : List ℕ) → size < 4 → key_of (take size p) + get_or p size 0 * weight_of size ≡ key_of (take (size + 1) p)
unfolding weight_of
key-next zero p l = omega (arith, key-within 0 p refl refl refl refl, key-within 1 p refl refl refl refl)
key-next (suc zero) p l = omega (arith, key-within 1 p refl refl refl refl, key-within 2 p refl refl refl refl)
key-next (suc (suc zero)) p l = omega (arith, key-within 2 p refl refl refl refl, key-within 3 p refl refl refl refl)
key-next (suc (suc (suc zero))) p l = omega (arith, key-within 3 p refl refl refl refl, key-within 4 p refl refl refl refl)
key-next (suc (suc (suc (suc n)))) p l = absurd (omega arith)

weighed-some : (size : ℕ) {byte : ℕ} → size < 4 → 0 < byte → 0 < byte * weight_of size
unfolding weight_of
weighed-some zero l some = omega arith
weighed-some (suc zero) l some = omega arith
weighed-some (suc (suc zero)) l some = omega arith
weighed-some (suc (suc (suc zero))) l some = omega arith
weighed-some (suc (suc (suc (suc n)))) l some = absurd (omega arith)

key-small : (p : List ℕ) → every is_byte p ≡ true → key_of p < 4294967296
unfolding key_of
key-small p bytes = omega (arith, small_at p bytes 0, small_at p bytes 1, small_at p bytes 2, small_at p bytes 3)

-- the key of the first bytes, and what the next one weighs
pub record Keyed (p : List ℕ) (size key weight : ℕ) : Type 0 where
  pub is : key ≡ key_of (take size p)
  pub weighs : weight ≡ weight_of size

pub keyed-none : (p : List ℕ) → Keyed p 0 0 16777216
unfolding key_of weight_of
keyed-none p = record { is = refl; weighs = refl }

module _ {p : List ℕ} {size key weight : ℕ} where
  pub keyed-small : every is_byte p ≡ true → Keyed p size key weight → key < 4294967296
  keyed-small bytes before = omega (arith, before.is, key-small (take size p) (every_take is_byte size p bytes))

  pub keyed-turn : {byte : ℕ} → Keyed p size key weight → size < 4 → byte ≡ get_or p size 0 → Keyed p (size + 1) (key + byte * weight) (weight / 256)
  keyed-turn before more read = record {
    is = rw (before.is, before.weighs, read) (key-next size p more);
    weighs = rw before.weighs (weight-next size more);
  }

  -- a byte that is not 0 makes it greater
  pub keyed-more : {byte : ℕ} → Keyed p size key weight → size < 4 → 0 < byte → key < key + byte * weight
  keyed-more before more some = rw before.weighs (omega (arith, weighed-some size more some))
