-- When two sheets say the same: they differ at most in entries whose start lies above their limit.
-- "Entries whose start lies above their limit are never read and change no answer; they may hold any byte."
use Rattle.std.specs.Prelude.{◌≡◌, List, ℕ, ◌≤◌, length}
use Rattle.extents.specs.Sheet.{entry_at}
use Rattle.extents.specs.declared.Half.{Half}

-- two sheets for a line of n bytes, as long as each other, with the same entries wherever the start is not above the limit
pub record Alike (n : ℕ) (a b : List ℕ) : Type 0 where
  pub long : length a ≡ length b
  pub entries : (half : Half) (c l : ℕ) → c ≤ l → l ≤ n → entry_at a n half c l ≡ entry_at b n half c l
