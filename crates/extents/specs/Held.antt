-- What the check of a sheet holds beside it, and what a line's useful places are worked out from. No sentence of document 01
-- speaks of it.
use Rattle.std.specs.Prelude.{◌≡◌, List, ℕ, ◌<◌, length, get_or}

-- the places of the longest line, 0 to 120, each as a byte at itself
pub record HeldPlaces (places : List ℕ) : Type 0 where
  pub many : length places ≡ 121
  pub each : (i : ℕ) → i < 121 → get_or places i 0 ≡ i
