-- What is said of every place from one to before another.
use Rattle.std.specs.Prelude.{ℕ, ◌≤◌, ◌<◌}

pub record Between (P : ℕ → Type 0) (from to : ℕ) : Type 0 where
  pub each : (i : ℕ) → from ≤ i → i < to → P i
