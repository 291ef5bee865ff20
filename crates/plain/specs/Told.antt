-- What a call tells, for every call that returns matching's fields.
use Rattle.std.specs.Prelude.{List, ℕ}

-- what a call returns, with the buffer as it leaves it; unstated fields are 0
pub record Told : Type 0 where
  pub number : ℕ
  pub visits : ℕ
  pub words : ℕ
  pub place : ℕ
  pub buffer : List ℕ

-- a refusal that returns a place, or nothing, and leaves the buffer unchanged
abbrev pub refused_at : ℕ → ℕ → List ℕ → Told
refused_at n p b = record { number = n; visits = 0; words = 0; place = p; buffer = b }
