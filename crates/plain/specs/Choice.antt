-- A choice between two values by a test.
use Rattle.std.specs.Prelude.{Bool, true, false}

-- the first if the test holds, else the second
abbrev pub select {ℓ} : {A : Type ℓ} → Bool → A → A → A
select true x y = x
select false x y = y
