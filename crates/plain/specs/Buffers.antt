-- A list written into a buffer, the rest unchanged.
use Rattle.std.specs.Prelude.{List, ◌++◌, ℕ, ◌+◌, length, take, drop}

-- at the buffer's start
abbrev pub at_start : List ℕ → List ℕ → List ℕ
at_start words buffer = words ++ drop (length words) buffer

-- from place n on, and the place after it
abbrev pub put_after : ℕ → List ℕ → List ℕ → List ℕ × ℕ
put_after n words buffer = (take n buffer ++ words ++ drop (n + length words) buffer, n + length words)
