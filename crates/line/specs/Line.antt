-- What a line is, and the place that number 3 returns for what is none.
-- In words: docs/MANUAL.md, 2.1.
use Rattle.std.specs.Prelude.{◌≡◌, Bool, true, false, not, ◌&&◌, ◌||◌, List, [], ◌∷◌, ℕ, suc, ◌-◌, ◌≤◌, ◌<◌, eqb, leb, ltb, length, Option, None, Some, Result, Ok, Err}
use Rattle.plain.specs.Choice.{select}
use Rattle.plain.specs.Between.{Between}
use Rattle.token.specs.Token.{is_whitespace}
use Rattle.syntax.specs.Walker.{byte_at}
use Rattle.line.specs.declared.BadLine.{BadLine}

-- each byte is whitespace, or 33 to 126 except 59
unfoldable pub is_allowed : ℕ → Bool
is_allowed b = is_whitespace b || leb 33 b && leb b 126 && not (eqb b 59)

-- the bytes from one place to before another are all allowed
abbrev pub AllowedBetween : List ℕ → ℕ → ℕ → Type 0
AllowedBetween line from to = Between (λ (i : ℕ). is_allowed (byte_at line i) ≡ true) from to

-- n bytes, 0 to 120, each one allowed; the last isn't whitespace
pub record GoodLine (line : List ℕ) : Type 0 where
  pub short : length line ≤ 120
  pub bytes : (i : ℕ) → i < length line → is_allowed (byte_at line i) ≡ true
  pub last : 0 < length line → is_whitespace (byte_at line (length line - 1)) ≡ false

-- the first place that holds a bad byte, of bytes that stand from place i on
unfoldable pub first_bad : List ℕ → ℕ → Option ℕ
first_bad [] i = None
first_bad (b ∷ bs) i = select (is_allowed b) (first_bad bs (suc i)) (Some i)

-- the line ends in whitespace
unfoldable pub ends_open : List ℕ → Bool
ends_open line = ltb 0 (length line) && is_whitespace (byte_at line (length line - 1))

abbrev pub or_else : Option ℕ → Option ℕ → Option ℕ
or_else None o = o
or_else (Some p) o = Some p

-- the place of what is wrong: 120 if too long, else the first bad byte, else n-1; none if the line is good
unfoldable pub fault_at : List ℕ → Option ℕ
fault_at line =
    select (ltb 120 (length line)) (Some 120)
    (or_else (first_bad line 0) (select (ends_open line) (Some (length line - 1)) None))

-- number and place: 3 at the fault, or 0 for a line that is good
abbrev pub numbered : Option ℕ → ℕ × ℕ
numbered None = (0, 0)
numbered (Some p) = (3, p)

abbrev pub line_verdict : List ℕ → ℕ × ℕ
line_verdict line = numbered (fault_at line)

-- each answer's number and place
abbrev pub line_says : Result Unit BadLine → ℕ × ℕ
line_says (Ok _) = (0, 0)
line_says (Err bad) = (3, bad.place)
