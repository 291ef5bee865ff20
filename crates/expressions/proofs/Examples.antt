-- Worked examples, computed from the definitions.
use mathlib.Core.Path.{◌≡◌, refl}
use mathlib.Core.List.{List, [], ◌∷◌, ◌++◌}
use Rattle.std.specs.Prelude.{Option, None, Some}
use Prim.Native.Nat.{ℕ, suc}
use Rattle.plain.specs.Lists.{range, listed}
use Rattle.token.specs.Token.{is_whitespace}
use Rattle.syntax.specs.Walker.{skipped, useful_from}
use Rattle.expressions.specs.Grammar.{is_digit, is_letter, is_alnum, is_operator, is_minus, is_opener, is_closer}
use Rattle.expressions.specs.Ends.{token_at, sign_at, run_to, run_end, up_to, term_at, row_of, row_from, free, greedy}
use Rattle.expressions.specs.Sheet.{entry_for, in_half, sheet_byte, sheet_of}

-- the free ends of a line from c, under each limit from 0 on
abbrev ends : List ℕ → ℕ → ℕ → List (Option ℕ)
ends line n c = listed (suc n) (free line c)

-- one for each line of the table below
abbrev examples : List (List (Option ℕ))
examples =
    -- `1+(a- 2)*-b`
    ends (49 ∷ 43 ∷ 40 ∷ 97 ∷ 45 ∷ 32 ∷ 50 ∷ 41 ∷ 42 ∷ 45 ∷ 98 ∷ []) 11 0
    -- `ab`
    ∷ ends (97 ∷ 98 ∷ []) 2 0
    -- `1 +`
    ∷ ends (49 ∷ 32 ∷ 43 ∷ []) 3 0
    -- `((1))`
    ∷ ends (40 ∷ 40 ∷ 49 ∷ 41 ∷ 41 ∷ []) 5 0
    -- `-`
    ∷ ends (45 ∷ []) 1 0
    -- `()`
    ∷ ends (40 ∷ 41 ∷ []) 2 0
    -- `2b`
    ∷ ends (50 ∷ 98 ∷ []) 2 0
    -- `a1b`, and `a^b`
    ∷ ends (97 ∷ 49 ∷ 98 ∷ []) 3 0
    ∷ ends (97 ∷ 94 ∷ 98 ∷ []) 3 0
    -- `b2 - -1` from its second byte, with 13 for its second space
    ∷ ends (98 ∷ 50 ∷ 32 ∷ 45 ∷ 13 ∷ 45 ∷ 49 ∷ []) 7 1
    -- ` a b`, `--x` and `+x`
    ∷ ends (32 ∷ 97 ∷ 32 ∷ 98 ∷ []) 4 0
    ∷ ends (45 ∷ 45 ∷ 120 ∷ []) 3 0
    ∷ ends (43 ∷ 120 ∷ []) 2 0
    ∷ []

pub computed : examples
    ≡ (None ∷ Some 1 ∷ Some 1 ∷ Some 1 ∷ Some 1 ∷ Some 1 ∷ Some 1 ∷ Some 1 ∷ Some 8 ∷ Some 8 ∷ Some 8 ∷ Some 11 ∷ [])
    ∷ (None ∷ Some 1 ∷ Some 2 ∷ [])
    ∷ (None ∷ Some 1 ∷ Some 1 ∷ Some 1 ∷ [])
    ∷ (None ∷ None ∷ None ∷ None ∷ None ∷ Some 5 ∷ [])
    ∷ (None ∷ None ∷ [])
    ∷ (None ∷ None ∷ None ∷ [])
    ∷ (None ∷ Some 1 ∷ Some 1 ∷ [])
    ∷ (None ∷ Some 1 ∷ Some 2 ∷ Some 3 ∷ [])
    ∷ (None ∷ Some 1 ∷ Some 1 ∷ Some 1 ∷ [])
    ∷ (None ∷ None ∷ Some 2 ∷ Some 2 ∷ Some 2 ∷ Some 2 ∷ Some 2 ∷ Some 7 ∷ [])
    ∷ (None ∷ None ∷ Some 2 ∷ Some 2 ∷ Some 2 ∷ [])
    ∷ (None ∷ None ∷ None ∷ Some 3 ∷ [])
    ∷ (None ∷ None ∷ None ∷ [])
    ∷ []
unfolding free row_from row_of term_at up_to run_end run_to sign_at token_at is_digit is_letter is_alnum is_operator is_minus is_opener is_closer skipped useful_from is_whitespace range listed
computed = refl

-- the sheet of `1a`
pub small-sheet : sheet_of (49 ∷ 97 ∷ [])
    ≡ 255 ∷ 1 ∷ 1 ∷ 255 ∷ 255 ∷ 2 ∷ 255 ∷ 255 ∷ 255
    ∷ 255 ∷ 1 ∷ 1 ∷ 255 ∷ 255 ∷ 255 ∷ 255 ∷ 255 ∷ 255 ∷ []
unfolding sheet_of sheet_byte in_half entry_for greedy free row_from row_of term_at up_to run_end run_to sign_at token_at is_digit is_letter is_alnum is_operator is_minus is_opener is_closer skipped useful_from is_whitespace range listed
small-sheet = refl

-- no bound on nesting: 60 opening parentheses around a digit, of which a line has room for 59, and 119 minus signs before one
abbrev times : ℕ → ℕ → List ℕ → List ℕ
times n b rest = listed n (λ i. b) ++ rest

pub deep : free (times 60 40 (49 ∷ times 60 41 [])) 0 121 ≡ Some 121
unfolding free row_from row_of term_at up_to run_end run_to sign_at token_at is_digit is_letter is_alnum is_operator is_minus is_opener is_closer skipped useful_from is_whitespace range listed
deep = refl

pub signs : free (times 119 45 (49 ∷ [])) 0 120 ≡ Some 120
unfolding free row_from row_of term_at up_to run_end run_to sign_at token_at is_digit is_letter is_alnum is_operator is_minus is_opener is_closer skipped useful_from is_whitespace range listed
signs = refl
