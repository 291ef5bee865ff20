-- The grammar of delta expressions, as document 02 says it: a relation between places of a line, with no search. What is
-- said of the places c and e speaks of the bytes from c to before e; bytes at or past e are never looked at.
-- In words: docs/MANUAL.md, 2.3.
use Rattle.std.specs.Prelude.{◌≡◌, Bool, true, ◌&&◌, ◌||◌, List, ℕ, suc, ◌≤◌, ◌<◌, eqb, leb}
use Rattle.token.specs.Token.{is_whitespace}
use Rattle.syntax.specs.Walker.{byte_at}

-- decimal digits
unfoldable pub is_digit : ℕ → Bool
is_digit b = leb 48 b && leb b 57

-- letters: `A` to `Z` and `a` to `z`
unfoldable pub is_letter : ℕ → Bool
is_letter b = (leb 65 b && leb b 90) || (leb 97 b && leb b 122)

-- letters or digits
unfoldable pub is_alnum : ℕ → Bool
is_alnum b = is_letter b || is_digit b

-- one of + - * / & |
unfoldable pub is_operator : ℕ → Bool
is_operator b = eqb b 43 || (eqb b 45 || (eqb b 42 || (eqb b 47 || (eqb b 38 || eqb b 124))))

unfoldable pub is_minus : ℕ → Bool
is_minus b = eqb b 45

unfoldable pub is_opener : ℕ → Bool
is_opener b = eqb b 40

unfoldable pub is_closer : ℕ → Bool
is_closer b = eqb b 41

-- Whitespace may stand before any token: from c to before the token's first place p, which holds a byte of its kind.
pub record Begins (kind : ℕ → Bool) (line : List ℕ) (c p : ℕ) : Type 0 where
  pub from : c ≤ p
  pub blank : (i : ℕ) → c ≤ i → i < p → is_whitespace (byte_at line i) ≡ true
  pub here : kind (byte_at line p) ≡ true

-- a token of one byte
pub record Sign (kind : ℕ → Bool) (line : List ℕ) (c e : ℕ) : Type 0 where
  pub place : ℕ
  pub begins : Begins kind line c place
  pub past : e ≡ suc place

-- a token of one or more bytes: the first of one kind, and each of another
pub record Word (first each : ℕ → Bool) (line : List ℕ) (c e : ℕ) : Type 0 where
  pub place : ℕ
  pub begins : Begins first line c place
  pub some : place < e
  pub run : (i : ℕ) → place ≤ i → i < e → each (byte_at line i) ≡ true

-- decimal digits
abbrev pub Digits : List ℕ → ℕ → ℕ → Type 0
Digits line c e = Word is_digit is_digit line c e

-- a name: letter, then letters or digits
abbrev pub Name : List ℕ → ℕ → ℕ → Type 0
Name line c e = Word is_letter is_alnum line c e

mutual
  -- A term is decimal digits, a name, a minus before a term, or an expression in parentheses.
  pub data Term (line : List ℕ) : ℕ → ℕ → Type 0 where
    digits : {c e : ℕ} → Digits line c e → Term line c e
    name : {c e : ℕ} → Name line c e → Term line c e
    minus : {c d e : ℕ} → Sign is_minus line c d → Term line d e → Term line c e
    parens : {c d m e : ℕ} → Sign is_opener line c d → Expr line d m → Sign is_closer line m e → Term line c e

  -- An expression is terms joined by one of + - * / & |.
  pub data Expr (line : List ℕ) : ℕ → ℕ → Type 0 where
    term : {c e : ℕ} → Term line c e → Expr line c e
    joined : {c m d e : ℕ} → Term line c m → Sign is_operator line m d → Expr line d e → Expr line c e

-- the greatest end within the limit
pub record GreatestEnd (End : ℕ → Type 0) (l e : ℕ) : Type 0 where
  pub ends : End e
  pub within : e ≤ l
  pub greatest : (d : ℕ) → End d → d ≤ l → d ≤ e
