-- The ends of a start, computed. Each start is judged by its byte and by what is known of later starts, so none is judged
-- by how deep it is nested. That the ends are the grammar's is proved in proofs/Rows.antt.
use Rattle.std.specs.Prelude.{Bool, ◌||◌, List, ℕ, zero, suc, ◌-◌, min, ltb, length, Option, None, Some}
use Rattle.plain.specs.Choice.{select}
use Rattle.token.specs.Token.{is_whitespace}
use Rattle.syntax.specs.Walker.{byte_at, useful_from}
use Rattle.line.specs.Line.{or_else}
use Rattle.expressions.specs.Grammar.{is_digit, is_letter, is_alnum, is_operator, is_minus, is_opener, is_closer}

-- where a token after c begins: the first place from c on that holds no whitespace, or the line's end
unfoldable pub token_at : List ℕ → ℕ → ℕ
token_at line c = useful_from line c (length line)

-- where the token after m begins, if it begins with a byte of this kind
unfoldable pub sign_at : (ℕ → Bool) → List ℕ → ℕ → Option ℕ
sign_at kind line m = select (kind (byte_at line (token_at line m))) (Some (token_at line m)) None

-- past the bytes of a kind that stand from c on, of which there are d at most
unfoldable pub run_to : (ℕ → Bool) → List ℕ → ℕ → ℕ → ℕ
run_to kind line zero c = c
run_to kind line (suc d) c = select (kind (byte_at line c)) (run_to kind line d (suc c)) c

unfoldable pub run_end : (ℕ → Bool) → List ℕ → ℕ → ℕ
run_end kind line c = run_to kind line (length line - c) c

-- the greatest within a limit of the ends low + 1 to top
unfoldable pub up_to : ℕ → ℕ → ℕ → Option ℕ
up_to low top l = select (ltb low (min top l)) (Some (min top l)) None

-- What is known of a start: the greatest end of an expression within each limit; and the end of the expression with all its
-- tokens whole, the only end that a closer may follow.
pub record Row : Type 0 where
  pub within : ℕ → Option ℕ
  pub whole : Option ℕ

-- no end
abbrev pub no_row : Row
no_row = record { within = λ l. None; whole = None }

-- The ends of a term are low + 1 to top: more than one if its last token may be cut.
pub record TermAt : Type 0 where
  pub low : ℕ
  pub top : ℕ

-- an expression in parentheses, whose closer stands here
abbrev pub closed_at : Option ℕ → Option TermAt
closed_at None = None
closed_at (Some p) = Some (record { low = p; top = suc p })

-- an expression in parentheses, which is whole here
abbrev pub closed_after : List ℕ → Option ℕ → Option TermAt
closed_after line None = None
closed_after line (Some m) = closed_at (sign_at is_closer line m)

-- the term at c, where neither whitespace nor a minus stands, if an expression from c + 1 is whole here
unfoldable pub term_at : List ℕ → Option ℕ → ℕ → Option TermAt
term_at line inner c =
    select (is_digit (byte_at line c)) (Some (record { low = c; top = run_end is_digit line c }))
    (select (is_letter (byte_at line c)) (Some (record { low = c; top = run_end is_alnum line c }))
    (select (is_opener (byte_at line c)) (closed_after line inner) None))

-- a term, and what an operator after it joins to it
abbrev pub joined_at : (ℕ → Row) → TermAt → Option ℕ → Row
joined_at later t None = record { within = up_to t.low t.top; whole = Some t.top }
joined_at later t (Some p) = record { within = λ l. or_else ((later (suc p)).within l) (up_to t.low t.top l); whole = (later (suc p)).whole }

abbrev pub term_row : List ℕ → (ℕ → Row) → Option TermAt → Row
term_row line later None = no_row
term_row line later (Some t) = joined_at later t (sign_at is_operator line t.top)

-- whitespace and a minus change no end
abbrev pub changes_none : ℕ → Bool
changes_none b = is_whitespace b || is_minus b

-- the row of c, from those of c + 1 and on
unfoldable pub row_of : List ℕ → (ℕ → Row) → ℕ → Row
row_of line later c =
    select (changes_none (byte_at line c)) (later (suc c)) (term_row line later (term_at line (later (suc c)).whole c))

-- the row of a start with at most d starts after it
unfoldable pub row_from : List ℕ → ℕ → ℕ → Row
row_from line zero c = no_row
row_from line (suc d) c = row_of line (row_from line d) c

-- how many starts follow a start at most
abbrev pub starts_after : List ℕ → ℕ
starts_after line = length line

-- The free end is the greatest end within the limit that closes an expression on its last token, or none.
unfoldable pub free : List ℕ → ℕ → ℕ → Option ℕ
free line c l = (row_from line (starts_after line) c).within l

-- The greedy end is the end of the longest nonempty digit run after whitespace, or none.
unfoldable pub greedy : List ℕ → ℕ → ℕ → Option ℕ
greedy line c l = up_to (token_at line c) (run_end is_digit line (token_at line c)) l
