-- What the code keeps while it fills a sheet. No sentence of document 02 speaks of it, and no promise of a public function.
use Rattle.std.specs.Prelude.{◌≡◌, ◌⊎◌, Bool, true, false, List, ℕ, ◌+◌, ◌*◌, ◌≤◌, ◌<◌, length, get_or, Option, None, Some}
use Rattle.extents.specs.declared.Half.{Half}
use Rattle.extents.specs.declared.Half.TheVariants.{Free, Greedy}
use Rattle.extents.specs.Sheet.{sized, entry_at, entry_end}
use Rattle.expressions.specs.Grammar.{is_digit, is_alnum, is_closer, Begins, Term, Expr}
use Rattle.expressions.specs.Ends.{token_at, run_end, TermAt}
use Rattle.expressions.specs.Sheet.{entry_for}
use Rattle.expressions.specs.declared.Reach.{Reach}
use Rattle.expressions.specs.declared.Span.{Span}

-- of the entries at at + l, those for l from `from` to before `to` are f l, and all others stay
pub record Lays (before after : List ℕ) (at from to : ℕ) (f : ℕ → ℕ) : Type 0 where
  pub long : length after ≡ length before
  pub here : (l : ℕ) → from ≤ l → l < to → get_or after (at + l) 0 ≡ f l
  pub beside : (i : ℕ) → (i < at + from) ⊎ (at + to ≤ i) → get_or after i 0 ≡ get_or before i 0

-- an expression from c that a closer follows ends here, if anywhere; and an expression from c ends here
pub record WholeIs (line : List ℕ) (c : ℕ) (o : Option ℕ) : Type 0 where
  pub ends : (m : ℕ) → o ≡ Some m → Expr line c m
  pub only : (m p : ℕ) → Expr line c m → Begins is_closer line m p → o ≡ Some m

-- a byte is kept for each start of the longest line, and from c on each says what it is kept for
pub record Kept (line : List ℕ) (Says : ℕ → ℕ → Type 0) (bytes : List ℕ) (c : ℕ) : Type 0 where
  pub many : length bytes ≡ 121
  pub each : (k : ℕ) → c ≤ k → k ≤ length line → Says k (get_or bytes k 0)

-- the whole ends of the starts from c on
abbrev pub Wholes : List ℕ → List ℕ → ℕ → Type 0
Wholes line wholes c = Kept line (λ k b. WholeIs line k (entry_end b)) wholes c

-- where the tokens after the starts from c on begin
abbrev pub Tokens : List ℕ → List ℕ → ℕ → Type 0
Tokens line tokens c = Kept line (λ k b. b ≡ token_at line k) tokens c

-- the token after an end, if there is one, is known
abbrev pub Follows : List ℕ → List ℕ → Option ℕ → Type 0
Follows line tokens o = (m : ℕ) → o ≡ Some m → (m < length tokens) × (get_or tokens m 0 ≡ token_at line m)

-- how far digits, and letters and digits, reach from c
pub record Reaches (line : List ℕ) (c : ℕ) (reach : Reach) : Type 0 where
  pub digits : reach.digits ≡ run_end is_digit line c
  pub names : reach.names ≡ run_end is_alnum line c

-- a kind of bytes that go on with no name and no number
abbrev pub Parts : (ℕ → Bool) → Type 0
Parts kind = (b : ℕ) → kind b ≡ true → is_alnum b ≡ false

-- the ends of a term from c are low + 1 to top, and only the last is followed by an operator or a closer
pub record TermEnds (line : List ℕ) (c low top : ℕ) : Type 0 where
  pub after : c ≤ low
  pub some : low < top
  pub inside : top ≤ length line
  pub each : (e : ℕ) → low < e → e ≤ top → Term line c e
  pub only : (e : ℕ) → Term line c e → (low < e) × (e ≤ top)
  pub last : {kind : ℕ → Bool} (e p : ℕ) → Parts kind → Term line c e → Begins kind line e p → e ≡ top

-- the entries of the starts from c on
pub record Made (line sheet : List ℕ) (c : ℕ) : Type 0 where
  pub short : length line ≤ 120
  pub size : sized sheet (length line) ≡ true
  pub rows : (half : Half) (k l : ℕ) → c ≤ k → k ≤ length line → l ≤ length line → entry_at sheet (length line) half k l ≡ entry_for line half k l

-- where the entries of a start begin
abbrev pub row_start : ℕ → Half → ℕ → ℕ
row_start n Free c = c * (n + 1)
row_start n Greedy c = (n + 1) * (n + 1) + c * (n + 1)

-- the row of a start in a half is laid, and all else stays
abbrev pub RowLaid : List ℕ → List ℕ → List ℕ → Half → ℕ → Type 0
RowLaid line before after half c = Lays before after (row_start (length line) half c) 0 (length line + 1) (entry_for line half c)

-- what a free row is laid from: the later starts
pub record FreeAsked (line sheet wholes tokens : List ℕ) (c : ℕ) : Type 0 where
  pub start : c < length line
  pub made : Made line sheet (c + 1)
  pub ends : Wholes line wholes (c + 1)
  pub follow : Tokens line tokens (c + 1)

-- a free row that is laid, and the whole end of its start
pub record FreeLaid (line before after : List ℕ) (c whole : ℕ) : Type 0 where
  pub row : RowLaid line before after Free c
  pub ends : WholeIs line c (entry_end whole)

-- a term's ends, as the code hands them on
abbrev pub term_says : Option Span → Option TermAt
term_says None = None
term_says (Some span) = Some (record { low = span.low; top = span.top })
