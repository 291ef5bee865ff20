-- The pool's log: what the first words of the lent store say, one record a word.
use Rattle.std.specs.Prelude.{◌≡◌, Option, Some, None, List, [], ◌∷◌, ◌++◌, map, ℕ, zero, suc, ◌+◌, ◌*◌, ◌/◌, ◌%◌, ◌<◌, eqb, take, set}
use Rattle.plain.specs.Choice.{select}
use Rattle.readings.specs.Plan.{room}
use Rattle.pool.specs.declared.ArgumentKind.{ArgumentKind}
use Rattle.pool.specs.declared.ArgumentKind.TheVariants.{Expr, Nested}
use Rattle.pool.specs.declared.Argument.{Argument}
use Rattle.pool.specs.declared.Record.{Record}
use Rattle.pool.specs.declared.Record.TheVariants.{Kept, Completed}
use Rattle.pool.specs.declared.Pool.{Pool}

-- what number stands for a kind, and what kind a number stands for
abbrev pub code_of : ArgumentKind → ℕ
code_of Expr = 0
code_of (Nested m) = m + 1

unfoldable pub kind_of : ℕ → ArgumentKind
kind_of zero = Expr
kind_of (suc m) = Nested m

-- a word's digits as a record; the lowest is the kind of record
unfoldable pub argument_of : ℕ → Record
argument_of w =
    Kept
    (record {
      start = w / 8192 % 128;
      end = w / 8192 / 128 % 128;
      kind = kind_of (w / 8192 / 128 / 128 / 128);
    })
    (w % 8192)
    (w / 8192 / 128 / 128 % 128)

unfoldable pub match_of : ℕ → Record
match_of w =
    Completed
    (w % 32)
    (w / 32 % 32)
    (w / 32 / 32 % 512)
    (w / 32 / 32 / 512 % 8192)
    (w / 32 / 32 / 512 / 8192 / 128 % 128)
    (w / 32 / 32 / 512 / 8192 % 128)

unfoldable pub decode : ℕ → Record
decode w = select (eqb (w % 2) 0) (argument_of (w / 2)) (match_of (w / 2))

-- the records of the first words
unfoldable pub log_of : List ℕ → ℕ → List Record
log_of store used = map decode (take used store)

-- what fits a word
pub record ArgumentFits (a : Argument) (prev count : ℕ) : Type 0 where
  pub start : a.start < 128
  pub end : a.end < 128
  pub before : prev < 8192
  pub inner : code_of a.kind < 8192
  pub counts : count < 128

pub record MatchFits (depth set rule args end count : ℕ) : Type 0 where
  pub depths : depth < 32
  pub sets : set < 32
  pub rules : rule < 512
  pub last : args < 8192
  pub place : end < 128
  pub counts : count < 128

abbrev pub Fits : Record → Type 0
Fits (Kept a p n) = ArgumentFits a p n
Fits (Completed d r k a e n) = MatchFits d r k a e n

-- a record as a word
abbrev pub encode : Record → ℕ
encode (Kept a p n) = 2 * (p + 8192 * (a.start + 128 * (a.end + 128 * (n + 128 * code_of a.kind))))
encode (Completed d r k a e n) = 1 + 2 * (d + 32 * (r + 32 * (k + 512 * (a + 8192 * (n + 128 * e)))))

-- the next word of the store, unless there is no room
unfoldable pub taken : ℕ → List ℕ → Record → List ℕ × Option Pool
taken used store x = select (eqb used room) (store, None) (set store used (encode x), Some (record { used = used + 1 }))

-- a record is taken, the next of the log, or there is no room
pub record Added (used : ℕ) (store store' : List ℕ) (x : Record) (p : Pool) : Type 0 where
  pub room : used < room
  pub counted : p.used ≡ used + 1
  pub grown : log_of store' (used + 1) ≡ log_of store used ++ (x ∷ [])

abbrev pub TakenAs : Option Pool → ℕ → List ℕ → List ℕ → Record → Type 0
TakenAs (Some p) used store store' x = Added used store store' x p
TakenAs None used store store' x = used ≡ room

-- what taking a record leaves: store and answer, and what that is to the log
pub record TakenBy (used : ℕ) (store store' : List ℕ) (x : Record) (r : Option Pool) : Type 0 where
  pub is : (store', r) ≡ taken used store x
  pub log : TakenAs r used store store' x

-- what stands past a log's end
abbrev pub nothing : Record
nothing = Kept (record { start = 0; end = 0; kind = Expr }) 0 0

-- what every word's digits are below
pub record ArgumentDigits (a : Argument) (prev count : ℕ) : Type 0 where
  pub start : a.start < 128
  pub end : a.end < 128
  pub before : prev < 8192
  pub counts : count < 128

abbrev pub Digits : Record → Type 0
Digits (Kept a p n) = ArgumentDigits a p n
Digits (Completed d r k a e n) = MatchFits d r k a e n

-- a match's depth; an argument has none
abbrev pub depth_in : Record → Option ℕ
depth_in (Kept a p n) = None
depth_in (Completed d r k a e n) = Some d

-- the count that a record has
abbrev pub count_in : Record → ℕ
count_in (Kept a p n) = n
count_in (Completed d r k a e n) = n
