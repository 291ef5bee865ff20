-- What the pool's records mean: arguments up to one, and trees. A record says what it does through those before it, so a
-- log is read from its start, and what a record means never changes.
use Rattle.std.specs.Prelude.{Option, Some, None, List, [], ◌∷◌, ◌++◌, ℕ, zero, suc, ◌≤◌, ◌<◌, ◌≡◌, eqb, length, get_or}
use Rattle.std.specs.Coded.{×_prop, Unit-prop, le_prop}
use Rattle.plain.specs.Choice.{select}
use Rattle.readings.specs.Tree.{Tree, node, Args, end, expr, nest}
use Rattle.readings.specs.Plan.{room}
use Rattle.readings.specs.Walk.{Match}
use Rattle.pool.specs.Log.{decode, log_of, nothing}
use Rattle.pool.specs.declared.ArgumentKind.{ArgumentKind}
use Rattle.pool.specs.declared.ArgumentKind.TheVariants.{Expr, Nested}
use Rattle.pool.specs.declared.Argument.{Argument}
use Rattle.pool.specs.declared.Head.{Head}
use Rattle.pool.specs.declared.Record.{Record}
use Rattle.pool.specs.declared.Record.TheVariants.{Kept, Completed}

-- arguments from a match's first up to one of them, the last outermost: each record has a link to the one before
pub data Chain : Type 0 where
  none : Chain
  then_expr : Chain → ℕ → ℕ → Chain
  then_nest : Chain → ℕ → ℕ → Tree → Chain

-- a chain, and the arguments after it
abbrev pub unwind : Chain → Args → Args
unwind none a = a
unwind (then_expr c x y) a = unwind c (expr x y a)
unwind (then_nest c x y t) a = unwind c (nest x y t a)

pub data Entry : Type 0 where
  -- the arguments up to one that was kept
  argued : Chain → Entry
  -- a match completed at a depth, and the cursor where it ended
  completed : ℕ → Tree → ℕ → Entry

abbrev pub chain_in : Entry → Chain
chain_in (argued c) = c
chain_in (completed d t e) = none

abbrev pub tree_in : Entry → Tree
tree_in (argued c) = node 0 0 end
tree_in (completed d t e) = t

-- the arguments up to a last one, by its number from 1; 0 is none
unfoldable pub chain_at : List Entry → ℕ → Chain
chain_at es zero = none
chain_at es (suc i) = chain_in (get_or es i (argued none))

-- the match with a record number
unfoldable pub tree_at : List Entry → ℕ → Tree
tree_at es m = tree_in (get_or es m (argued none))

abbrev pub linked : List Entry → Chain → ℕ → ℕ → ArgumentKind → Chain
linked es c x y Expr = then_expr c x y
linked es c x y (Nested m) = then_nest c x y (tree_at es m)

-- what a record means after these
abbrev pub entry_of : List Entry → Record → Entry
entry_of es (Kept a p n) = argued (linked es (chain_at es p) a.start a.end a.kind)
entry_of es (Completed d r k a e n) = completed d (node r k (unwind (chain_at es a) end)) e

-- what records mean that come after these
unfoldable pub meaning : List Entry → List Record → List Entry
meaning es [] = []
meaning es (x ∷ xs) = entry_of es x ∷ meaning (es ++ (entry_of es x ∷ [])) xs

abbrev pub meanings : List Record → List Entry
meanings log = meaning [] log

-- the matches of one depth, in order
abbrev pub gathered_of : ℕ → Entry → List Match → List Match
gathered_of d (argued c) ms = ms
gathered_of d (completed n t e) ms = select (eqb n d) ((t, e) ∷ ms) ms

unfoldable pub gathered : ℕ → List Entry → List Match
gathered d [] = []
gathered d (x ∷ xs) = gathered_of d x (gathered d xs)

-- the links of record number n are to earlier records
abbrev pub InnerEarlier : ℕ → ArgumentKind → Type 0
InnerEarlier n Expr = Unit {0}
InnerEarlier n (Nested m) = m < n

abbrev pub Links : ℕ → Record → Type 0
Links n (Kept a p x) = (p ≤ n) × InnerEarlier n a.kind
Links n (Completed d r k a e x) = a ≤ n

-- so in a whole log
pub record Earlier (log : List Record) : Type 0 where
  pub links : (i : ℕ) → i < length log → Links i (get_or log i nothing)

-- ---- what reading the store asks, and what it finds

pub record Stored (store : List ℕ) (used : ℕ) : Type 0 where
  pub sized : length store ≡ room
  pub room : used ≤ room
  pub earlier : Earlier (log_of store used)

-- links have one proof, so they may stand in a type
InnerEarlier-prop : (n : ℕ) (k : ArgumentKind) → IsProp (InnerEarlier n k)
InnerEarlier-prop n Expr = Unit-prop
InnerEarlier-prop n (Nested m) = le_prop

pub Links-prop : (n : ℕ) (x : Record) → IsProp (Links n x)
Links-prop n (Kept a p x) = ×_prop le_prop (InnerEarlier-prop n a.kind)
Links-prop n (Completed d r k a e x) = le_prop

-- the entries of a store
abbrev pub entries : List ℕ → ℕ → List Entry
entries store used = meanings (log_of store used)

-- the match with a record number, as its ruleset, its rule and its last argument
pub record Heads (es : List Entry) (m : ℕ) (h : Head) : Type 0 where
  pub means : tree_at es m ≡ node h.set h.rule (unwind (chain_at es h.args) end)
  pub earlier : h.args ≤ m
  pub sets : h.set < 32
  pub rules : h.rule < 512

-- what the record says; an argument reads as rule 0 of ruleset 0
abbrev pub head_of : Record → Head
head_of (Kept a p n) = record { set = 0; rule = 0; args = 0 }
head_of (Completed d r k a e n) = record { set = r; rule = k; args = a }

pub record HeadAt (store : List ℕ) (used m : ℕ) (h : Head) : Type 0 where
  pub is : h ≡ head_of (decode (get_or store m 0))
  pub heads : Heads (entries store used) m h

-- the arguments up to a last one, as that and the number of the one before, if there is one
abbrev pub last_means : List Entry → Option (Argument × ℕ) → Chain
last_means es None = none
last_means es (Some (a, p)) = linked es (chain_at es p) a.start a.end a.kind

pub record Before (n : ℕ) (a : Argument) (p : ℕ) : Type 0 where
  pub earlier : p < n
  pub inner : InnerEarlier n a.kind
  pub start : a.start < 128
  pub end : a.end < 128

abbrev pub LastBefore : ℕ → Option (Argument × ℕ) → Type 0
LastBefore n None = Unit {0}
LastBefore n (Some (a, p)) = Before n a p

pub record Lasts (es : List Entry) (n : ℕ) (l : Option (Argument × ℕ)) : Type 0 where
  pub means : chain_at es n ≡ last_means es l
  pub before : LastBefore n l

-- what the records say; a match reads as no argument
abbrev pub last_of : Record → Option (Argument × ℕ)
last_of (Kept a p n) = Some (a, p)
last_of (Completed d r k a e n) = None

unfoldable pub last_in : List ℕ → ℕ → Option (Argument × ℕ)
last_in store zero = None
last_in store (suc i) = last_of (decode (get_or store i 0))

pub record LastAt (store : List ℕ) (used n : ℕ) (l : Option (Argument × ℕ)) : Type 0 where
  pub is : l ≡ last_in store n
  pub lasts : Lasts (entries store used) n l
