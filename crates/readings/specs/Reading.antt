-- What a reading is: document 01's "Steps of a reading" as permissions, with no search, no depth bound and no dropping of
-- equal matches. It rests on the declared useful place and cut.
-- In words: docs/MANUAL.md, 3 and 4.
use Rattle.std.specs.Prelude.{◌≡◌, ◌⊎◌, true, ℕ, ◌+◌, ◌≤◌, ◌<◌, min, length, Some}
use mathlib.Core.List.{List, [], ◌∷◌, Memᴰ}
use Rattle.plain.specs.Lists.{Apart}
use Rattle.token.specs.Token.{is_whitespace, same_letter}
use Rattle.syntax.specs.Walker.{byte_at, UsefulPlace}
use Rattle.defs.specs.declared.ruledef.Part.{Part}
use Rattle.defs.specs.declared.ruledef.Part.TheVariants.{Exact, Whitespace, Expression, Nested}
use Rattle.readings.specs.Tree.{Tree, node, Args, end, expr, nest}
use Rattle.readings.specs.Scene.{Scene, walker_at}

-- p is the useful place at cursor c under limit l
abbrev pub Useful : Scene → ℕ → ℕ → ℕ → Type 0
Useful s l c p = UsefulPlace s.line (walker_at s.line l c) p

-- Exact part: the byte at the useful place, below the limit, equals the part with ASCII case ignored; the cursor goes
-- past it, to d.
pub record Exactly-at (s : Scene) (l c x d : ℕ) : Type 0 where
  pub place : ℕ
  pub useful : Useful s l c place
  pub below : place < (walker_at s.line l c).limit
  pub equal : same_letter (byte_at s.line place) x ≡ true
  pub past : d ≡ place + 1

-- Whitespace part: succeeds at the limit or if the byte at the cursor is whitespace.
abbrev pub Gap : Scene → ℕ → ℕ → Type 0
Gap s l c = ((walker_at s.line l c).limit ≤ (walker_at s.line l c).cursor) ⊎ (is_whitespace (byte_at s.line (walker_at s.line l c).cursor) ≡ true)

-- Lookahead character: the next exact part after the parameter, over whitespace parts; none if a parameter or the end
-- comes first.
pub data Ahead : List Part → ℕ → Type 0 where
  next : {x : ℕ} {ps : List Part} → Ahead (Exact x ∷ ps) x
  past_space : {x : ℕ} {ps : List Part} → Ahead ps x → Ahead (Whitespace ∷ ps) x

-- m is the cut of a parameter that the parts ps follow
pub record Cut-for (s : Scene) (l c : ℕ) (ps : List Part) (m : ℕ) : Type 0 where
  pub char : ℕ
  pub ahead : Ahead ps char
  pub cuts : s.IsCut char l c m

-- two ends have the same useful place under l
abbrev pub SamePlace : Scene → ℕ → ℕ → ℕ → Type 0
SamePlace s l d e = (p : ℕ) × Useful s l d p × Useful s l e p

-- Expression: candidate ends are free(c, l), free(c, cut) if there is a cut, greedy(c, l), in that order. Of ends with
-- the same useful place under l, only the first stays.
pub data Candidate (s : Scene) (l c : ℕ) (ps : List Part) : ℕ → Type 0 where
  freely : {e : ℕ} → s.free c l ≡ Some e → Candidate s l c ps e
  cut_short : {e m : ℕ} → Cut-for s l c ps m → s.free c m ≡ Some e
      → ((d : ℕ) → s.free c l ≡ Some d → SamePlace s l d e → ⊥) → Candidate s l c ps e
  greedily : {e : ℕ} → s.greedy c l ≡ Some e
      → ((d : ℕ) → s.free c l ≡ Some d → SamePlace s l d e → ⊥)
      → ((m d : ℕ) → Cut-for s l c ps m → s.free c m ≡ Some d → SamePlace s l d e → ⊥) → Candidate s l c ps e

-- Nested: under l and then under the cut if there is one
pub data Under (s : Scene) (l c : ℕ) (ps : List Part) : ℕ → Type 0 where
  whole : Under s l c ps l
  up_to : {m : ℕ} → Cut-for s l c ps m → Under s l c ps m

-- An argument's end is the new cursor e; its start is the lesser of that and the old useful place. In the tree each stands
-- as base plus offset: the start as f, the end as g.
pub record Span (s : Scene) (l c e f g : ℕ) : Type 0 where
  pub place : ℕ
  pub useful : Useful s l c place
  pub starts : f ≡ s.base + min e place
  pub stops : g ≡ s.base + e

-- under limit l, the parts from cursor c on, with these arguments, to cursor e
pub data From (s : Scene) : ℕ → List Part → ℕ → Args → ℕ → Type 0 where
  finish : {l c : ℕ} → From s l [] c end c
  exact : {l c d e x : ℕ} {ps : List Part} {a : Args} → Exactly-at s l c x d → From s l ps d a e → From s l (Exact x ∷ ps) c a e
  whitespace : {l c e : ℕ} {ps : List Part} {a : Args} → Gap s l c → From s l ps c a e → From s l (Whitespace ∷ ps) c a e
  expression : {l c d e f g : ℕ} {ps : List Part} {a : Args} → Candidate s l c ps d → Span s l c d f g → From s l ps d a e
      → From s l (Expression ∷ ps) c (expr f g a) e
  -- every rule of the ruleset need not reach the limit; the limit goes back to l
  nested : {l m c d e f g r k : ℕ} {ps : List Part} {a b : Args} → Under s l c ps m → Memᴰ k (s.rules r)
      → From s m (s.parts r k) c b d → Span s l c d f g → From s l ps d a e
      → From s l (Nested r ∷ ps) c (nest f g (node r k b) a) e

-- A reading is a tree permitted by these rules from any top ruleset. A top rule must end at the line's end.
pub data Reading (s : Scene) : Tree → Type 0 where
  reading : {r k : ℕ} {a : Args} → Memᴰ r s.tops → Memᴰ k (s.rules r)
      → From s (length s.line) (s.parts r k) 0 a (length s.line) → Reading s (node r k a)

-- these trees are the readings, each once, and nothing else
pub record Readings (s : Scene) (ts : List Tree) : Type 0 where
  pub only : {t : Tree} → Memᴰ t ts → Reading s t
  pub every : {t : Tree} → Reading s t → Memᴰ t ts
  pub once : Apart (λ (t : Tree). t) ts
