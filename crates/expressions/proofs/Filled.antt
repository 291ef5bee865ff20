-- Rows that are laid from later ones, and the sheet that they make. Each row of a start is one law, by what its byte begins: what
-- is laid is the greatest end within each limit, since later rows hold those of later starts. Then the loop: the sheet is made
-- from c on, and of each start from there the whole end and the next token are kept; one start more keeps that so.
use mathlib.Core.Path.{◌≡◌, refl, sym, ap, ◌∙◌, subst}
use mathlib.Core.Logic.{◌⊎◌, inl, inr}
use mathlib.Core.Bool.{Bool, true, false}
use mathlib.Core.List.{List}
use Rattle.std.specs.Prelude.{Option, None, Some}
use Prim.Native.Nat.{ℕ, suc, ◌+◌, ◌-◌, ◌*◌, ◌≤◌, ◌<◌}
use native.Mathlib.Nat.{mul-le-mul, mul-le-mul_right, add-mul, one-mul}
use native.Mathlib.Numerals.{add-one}
use native.Mathlib.Decide.{ℕ_discrete}
use native.Mathlib.Omega.{arith}
use lib.Dec.{eqb}
use lib.ListN.{length, get_or, set, length-set}
use lib.Seq.{get_or-set_same, get_or-set_other}
use borrow.Author.Tests.{eqb-true, eq-eqb, ne_eqb}
use Rattle.plain.specs.Choice.{select}
use Rattle.plain.specs.Below.{every_below}
use Rattle.plain.proofs.Below.{every-at}
use Rattle.plain.proofs.Tests.{not-both}
use Rattle.token.specs.Token.{is_whitespace}
use Rattle.syntax.specs.Walker.{byte_at}
use Rattle.line.specs.Line.{or_else}
use Rattle.extents.specs.declared.Half.{Half}
use Rattle.extents.specs.declared.Half.TheVariants.{Free, Greedy}
use Rattle.extents.specs.Sheet.{sized, place_of, entry_at, entry_end}
use Rattle.extents.proofs.Places.{in-half}
use Rattle.extents.proofs.Reading.{end-some}
use Rattle.extents.proofs.Size.{sized-length}
use Rattle.expressions.specs.Grammar.{is_digit, is_alnum, is_operator, Begins, Digits, Expr}
use Rattle.expressions.specs.declared.Reach.{Reach}
use Rattle.expressions.specs.Ends.{token_at, sign_at, run_end, up_to, term_at, changes_none}
use Rattle.expressions.specs.Sheet.{EndIn, end_for, byte_of, entry_for, sheet_of}
use Rattle.expressions.specs.Filling.{Lays, WholeIs, Kept, Wholes, Tokens, Follows, Reaches, TermEnds, Made, row_start, RowLaid, FreeAsked, FreeLaid}
use Rattle.expressions.proofs.Bytes.{Kind, digit, alnum, operator}
use Rattle.expressions.proofs.Tokens.{inside, byte-here, begins-there, token-next, token-over, token-inside}
use Rattle.expressions.proofs.Spans.{expr-span}
use Rattle.expressions.proofs.Runs.{run_inside, run-some, run-empty, run-next, run-over}
use Rattle.expressions.proofs.Starts.{word_on, word_back, word-only, word_each}
use Rattle.expressions.proofs.Greatest.{Greatest, greatest-map, up-low, up-here, up-past, up-greatest}
use Rattle.expressions.proofs.Rows.{TermIs, some_term, no_terms, none_is, moved-whole, alone-within, alone-whole, joined-within, joined-whole, past-none, before-none, past_end, term_is}
use Rattle.expressions.proofs.Laying.{from_row, lays-as, lays-join}
use Rattle.expressions.proofs.Entries.{end_is, end-span, entry-is, entry-by, sheet-is}
use Rattle.expressions.proofs.Told.{sign-on, sign-off}

-- ---- where rows stand

module _ (n : ℕ) where
  -- a row ends where the next begins
  next_row : (c k : ℕ) → c < k → c * (n + 1) + (n + 1) ≤ k * (n + 1)
  next_row c k h = let row : c + 1 ≤ k = omega arith in omega (arith, mul-le-mul_right (n + 1) row, add-mul c 1 (n + 1), one-mul (n + 1))

  in-square : (c : ℕ) → c ≤ n → c * (n + 1) + (n + 1) ≤ (n + 1) * (n + 1)
  in-square c h = next_row c (n + 1) (omega arith)

  pub row-place : (half : Half) (c l : ℕ) → row_start n half c + l ≡ place_of n half c l
  row-place Free c l = omega arith
  row-place Greedy c l = omega arith

  -- the row of a later start, in the same half or the other
  row_apart : (half other : Half) (c k l : ℕ) → c < k → k ≤ n → l ≤ n
      → (place_of n other k l < row_start n half c + 0) ⊎ (row_start n half c + (n + 1) ≤ place_of n other k l)
  row_apart Free Free c k l h m w = inr (omega (arith, next_row c k h))
  row_apart Free Greedy c k l h m w = inr (omega (arith, in-square c (omega arith)))
  row_apart Greedy Free c k l h m w = inl (omega (arith, in-half n k l m w))
  row_apart Greedy Greedy c k l h m w = inr (omega (arith, next_row c k h))

  half-apart : (half other : Half) (c l : ℕ) → c ≤ n → l ≤ n → (other ≡ half → ⊥)
      → (place_of n other c l < row_start n half c + 0) ⊎ (row_start n half c + (n + 1) ≤ place_of n other c l)
  half-apart Free Free c l h w d = absurd (d refl)
  half-apart Free Greedy c l h w d = inr (omega (arith, in-square c h))
  half-apart Greedy Free c l h w d = inl (omega (arith, in-half n c l h w))
  half-apart Greedy Greedy c l h w d = absurd (d refl)

  -- a row lies in a sheet of the right length
  pub row_room : (sheet : List ℕ) (half : Half) (c : ℕ) → sized sheet n ≡ true → c ≤ n → row_start n half c + (n + 1) ≤ length sheet
  row_room sheet Free c s h = omega (arith, sized-length sheet n s, in-square c h)
  row_room sheet Greedy c s h = omega (arith, sized-length sheet n s, in-square c h)

  -- of a later start too
  pub later-room : (sheet : List ℕ) (half : Half) (c k : ℕ) → sized sheet n ≡ true → c < k → k ≤ n
      → (row_start n half c + (n + 1) ≤ row_start n half k) × (row_start n half k + (n + 1) ≤ length sheet)
  later-room sheet Free c k s h m = (next_row c k h, row_room sheet Free k s m)
  later-room sheet Greedy c k s h m = (omega (arith, next_row c k h), row_room sheet Greedy k s m)

  -- the numbers of a short line's sheet
  pub products : (c : ℕ) → n ≤ 120 → c ≤ n → (c * (n + 1) ≤ 120 * 121) × ((n + 1) * (n + 1) ≤ 121 * 121)
  products c h k =
      let side : n + 1 ≤ 121 = omega arith in
      let start : c ≤ 120 = omega arith in
      (mul-le-mul start side, mul-le-mul side side)

-- ---- what is laid keeps what is made, and adds to it

module _ (line before after : List ℕ) (half : Half) (c : ℕ) (laid : RowLaid line before after half c) where
  abbrev n : ℕ
  n = length line

  pub laid-sized : sized before n ≡ true → sized after n ≡ true
  unfolding sized
  laid-sized h = ap (λ (k : ℕ). eqb k (2 * ((n + 1) * (n + 1)))) laid.long ∙ h

  -- the entries of later starts stay
  laid-later : (other : Half) (k l : ℕ) → c < k → k ≤ n → l ≤ n → entry_at after n other k l ≡ entry_at before n other k l
  unfolding entry_at
  laid-later other k l h m w = laid.beside (place_of n other k l) (row_apart n half other c k l h m w)

  pub laid-made : c < n → Made line before (c + 1) → Made line after (c + 1)
  laid-made h m = record {
    short = m.short;
    size = laid-sized m.size;
    rows = λ other k l low high w. laid-later other k l (omega arith) high w ∙ m.rows other k l low high w;
  }

  -- the entries of the start itself
  laid-here : (l : ℕ) → l ≤ n → entry_at after n half c l ≡ entry_for line half c l
  unfolding entry_at
  laid-here l w = ap (λ (i : ℕ). get_or after i 0) (sym (row-place n half c l)) ∙ laid.here l (omega arith) (omega arith)

  laid-other : (other : Half) → (other ≡ half → ⊥) → (l : ℕ) → c ≤ n → l ≤ n → entry_at after n other c l ≡ entry_at before n other c l
  unfolding entry_at
  laid-other other d l h w = laid.beside (place_of n other c l) (half-apart n half other c l h w d)

free-not-greedy : Free ≡ Greedy → ⊥
free-not-greedy q = let z : ◌≡◌ {A = ℕ} 0 1 = cc in omega arith

-- with both rows of c, the sheet is made from c on
pub both-laid : (line before between after : List ℕ) (c : ℕ) → RowLaid line before between Free c → RowLaid line between after Greedy c
    → c ≤ length line → length line ≤ 120 → sized before (length line) ≡ true
    → ((half : Half) (k l : ℕ) → c < k → k ≤ length line → l ≤ length line → entry_at before (length line) half k l ≡ entry_for line half k l)
    → Made line after c
both-laid line before between after c free greedy h short size rows = record {
  short = short;
  size = laid-sized line between after Greedy c greedy (laid-sized line before between Free c free size);
  rows = λ half k l low high w. elim (ℕ_discrete k c) [
    | yes q ↦ subst (λ (j : ℕ). entry_at after (length line) half j l ≡ entry_for line half j l) (sym q) (own half l w)
    | no d ↦ laid-later line between after Greedy c greedy half k l (omega (arith, d)) high w ∙ laid-later line before between Free c free half k l (omega (arith, d)) high w ∙ rows half k l (omega (arith, d)) high w
  ];
}
  where
    own : (half : Half) (l : ℕ) → l ≤ length line → entry_at after (length line) half c l ≡ entry_for line half c l
    own Free l w = laid-other line between after Greedy c greedy Free free-not-greedy l h w ∙ laid-here line before between Free c free l w
    own Greedy l w = laid-here line between after Greedy c greedy l w

pub made-sheet : {line sheet : List ℕ} → Made line sheet 0 → sheet ≡ sheet_of line
made-sheet {line} {sheet} m = sheet-is line sheet m.size (λ half c l h k. m.rows half c l (omega arith) h k)

-- ---- entries by what is laid for them

module _ (low top l : ℕ) where
  pub ends_low : l < low + 1 → 255 ≡ byte_of (up_to low top l)
  ends_low h = sym (ap byte_of (up-low low top l (omega arith)))

  pub ends-here : low + 1 ≤ l → l < top + 1 → l ≡ byte_of (up_to low top l)
  ends-here h k = sym (ap byte_of (up-here low top l (omega arith) (omega arith)))

  ends-past : low < top → top + 1 ≤ l → top ≡ byte_of (up_to low top l)
  ends-past h k = sym (ap byte_of (up-past low top l h (omega arith)))

-- an entry that is copied
copied : (x : ℕ) → select (eqb x 255) 255 x ≡ x
copied x = elim (ℕ_discrete x 255) [ yes e ↦ ap (λ (b : Bool). select b 255 x) (eq-eqb x 255 e) ∙ sym e | no d ↦ ap (λ (b : Bool). select b 255 x) (ne_eqb x 255 d) ]

-- the ends of c are those of the start after it: its row is the next row, copied
module _ (line before after : List ℕ) (half : Half) (c : ℕ) (made : Made line before (c + 1)) (start : c < length line)
    (on : (e : ℕ) → EndIn half line c e → EndIn half line (suc c) e) (back : (e : ℕ) → EndIn half line (suc c) e → EndIn half line c e) where
  next-entry : (l : ℕ) → l ≤ length line → get_or before (row_start (length line) half (c + 1) + l) 0 ≡ entry_for line half (c + 1) l
  unfolding entry_at
  next-entry l w = ap (λ (i : ℕ). get_or before i 0) (row-place (length line) half (c + 1) l) ∙ made.rows half (c + 1) l (omega arith) (omega arith) w

  same-entry : (l : ℕ) → entry_for line half (c + 1) l ≡ entry_for line half c l
  same-entry l =
      ap (λ (k : ℕ). entry_for line half k l) (add-one c) ∙ entry-is line half (suc c) l
      ∙ entry-by line half c l (end_for line half (suc c) l)
      (greatest-map (EndIn half line (suc c)) l (EndIn half line c) back on (end_for line half (suc c) l) (end_is line half (suc c) l))

  pub row_copied : (later : ℕ) → later ≡ row_start (length line) half (c + 1)
      → Lays before after (row_start (length line) half c) 0 (length line + 1) (from_row before later 255) → RowLaid line before after half c
  row_copied later q k = lays-as (entry_for line half c)
      (λ l a b. copied (get_or before (later + l) 0) ∙ ap (λ (r : ℕ). get_or before (r + l) 0) q ∙ next-entry l (omega arith) ∙ same-entry l) k

-- a start without an end
pub row-none : (line before after : List ℕ) (half : Half) (c : ℕ) → ((e : ℕ) → EndIn half line c e → ⊥)
    → Lays before after (row_start (length line) half c) 0 (length line + 1) (λ (l : ℕ). 255) → RowLaid line before after half c
row-none line before after half c none_here k = lays-as (entry_for line half c) (λ l a b. entry-by line half c l None (λ e x w. none_here e x)) k

-- ends from low + 1 to top, and none after them
pub row_ends : (line before between after : List ℕ) (half : Half) (c low top : ℕ) → ((l : ℕ) → Greatest (EndIn half line c) l (up_to low top l))
    → low < top → top ≤ length line
    → Lays before between (row_start (length line) half c) 0 (top + 1) (λ (l : ℕ). byte_of (up_to low top l))
    → Lays between after (row_start (length line) half c) (top + 1) (length line + 1) (λ (l : ℕ). top) → RowLaid line before after half c
row_ends line before between after half c low top is more within a b =
    lays-join (omega arith) (omega arith)
    (lays-as (entry_for line half c) (λ l p q. entry-by line half c l (up_to low top l) (is l)) a)
    (lays-as (entry_for line half c) (λ l p q. ends-past low top l more p ∙ entry-by line half c l (up_to low top l) (is l)) b)

-- ---- a free row

module _ (line before between after : List ℕ) (c low top : ℕ) (made : Made line before (c + 1)) (start : c < length line) (ends : TermEnds line c low top)
    (first : Lays before between (c * (length line + 1)) 0 (top + 1) (λ (l : ℕ). byte_of (up_to low top l))) where
  pub free-alone : sign_at is_operator line top ≡ None → Lays between after (c * (length line + 1)) (top + 1) (length line + 1) (λ (l : ℕ). top)
      → FreeLaid line before after c top
  free-alone e second = record {
    row = row_ends line before between after Free c low top (alone-within line c low top ends e) ends.some ends.inside first second;
    ends = subst (WholeIs line c) (end-some top (λ q. omega (arith, made.short, ends.inside))) (alone-whole line c low top ends e);
  }

  module _ (p : ℕ) (sign : Begins is_operator line top p) (next : ℕ) (is : next ≡ suc p) where
    -- nothing from past the operator ends before it
    low_end : (l : ℕ) → l ≤ top → Greatest (Expr line c) l (up_to low top l)
    low_end l h = joined-within line c low top ends p sign l None (λ e x w. omega (arith, sign.from, expr-span x))

    pub next-in : (c < next) × (next ≤ length line)
    next-in = let a = ends.after in let b = ends.some in let d = sign.from in let i = inside operator line p sign.here in (omega arith, omega arith)

    next-free : (l : ℕ) → l ≤ length line → get_or between (next * (length line + 1) + l) 0 ≡ byte_of (end_for line Free next l)
    unfolding entry_at
    next-free l w =
        let (far, within) = next-in in
        first.beside (next * (length line + 1) + l) (inr (omega (arith, next_row (length line) c next far, ends.inside)))
        ∙ ap (λ (i : ℕ). get_or before i 0) (row-place (length line) Free next l)
        ∙ made.rows Free next l (omega arith) within w
        ∙ entry-is line Free next l

    joined-byte : (l : ℕ) (o : Option ℕ) → top + 1 ≤ l → Greatest (Expr line next) l o → select (eqb (byte_of o) 255) top (byte_of o) ≡ byte_of (or_else o (up_to low top l))
    joined-byte l None h g = ends-past low top l ends.some h
    joined-byte l (Some e) h g =
        let far = expr-span g.ends in
        ap (λ (b : Bool). select b top e) (ne_eqb e 255 (λ q. omega (arith, made.short)))

    joined-entry : (l : ℕ) → top + 1 ≤ l → l ≤ length line → from_row between (next * (length line + 1)) top l ≡ entry_for line Free c l
    joined-entry l h w =
        ap (λ (x : ℕ). select (eqb x 255) top x) (next-free l w)
        ∙ joined-byte l (end_for line Free next l) h (end_is line Free next l)
        ∙ entry-by line Free c l (or_else (end_for line Free next l) (up_to low top l))
        (joined-within line c low top ends p sign l (end_for line Free next l) (subst (λ (k : ℕ). Greatest (Expr line k) l (end_for line Free next l)) is (end_is line Free next l)))

    pub free-joined : (wholes : List ℕ) → Wholes line wholes (c + 1)
        → Lays between after (c * (length line + 1)) (top + 1) (length line + 1) (from_row between (next * (length line + 1)) top)
        → FreeLaid line before after c (get_or wholes next 0)
    free-joined wholes w second = let (far, within) = next-in in record {
      row = lays-join (omega arith) (omega (arith, ends.inside))
          (lays-as (entry_for line Free c) (λ l a b. entry-by line Free c l (up_to low top l) (low_end l (omega arith))) first)
          (lays-as (entry_for line Free c) (λ l a b. joined-entry l a (omega arith)) second);
      ends = joined-whole line c low top ends p sign (entry_end (get_or wholes next 0)) (subst (λ (k : ℕ). WholeIs line k (entry_end (get_or wholes next 0))) is (w.each next (omega arith) within));
    }

module _ (line before after : List ℕ) (c : ℕ) (made : Made line before (c + 1)) (start : c < length line) where
  -- whitespace or a minus
  pub free-copied : {r : Bool} (wholes : List ℕ) (later : ℕ) → Wholes line wholes (c + 1) → r ≡ changes_none (byte_at line c) → r ≡ true → later ≡ (c + 1) * (length line + 1)
      → Lays before after (c * (length line + 1)) 0 (length line + 1) (from_row before later 255) → FreeLaid line before after c (get_or wholes (c + 1) 0)
  free-copied wholes later w q t at k = record {
    row = row_copied line before after Free c made start (past-none line c (sym q ∙ t)) (before-none line c (sym q ∙ t)) later at k;
    ends = moved-whole line c (suc c) (past-none line c (sym q ∙ t)) (before-none line c (sym q ∙ t)) (entry_end (get_or wholes (c + 1) 0))
        (subst (λ (k : ℕ). WholeIs line k (entry_end (get_or wholes (c + 1) 0))) (add-one c) (w.each (c + 1) (omega arith) (omega arith)));
  }

  -- no term
  pub free-none : TermIs line c None → Lays before after (c * (length line + 1)) 0 (length line + 1) (λ (l : ℕ). 255) → FreeLaid line before after c 255
  free-none (no_terms t) k =
      let none_here = none_is line c t in
      record { row = lays-as (entry_for line Free c) (λ l a b. entry-by line Free c l None (none_here.within l)) k; ends = none_here.whole }

-- what the code is told of the term at c
module _ (line wholes : List ℕ) (c inner : ℕ) (w : Wholes line wholes (c + 1)) (start : c < length line) (q : inner ≡ get_or wholes (c + 1) 0) where
  inner-whole : WholeIs line (suc c) (entry_end inner)
  inner-whole = subst (λ (k : ℕ). WholeIs line k (entry_end inner)) (add-one c) (subst (λ (x : ℕ). WholeIs line (c + 1) (entry_end x)) (sym q) (w.each (c + 1) (omega arith) (omega arith)))

  pub inner-follows : (tokens : List ℕ) → length line ≤ 120 → Tokens line tokens (c + 1) → Follows line tokens (entry_end inner)
  inner-follows tokens short t m e =
      let (low, high) = expr-span (inner-whole.ends m e) in
      (omega (arith, t.many), t.each m (omega arith) high)

  module _ {r : Bool} (p : r ≡ changes_none (byte_at line c)) (f : r ≡ false) where
    pub term-none : None ≡ term_at line (entry_end inner) c → TermIs line c None
    term-none e = subst (TermIs line c) (sym e) (term_is line (entry_end inner) c inner-whole (sym p ∙ f))

    pub term-some : (low top : ℕ) → Some (record { low = low; top = top }) ≡ term_at line (entry_end inner) c → TermEnds line c low top
    term-some low top e = go (subst (TermIs line c) (sym e) (term_is line (entry_end inner) c inner-whole (sym p ∙ f)))
      where
        go : TermIs line c (Some (record { low = low; top = top })) → TermEnds line c low top
        go (some_term t) = t

-- ---- a greedy row

-- the digits from c on
pub digits-top : (line : List ℕ) (c : ℕ) → c < length line → (top : ℕ) → top ≡ run_end is_digit line c → top ≤ length line
digits-top line c start top e = omega (arith, run_inside digit line c (omega arith))

module _ (line before after : List ℕ) (c : ℕ) (made : Made line before (c + 1)) (start : c < length line) where
  pub greedy-copied : {r : Bool} (later : ℕ) → r ≡ is_whitespace (byte_at line c) → r ≡ true → later ≡ (length line + 1) * (length line + 1) + (c + 1) * (length line + 1)
      → Lays before after ((length line + 1) * (length line + 1) + c * (length line + 1)) 0 (length line + 1) (from_row before later 255) → RowLaid line before after Greedy c
  greedy-copied later q t at k =
      row_copied line before after Greedy c made start (λ e x. word_on line c (sym q ∙ t) digit x) (λ e x. word_back line c (sym q ∙ t) x) later at k

  module _ {r : Bool} (q : r ≡ is_whitespace (byte_at line c)) (f : r ≡ false) where
    pub greedy-none : (top : ℕ) → top ≡ run_end is_digit line c → top ≤ c
        → Lays before after ((length line + 1) * (length line + 1) + c * (length line + 1)) 0 (length line + 1) (λ (l : ℕ). 255) → RowLaid line before after Greedy c
    greedy-none top e h k = row-none line before after Greedy c (λ d x. not-both (byte-here (sym q ∙ f) x.begins) (run-empty digit line c (omega arith))) k

    pub greedy-ends : (between : List ℕ) (top : ℕ) → top ≡ run_end is_digit line c → c < top
        → Lays before between ((length line + 1) * (length line + 1) + c * (length line + 1)) 0 (top + 1) (λ (l : ℕ). byte_of (up_to c top l))
        → Lays between after ((length line + 1) * (length line + 1) + c * (length line + 1)) (top + 1) (length line + 1) (λ (l : ℕ). top) → RowLaid line before after Greedy c
    greedy-ends between top e h first second =
        let inside = digits-top line c start top e in
        let here = run-some digit line c (omega arith) in
        row_ends line before between after Greedy c c top
        (λ l. up-greatest c top l (Digits line c)
        (λ d a b. word_each line c digit here d a (omega arith))
        (λ d x. let (a, b) = word-only line c digit (sym q ∙ f) d x in (a, omega arith)))
        h inside first second

-- ---- what each call asks

module _ (line sheet : List ℕ) (c : ℕ) (made : Made line sheet (c + 1)) (start : c < length line) where
  pub one-row : (half : Half) (after : List ℕ) → length after ≡ length sheet → row_start (length line) half c + (length line + 1) ≤ length after
  one-row half after e = omega (arith, row_room (length line) sheet half c made.size (omega arith))

  pub term-room : {low top : ℕ} → TermEnds line c low top → (c * (length line + 1) + (top + 1) ≤ length sheet) × ((low < top) × (top ≤ 120))
  term-room t = (omega (arith, row_room (length line) sheet Free c made.size (omega arith), t.inside), (t.some, omega (arith, t.inside, made.short)))

  pub digits-room : (top : ℕ) → top ≤ length line → (length line + 1) * (length line + 1) + c * (length line + 1) + (top + 1) ≤ length sheet
  digits-room top h = omega (arith, row_room (length line) sheet Greedy c made.size (omega arith))

  pub later-row : (half : Half) (k : ℕ) (after : List ℕ) → length after ≡ length sheet → c < k → k ≤ length line
      → (row_start (length line) half c + (length line + 1) ≤ row_start (length line) half k) × (row_start (length line) half k + (length line + 1) ≤ length after)
  later-row half k after e h m = let (a, b) = later-room (length line) sheet half c k made.size h m in (a, omega arith)

  pub next_start : (half : Half) → row_start (length line) half c + (length line + 1) ≡ row_start (length line) half (c + 1)
  next_start Free = omega (arith, add-mul c 1 (length line + 1), one-mul (length line + 1))
  next_start Greedy = omega (arith, add-mul c 1 (length line + 1), one-mul (length line + 1))

  pub copy-room : (half : Half) → (0 ≤ length line + 1) × ((row_start (length line) half c + (length line + 1) ≤ row_start (length line) half c + (length line + 1)) × (row_start (length line) half c + (length line + 1) + (length line + 1) ≤ length sheet))
  copy-room half = let (a, b) = later-room (length line) sheet half c (c + 1) made.size (omega arith) (omega arith) in (omega arith, (omega arith, omega (arith, next_start half)))

  pub small : (c * (length line + 1) ≤ 120 * 121) × ((length line + 1) * (length line + 1) ≤ 121 * 121)
  small = products (length line) c made.short (omega arith)

-- ---- an operator after a term

module _ {r : Bool} (line : List ℕ) (m t b : ℕ) (token : t ≡ token_at line m) (byte : b ≡ byte_at line t) (is : r ≡ is_operator b) where
  operator-here : r ≡ true → Begins is_operator line m t
  operator-here h = begins-there operator line m t (sign-on is_operator line m t b token byte (sym is ∙ h))

  pub operator-none : r ≡ false → sign_at is_operator line m ≡ None
  operator-none h = sign-off is_operator line m t b token byte (sym is ∙ h)

-- the token after a term is known
pub term-follows : {line sheet wholes tokens : List ℕ} {c low top : ℕ} → FreeAsked line sheet wholes tokens c → TermEnds line c low top
    → (top < length tokens) × (get_or tokens top 0 ≡ token_at line top) × (token_at line top ≤ length line)
term-follows {line} {top = top} asked ends = (
  omega (arith, asked.follow.many, asked.made.short, ends.inside),
  asked.follow.each top (omega (arith, ends.after, ends.some)) ends.inside,
  token-inside line top ends.inside,
)

-- with the place of the token after the term, and its byte
module _ {r : Bool} {line before wholes tokens between : List ℕ} {c low top t b : ℕ} (asked : FreeAsked line before wholes tokens c) (ends : TermEnds line c low top)
    (first : Lays before between (c * (length line + 1)) 0 (top + 1) (λ (l : ℕ). byte_of (up_to low top l)))
    (token : t ≡ token_at line top) (byte : b ≡ byte_at line t) (is : r ≡ is_operator b) (h : r ≡ true) where
  sign : Begins is_operator line top t
  sign = operator-here line top t b token byte is h

  far : (c < t + 1) × (t + 1 ≤ length line)
  far = next-in line before between between c low top asked.made asked.start ends first t sign (t + 1) (add-one t)

  pub joined_small : (t + 1) * (length line + 1) ≤ 120 * 121
  joined_small = (products (length line) (t + 1) asked.made.short far.1).0

  pub joined-asks : (top + 1 ≤ length line + 1) × ((c * (length line + 1) + (length line + 1) ≤ (t + 1) * (length line + 1)) × ((t + 1) * (length line + 1) + (length line + 1) ≤ length between))
  joined-asks =
      let (a, b) = later-row line before c asked.made asked.start Free (t + 1) between first.long far.0 far.1 in
      (omega (arith, ends.inside), (a, b))

  pub joined-held : t + 1 < length wholes
  joined-held = omega (arith, far, asked.made.short, asked.ends.many)

  pub joined-laid : (after : List ℕ) → Lays between after (c * (length line + 1)) (top + 1) (length line + 1) (from_row between ((t + 1) * (length line + 1)) top)
      → FreeLaid line before after c (get_or wholes (t + 1) 0)
  joined-laid after second =
      free-joined line before between after c low top asked.made asked.start ends first t sign (t + 1) (add-one t) wholes asked.ends second

-- ---- from the last start to the first

-- no start past the last byte has an end
pub last_none : (line : List ℕ) (half : Half) (e : ℕ) → EndIn half line (length line) e → ⊥
last_none line half e x = omega (arith, end-span line half x)

pub last_made : (line before between after : List ℕ) → length line ≤ 120 → sized before (length line) ≡ true
    → Lays before between (length line * (length line + 1)) 0 (length line + 1) (λ (l : ℕ). 255)
    → Lays between after ((length line + 1) * (length line + 1) + length line * (length line + 1)) 0 (length line + 1) (λ (l : ℕ). 255)
    → Made line after (length line)
last_made line before between after short size a b =
    both-laid line before between after (length line)
    (row-none line before between Free (length line) (last_none line Free) a)
    (row-none line between after Greedy (length line) (last_none line Greedy) b)
    (omega arith) short size (λ half k l low high w. absurd (omega arith))

pub last-whole : (line wholes : List ℕ) → length line ≤ 120 → length wholes ≡ 121 → every_below 121 (λ (i : ℕ). eqb (get_or wholes i 0) 255) ≡ true → Wholes line wholes (length line)
last-whole line wholes short many all = record {
  many = many;
  each = λ k low high.
      let same : length line ≡ k = omega arith in
      let is : get_or wholes (length line) 0 ≡ 255 = eqb-true (get_or wholes (length line) 0) 255 (every-at 121 _ all (length line) (omega arith)) in
      subst (λ (j : ℕ). WholeIs line j (entry_end (get_or wholes j 0))) same
      (subst (λ (x : ℕ). WholeIs line (length line) (entry_end x)) (sym is) (none_is line (length line) (past_end line (length line) (omega arith))).whole);
}

-- ---- one start more

module _ (line : List ℕ) (Says : ℕ → ℕ → Type 0) where
  -- past the line nothing is kept
  kept-none : (bytes : List ℕ) (c : ℕ) → length bytes ≡ 121 → length line < c → Kept line Says bytes c
  kept-none bytes c many past = record { many = many; each = λ k low high. absurd (omega arith) }

  kept_next : (bytes : List ℕ) (c byte : ℕ) → Kept line Says bytes (c + 1) → c < 121 → Says c byte → Kept line Says (set bytes c byte) c
  kept_next bytes c byte w h is = record {
    many = length-set bytes c byte ∙ w.many;
    each = λ k low high. elim (ℕ_discrete k c) [
      | yes q ↦ subst (λ (j : ℕ). Says j (get_or (set bytes c byte) j 0)) (sym q) (subst (Says c) (sym (get_or-set_same bytes c byte 0 (omega (arith, w.many)))) is)
      | no d ↦ subst (Says k) (sym (get_or-set_other bytes c k byte 0 d)) (w.each k (omega (arith, d)) high)
    ];
  }

  kept-later : (bytes : List ℕ) (c : ℕ) → Kept line Says bytes c → Kept line Says bytes (c + 1)
  kept-later bytes c w = record { many = w.many; each = λ k low high. w.each k (omega arith) high }

-- the line's end
pub last-token : (line tokens : List ℕ) → length line ≤ 120 → length tokens ≡ 121 → Tokens line (set tokens (length line) (length line)) (length line)
last-token line tokens short many =
    kept_next line (λ k b. b ≡ token_at line k) tokens (length line) (length line)
    (kept-none line (λ k b. b ≡ token_at line k) tokens (length line + 1) many (omega arith)) (omega arith) (sym (token-over line))

pub last-reach : (line : List ℕ) → Reaches line (length line) (record { digits = length line; names = length line })
last-reach line = record { digits = sym (run-over digit line); names = sym (run-over alnum line) }

-- the loop counts down: what is known from c on, and of the start before it by its byte
module _ (line tokens : List ℕ) (c : ℕ) (in-line : c ≤ length line) (more : 0 < c) (short : length line ≤ 120) where
  abbrev at : ℕ
  at = c - 1

  -- where its token begins
  module _ {white : Bool} (held : Tokens line tokens c) (is : white ≡ is_whitespace (byte_at line at)) (next t : ℕ) (read : next ≡ get_or tokens c 0) (told : t ≡ select white next at) where
    here : t ≡ token_at line at
    here =
        let begin : at + 1 ≡ c = omega arith in
        told
        ∙ ap (λ (x : ℕ). select white x at) (read ∙ held.each c (omega arith) in-line ∙ ap (token_at line) (sym begin))
        ∙ ap (λ (b : Bool). select b (token_at line (at + 1)) at) is
        ∙ sym (token-next line at (omega arith))

    pub token-small : t ≤ 120
    token-small = omega (arith, here, token-inside line at (omega arith))

    pub tokens-next : Tokens line (set tokens at t) at
    tokens-next =
        kept_next line (λ k b. b ≡ token_at line k) tokens at t
        (subst (λ (k : ℕ). Tokens line tokens k) (omega arith) held) (omega arith) here

  -- how far it reaches
  pub reach-next : (reach next : Reach) → Reaches line c next
      → (reach.digits ≡ select (is_digit (byte_at line at)) next.digits at) × (reach.names ≡ select (is_alnum (byte_at line at)) next.names at) → Reaches line at reach
  reach-next reach next known (d, n) = record { digits = one digit known.digits d; names = one alnum known.names n }
    where
      one : {kind : ℕ → Bool} {x y : ℕ} → Kind kind → y ≡ run_end kind line c → x ≡ select (kind (byte_at line at)) y at → x ≡ run_end kind line at
      one {kind} k q e =
          let begin : at + 1 ≡ c = omega arith in
          e ∙ ap (λ (z : ℕ). select (kind (byte_at line at)) z at) (q ∙ ap (run_end kind line) (sym begin)) ∙ sym (run-next k line at (omega arith))

module _ (line sheet wholes tokens : List ℕ) (c : ℕ) (in-line : c ≤ length line) (more : 0 < c) (made : Made line sheet c) (held : Wholes line wholes c) (follow : Tokens line tokens (c - 1)) where
  before : c ≡ c - 1 + 1
  before = omega arith

  pub start-asked : FreeAsked line sheet wholes tokens (c - 1)
  start-asked = record {
    start = omega arith;
    made = subst (Made line sheet) before made;
    ends = subst (λ (k : ℕ). Wholes line wholes k) before held;
    follow = kept-later line (λ k b. b ≡ token_at line k) tokens (c - 1) follow;
  }

  module _ (between : List ℕ) (whole : ℕ) (free : FreeLaid line sheet between (c - 1) whole) where
    pub greedy-asked : Made line between (c - 1 + 1) × (c - 1 < length line)
    greedy-asked = (laid-made line sheet between Free (c - 1) free.row (omega arith) start-asked.made, omega arith)

    pub start-done : (after : List ℕ) → RowLaid line between after Greedy (c - 1)
        → (c - 1 ≤ length line) × Made line after (c - 1) × Wholes line (set wholes (c - 1) whole) (c - 1)
    start-done after greedy = (
      omega arith,
      both-laid line sheet between after (c - 1) free.row greedy (omega arith) made.short made.size (λ half k l low high w. made.rows half k l (omega arith) high w),
      kept_next line (λ k b. WholeIs line k (entry_end b)) wholes (c - 1) whole start-asked.ends (omega (arith, made.short)) free.ends,
    )

pub all_made : (line sheet : List ℕ) (c : ℕ) → c ≤ 0 → Made line sheet c → Made line sheet 0
all_made line sheet c h m = let end : c ≡ 0 = omega arith in subst (Made line sheet) end m
