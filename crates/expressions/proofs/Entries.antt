-- The sheet of a line holds the greatest ends, passes document 01's check, and gives free and greedy back.
use mathlib.Core.Path.{◌≡◌, refl, sym, ap, ap₂, ◌∙◌, subst}
use mathlib.Core.Bool.{Bool, true}
use mathlib.Core.List.{List}
use Rattle.std.specs.Prelude.{Option, None, Some}
use Prim.Native.Nat.{ℕ, ◌+◌, ◌-◌, ◌*◌, ◌/◌, ◌%◌, ◌≤◌, ◌<◌}
use native.Mathlib.Nat.{mul-add-div_right, mul-add-mod_self_right, div-eq_of_lt, mod-eq_of_lt, add-zero, div-lt_iff_lt-mul, mod-lt, div-add-mod'}
use native.Mathlib.Decide.{dec_lt}
use native.Mathlib.Omega.{arith}
use lib.Dec.{ltb, eqb}
use lib.ListN.{length, get_or}
use borrow.Author.Tests.{lt-ltb, le-ltb, le-leb, eq-eqb}
use Rattle.plain.specs.Choice.{select}
use Rattle.plain.proofs.Below.{every-all}
use Rattle.plain.proofs.Lists.{listed-length, listed_at, as-listed}
use Rattle.plain.proofs.Tests.{or_right, and_both}
use Rattle.extents.specs.declared.Half.{Half}
use Rattle.extents.specs.declared.Half.TheVariants.{Free, Greedy}
use Rattle.extents.specs.Sheet.{sized, entry_at, entry_fits, fits_at, row_fits, half_fits, sheet_fits, entry_end, readable, end_in}
use Rattle.extents.proofs.Places.{in-half}
use Rattle.extents.proofs.Reading.{end-some, read}
use Rattle.extents.proofs.Size.{sized-length}
use Rattle.expressions.specs.Sheet.{EndIn, EntryIs, at_end, no_end, SheetIs, end_for, byte_of, entry_for, in_half, sheet_byte, sheet_of}
use Rattle.expressions.proofs.Bytes.{digit}
use Rattle.expressions.proofs.Spans.{Span, word-span, expr-span}
use Rattle.expressions.proofs.Greatest.{Greatest, greatest-one}
use Rattle.expressions.proofs.Rows.{free-is, greedy-is}

module _ (line : List ℕ) where
  abbrev n : ℕ
  n = length line

  abbrev square : ℕ
  square = (n + 1) * (n + 1)

  -- ---- an entry

  pub end_is : (half : Half) (c l : ℕ) → Greatest (EndIn half line c) l (end_for line half c l)
  end_is Free c l = free-is line c l
  end_is Greedy c l = greedy-is line c l

  pub end-span : (half : Half) {c e : ℕ} → EndIn half line c e → Span line c e
  end-span Free x = expr-span x
  end-span Greedy w = word-span digit w

  -- no end lies below its start, so an entry is its end's byte wherever it stands
  pub entry-is : (half : Half) (c l : ℕ) → entry_for line half c l ≡ byte_of (end_for line half c l)
  unfolding entry_for
  entry-is half c l =
      elim (dec_lt l c) [
        | yes h ↦ ap (λ (b : Bool). select b 255 (byte_of (end_for line half c l))) (lt-ltb l c h)
            ∙ ap byte_of (greatest-one (EndIn half line c) l None (end_for line half c l) (λ e x w. omega (arith, end-span half x)) (end_is half c l))
        | no h ↦ ap (λ (b : Bool). select b 255 (byte_of (end_for line half c l))) (le-ltb l c (omega (arith, h)))
      ]

  -- so it is the byte of what is greatest
  pub entry-by : (half : Half) (c l : ℕ) (o : Option ℕ) → Greatest (EndIn half line c) l o → byte_of o ≡ entry_for line half c l
  entry-by half c l o g =
      ap byte_of (greatest-one (EndIn half line c) l o (end_for line half c l) g (end_is half c l)) ∙ sym (entry-is half c l)

  end-within : (half : Half) (c l : ℕ) (o : Option ℕ) → Greatest (EndIn half line c) l o → (e : ℕ) → o ≡ Some e → (c < e) × (e ≤ l) × (e ≤ n)
  end-within half c l None g e q = let z : ◌≡◌ {A = ℕ} 0 1 = cc in absurd (omega arith)
  end-within half c l (Some d) g e q = let same : d ≡ e = cc in let w = g.within in let s = end-span half g.ends in (omega arith, omega arith, omega arith)

  -- ---- the sheet, entry by entry

  pub sheet-sized : sized (sheet_of line) n ≡ true
  unfolding sized sheet_of
  sheet-sized = eq-eqb _ _ (listed-length (2 * square) (sheet_byte line))

  place-in-half : (half : Half) (c l : ℕ) → l ≤ n → in_half line half (c * (n + 1) + l) ≡ entry_for line half c l
  unfolding in_half
  place-in-half half c l h =
      ap₂ (entry_for line half)
      (mul-add-div_right (omega arith) c l ∙ ap (λ (x : ℕ). c + x) (div-eq_of_lt (omega arith)) ∙ add-zero c)
      (mul-add-mod_self_right c (n + 1) l ∙ mod-eq_of_lt (omega arith))

  pub sheet-entry : (half : Half) (c l : ℕ) → c ≤ n → l ≤ n → entry_at (sheet_of line) n half c l ≡ entry_for line half c l
  unfolding entry_at sheet_of sheet_byte
  sheet-entry Free c l h k =
      let low = in-half n c l h k in
      let at : 0 + (c * (n + 1) + l) ≡ c * (n + 1) + l = omega arith in
      listed_at (2 * square) (sheet_byte line) (0 + (c * (n + 1) + l)) (omega arith)
      ∙ ap (sheet_byte line) at
      ∙ ap (λ (b : Bool). select b (in_half line Free (c * (n + 1) + l)) (in_half line Greedy (c * (n + 1) + l - square))) (lt-ltb (c * (n + 1) + l) square low)
      ∙ place-in-half Free c l k
  sheet-entry Greedy c l h k =
      let low = in-half n c l h k in
      let at : square + (c * (n + 1) + l) - square ≡ c * (n + 1) + l = omega arith in
      listed_at (2 * square) (sheet_byte line) (square + (c * (n + 1) + l)) (omega arith)
      ∙ ap (λ (b : Bool). select b (in_half line Free (square + (c * (n + 1) + l))) (in_half line Greedy (square + (c * (n + 1) + l) - square))) (le-ltb (square + (c * (n + 1) + l)) square (omega arith))
      ∙ ap (in_half line Greedy) at
      ∙ place-in-half Greedy c l k

  -- a sheet with these entries is the line's
  module _ (sheet : List ℕ) (size : sized sheet n ≡ true)
      (entries : (half : Half) (c l : ℕ) → c ≤ n → l ≤ n → entry_at sheet n half c l ≡ entry_for line half c l) where
    in_row : (i : ℕ) → i < square → (i / (n + 1) ≤ n) × (i % (n + 1) ≤ n) × (i / (n + 1) * (n + 1) + i % (n + 1) ≡ i)
    in_row i h =
        let start : i / (n + 1) < n + 1 = (div-lt_iff_lt-mul {k = n + 1} {x = i} {y = n + 1} (omega arith)).1 h in
        let limit : i % (n + 1) < n + 1 = mod-lt i (omega arith) in
        (omega arith, omega arith, div-add-mod' i (n + 1))

    byte-is : (i : ℕ) → i < 2 * square → get_or sheet i 0 ≡ sheet_byte line i
    unfolding sheet_byte in_half entry_at
    byte-is i h =
        elim (dec_lt i square) [
          | yes low ↦ let (start, limit, at) = in_row i low in
              let place : i ≡ 0 + (i / (n + 1) * (n + 1) + i % (n + 1)) = omega arith in
              ap (λ (k : ℕ). get_or sheet k 0) place ∙ entries Free (i / (n + 1)) (i % (n + 1)) start limit
              ∙ sym (ap (λ (b : Bool). select b (in_half line Free i) (in_half line Greedy (i - square))) (lt-ltb i square low))
          | no high ↦ let (start, limit, at) = in_row (i - square) (omega (arith, high)) in
              let place : i ≡ square + ((i - square) / (n + 1) * (n + 1) + (i - square) % (n + 1)) = omega (arith, high) in
              ap (λ (k : ℕ). get_or sheet k 0) place ∙ entries Greedy ((i - square) / (n + 1)) ((i - square) % (n + 1)) start limit
              ∙ sym (ap (λ (b : Bool). select b (in_half line Free i) (in_half line Greedy (i - square))) (le-ltb i square (omega (arith, high))))
        ]

    pub sheet-is : sheet ≡ sheet_of line
    unfolding sheet_of
    sheet-is = as-listed (2 * square) (sheet_byte line) sheet (sized-length sheet n size) byte-is

  -- ---- from the relation

  entry-declared : (half : Half) (c l : ℕ) (o : Option ℕ) → Greatest (EndIn half line c) l o → EntryIs (EndIn half line c) l (byte_of o)
  entry-declared half c l None g = no_end g
  entry-declared half c l (Some e) g = at_end g

  pub sheet-declared : SheetIs line (sheet_of line)
  unfolding entry_for
  sheet-declared = record {
    size = sheet-sized;
    entries = λ half c l h k.
        subst (EntryIs (EndIn half line c) l) (sym (sheet-entry half c l (omega arith) k ∙ entry-is half c l))
        (entry-declared half c l (end_for line half c l) (end_is half c l));
    above = λ half c l h k. sheet-entry half c l k (omega arith) ∙ ap (λ (b : Bool). select b 255 (byte_of (end_for line half c l))) (lt-ltb l c h);
  }

  -- which only one sheet fits
  entry-told : (half : Half) (c l b : ℕ) → EntryIs (EndIn half line c) l b → b ≡ entry_for line half c l
  entry-told half c l b (at_end g) = entry-by half c l (Some b) g
  entry-told half c l b (no_end g) = entry-by half c l None g

  pub declared-one : (sheet : List ℕ) → SheetIs line sheet → sheet ≡ sheet_of line
  unfolding entry_for
  declared-one sheet s = sheet-is sheet s.size (λ half c l h k.
      elim (dec_lt l c) [
        | yes above ↦ s.above half c l above h ∙ sym (ap (λ (b : Bool). select b 255 (byte_of (end_for line half c l))) (lt-ltb l c above))
        | no from ↦ entry-told half c l _ (s.entries half c l (omega (arith, from)) k)
      ])

  -- ---- document 01's check

  byte_fits : (half : Half) (c l : ℕ) (o : Option ℕ) → Greatest (EndIn half line c) l o → entry_fits c l (byte_of o) ≡ true
  unfolding entry_fits
  byte_fits half c l None g = refl
  byte_fits half c l (Some e) g =
      let (low, high, inside) = end-within half c l (Some e) g e refl in
      or_right (eqb e 255) _ (and_both _ _ (le-leb c e (omega arith)) (le-leb e l high))

  entry-fits : (half : Half) (c l : ℕ) → c ≤ n → l ≤ n → fits_at (sheet_of line) n half c l ≡ true
  unfolding fits_at
  entry-fits half c l h k =
      or_right (ltb l c) _ (ap (entry_fits c l) (sheet-entry half c l h k ∙ entry-is half c l) ∙ byte_fits half c l (end_for line half c l) (end_is half c l))

  -- the sheet passes it
  pub sheet-fits : sheet_fits (sheet_of line) n ≡ true
  unfolding sheet_fits half_fits row_fits
  sheet-fits = and_both _ _ sheet-sized (and_both _ _ (each Free) (each Greedy))
    where
      each : (half : Half) → half_fits (sheet_of line) n half ≡ true
      each half = every-all (n + 1) _ (λ c p. every-all (n + 1) _ (λ l q. entry-fits half c l (omega arith) (omega arith)))

  -- ---- read back, in a line of at most 254 bytes

  pub byte-back : (half : Half) (c l : ℕ) (o : Option ℕ) → n < 255 → Greatest (EndIn half line c) l o → entry_end (byte_of o) ≡ o
  byte-back half c l None short g = refl
  byte-back half c l (Some e) short g =
      let (low, high, inside) = end-within half c l (Some e) g e refl in
      sym (end-some e (λ q. omega arith))

  pub end_back : n < 255 → (half : Half) (c l : ℕ) → c ≤ l → l ≤ n → end_in (sheet_of line) n half c l ≡ end_for line half c l
  unfolding readable
  end_back short half c l h k =
      read (sheet_of line) n c l half (and_both _ _ sheet-sized (and_both _ _ (le-leb c l h) (le-leb l n k)))
      ∙ ap entry_end (sheet-entry half c l (omega arith) k ∙ entry-is half c l)
      ∙ byte-back half c l (end_for line half c l) short (end_is half c l)
