-- A table's text as the code lays it: parts after tabs, rules and rulesets line by line; and how long it can be.
use mathlib.Core.Path.{◌≡◌, refl, sym, ap, ap₂, ◌∙◌, subst}
use mathlib.Core.Bool.{Bool, true, false}
use mathlib.Core.List.{List, [], ◌∷◌, ◌++◌, map, flat_map, append-nil, append_assoc}
use Prim.Native.Nat.{ℕ, suc, ◌+◌, ◌*◌, ◌-◌, ◌≤◌, ◌<◌}
use native.Mathlib.Decide.{dec_lt}
use native.Mathlib.Omega.{arith}
use lib.Dec.{eqb, leb, ltb}
use lib.ListN.{length, length-append}
use borrow.Author.Tests.{leb-true, ltb-true, lt-ltb, le-leb, lt-leb}
use Rattle.plain.specs.Lists.{range, count, listed, every}
use Rattle.plain.proofs.Tests.{and_left, and_right, and_both}
use Rattle.plain.proofs.Sets.{sets-start}
use Rattle.defs.specs.Table.{word_at, rulesets_in, records_in, parts_in, flag_at, ruleset_at, part_of, rule_span, rule_parts, parts_between, is_parameter, table_fits}
use Rattle.defs.specs.Ruledef.{is_top}
use Rattle.defs.specs.declared.ruledef.Part.{Part}
use Rattle.std.specs.declared.ops.Range.{Range}
use Rattle.defs.specs.declared.ruledef.Part.TheVariants.{Exact, Whitespace, Expression, Nested}
use Rattle.defs.proofs.Words.{parts_whole, parts_none, parts_next}
use Rattle.defs.proofs.Fits.{Sizes, sizes-bound}
use Rattle.packing.specs.Data.{Rule, Data, is_part_of, rule_fits, parts_of, data_fits}
use Rattle.packing.specs.Packed.{rule_at, data_of}
use Rattle.packing.proofs.Limits.{fits_all}
use Rattle.packing.proofs.Tables.{Accepted, accepted-all, set-test, range-test, parts-each, table-fits}
use Rattle.printing.specs.Listing.{Bytes, ruleset_word, rule_word, top_field, decimal, part_field, parted, ended, top_line, rule_line, lines_of, listing}
use Rattle.printing.proofs.Pieces.{ended-append}
use Rattle.printing.proofs.Decimals.{decimal-one, decimal-two}
use Rattle.fields.specs.Laid.{Laid, Ready, part_text}
use Rattle.fields.proofs.Laying.{Laying, laying-all, ready-as}
use Rattle.std.specs.Prelude.{Ok, Err}
use Rattle.listing.specs.declared.writing.WriteError.TheVariants.{BadTable, NoRoom}
use Rattle.listing.specs.Writing.{parts_text, rule_text, top_text, rules_text, tops_text}
use Rattle.listing.specs.Calls.{filled, write_call, write_says}

-- ---- parts

module _ (t : List ℕ) (at end : ℕ) (fits : end ≤ length t) (here : at < end) (p : Part) (is : p ≡ part_of (word_at t at)) where
  next-is : parts_between t at end ≡ p ∷ parts_between t (at + 1) end
  next-is = parts_next t at end fits here ∙ ap (λ (q : Part). q ∷ parts_between t (at + 1) end) (sym is)

  pub parts-step : parts_text (parts_between t at end) ≡ part_text p ++ parts_text (parts_between t (at + 1) end)
  unfolding parts_text flat_map
  parts-step = ap parts_text next-is

  pub part-here : every (is_part_of 32) (parts_between t at end) ≡ true → is_part_of 32 p ≡ true
  unfolding every
  part-here h = and_left (is_part_of 32 p) _ (ap (every (is_part_of 32)) (sym next-is) ∙ h)

  pub parts-after : every (is_part_of 32) (parts_between t at end) ≡ true → every (is_part_of 32) (parts_between t (at + 1) end) ≡ true
  unfolding every
  parts-after h = and_right (is_part_of 32 p) _ (ap (every (is_part_of 32)) (sym next-is) ∙ h)

pub parts-over : (t : List ℕ) (at end : ℕ) → end ≤ length t → end ≤ at → parts_text (parts_between t at end) ≡ []
unfolding parts_text flat_map
parts-over t at end fits h = ap parts_text (parts_none t at end fits h)

-- ---- a rule's line

parted-tabs : (x : Bytes) (ps : List Part) → parted 9 (x ∷ map part_field ps) ≡ x ++ parts_text ps
unfolding parted parts_text flat_map
parted-tabs x [] = sym (append-nil x)
parted-tabs x (p ∷ ps) = ap (λ (l : Bytes). x ++ (9 ∷ l)) (parted-tabs (part_field p) ps)

pub rule-line : (t : List ℕ) (i n : ℕ) (ps : List Part) → n ≡ ruleset_at t i → ps ≡ rule_parts t i
    → rule_word ++ ((9 ∷ []) ++ (decimal n ++ (parts_text ps ++ (10 ∷ [])))) ≡ rule_text (rule_at t i)
unfolding rule_at parted
rule-line t i n ps e f =
    ap₂ (λ (m : ℕ) (qs : List Part). rule_word ++ (9 ∷ (decimal m ++ (parts_text qs ++ (10 ∷ []))))) e f
    ∙ ap (λ (l : Bytes). rule_word ++ (9 ∷ l)) (sym (append_assoc (decimal (ruleset_at t i)) (parts_text (rule_parts t i)) (10 ∷ [])))
    ∙ ap (λ (l : Bytes). rule_word ++ (9 ∷ (l ++ (10 ∷ [])))) (sym (parted-tabs (decimal (ruleset_at t i)) (rule_parts t i)))

pub top-line : (top : Bool) → ruleset_word ++ ((9 ∷ []) ++ (top_field top ++ (10 ∷ []))) ≡ top_text top
unfolding parted
top-line top = refl

-- what an accepted table's rule has
part-more : (s : ℕ) (p : Part) → s ≤ 32 → is_part_of s p ≡ true → is_part_of 32 p ≡ true
part-more s (Exact b) l h = h
part-more s Whitespace l h = refl
part-more s Expression l h = refl
part-more s (Nested r) l h = lt-ltb r 32 (omega (arith, ltb-true r s h))

parts_more : (s : ℕ) (ps : List Part) → s ≤ 32 → every (is_part_of s) ps ≡ true → every (is_part_of 32) ps ≡ true
unfolding every
parts_more s [] l h = refl
parts_more s (p ∷ ps) l h = and_both _ _ (part-more s p l (and_left (is_part_of s p) _ h)) (parts_more s ps l (and_right (is_part_of s p) _ h))

module _ (t : List ℕ) (ok : table_fits t ≡ true) where
  a : Accepted t
  a = accepted-all t ok

  sizes : Sizes (rulesets_in t) (records_in t) (parts_in t)
  sizes = sizes-bound _ _ _ a.sizes

  pub few-rules : records_in t ≤ 512
  few-rules = sizes.rules

  pub flags-within : (s : ℕ) → s < rulesets_in t → 3 + s < length t
  flags-within s h = omega (arith, a.long)

  pub set-low : (i n : ℕ) → i < records_in t → n ≡ ruleset_at t i → n < 100
  set-low i n h e = omega (arith, e, sizes.sets, ltb-true (ruleset_at t i) (rulesets_in t) (and_left (ltb (ruleset_at t i) (rulesets_in t)) _ (set-test t i (a.sets i h))))

  pub parts_low : (i : ℕ) (r : Range ℕ) → i < records_in t → r ≡ rule_span t i → every (is_part_of 32) (parts_between t r.start r.end) ≡ true
  parts_low i r h e =
      ap (every (is_part_of 32)) (parts_whole t i r e)
      ∙ parts_more (rulesets_in t) (rule_parts t i) sizes.sets (parts-each t i a.long (range-test t i (a.ranges i h)).0 a.words)

-- ---- lines one after another

-- the first lines are all of them
pub rules-first : (t : List ℕ) (text : Bytes) (at n : ℕ) → Laying text at (rules_text t 0 n) text at (rules_text t 0 (n - 0))
rules-first t text at n = let whole : n ≡ n - 0 = omega arith in subst (λ (k : ℕ). Laying text at (rules_text t 0 n) text at (rules_text t 0 k)) whole (laying-all _ _ _)

pub tops_first : (t : List ℕ) (text : Bytes) (at n : ℕ) → Laying text at (tops_text t 0 n) text at (tops_text t 0 (n - 0))
tops_first t text at n = let whole : n ≡ n - 0 = omega arith in subst (λ (k : ℕ). Laying text at (tops_text t 0 n) text at (tops_text t 0 k)) whole (laying-all _ _ _)

pub rules-step : (t : List ℕ) (i n : ℕ) → i < n → rules_text t i (n - i) ≡ rule_text (rule_at t i) ++ rules_text t (i + 1) (n - (i + 1))
unfolding rules_text range ended
rules-step t i n h =
    let less : n - i ≡ suc (n - (i + 1)) = omega arith in
    let next : suc i ≡ i + 1 = omega arith in
    ap (rules_text t i) less
    ∙ ap (λ (k : ℕ). rule_line (rule_at t i) ++ (10 ∷ rules_text t k (n - (i + 1)))) next
    ∙ sym (append_assoc (rule_line (rule_at t i)) (10 ∷ []) (rules_text t (i + 1) (n - (i + 1))))

pub rules-over : (t : List ℕ) (i n : ℕ) → n ≤ i → rules_text t i (n - i) ≡ []
unfolding rules_text range ended
rules-over t i n h = let none : n - i ≡ 0 = omega arith in ap (rules_text t i) none

pub tops_step : (t : List ℕ) (i n : ℕ) (top : Bool) → top ≡ is_top t i → i < n → tops_text t i (n - i) ≡ top_text top ++ tops_text t (i + 1) (n - (i + 1))
unfolding tops_text range ended
tops_step t i n top e h =
    let less : n - i ≡ suc (n - (i + 1)) = omega arith in
    let next : suc i ≡ i + 1 = omega arith in
    ap (tops_text t i) less
    ∙ ap₂ (λ (k : ℕ) (b : Bool). top_line b ++ (10 ∷ tops_text t k (n - (i + 1)))) next (sym e)
    ∙ sym (append_assoc (top_line top) (10 ∷ []) (tops_text t (i + 1) (n - (i + 1))))

pub tops-over : (t : List ℕ) (i n : ℕ) → n ≤ i → tops_text t i (n - i) ≡ []
unfolding tops_text range ended
tops-over t i n h = let none : n - i ≡ 0 = omega arith in ap (tops_text t i) none

pub top-is : (t : List ℕ) (i : ℕ) → eqb (word_at t (3 + i)) 0 ≡ is_top t i
unfolding is_top flag_at
top-is t i = refl

pub table-text : (t : List ℕ) → tops_text t 0 (rulesets_in t) ++ rules_text t 0 (records_in t) ≡ listing (data_of t)
unfolding tops_text rules_text listing lines_of data_of listed
table-text t = sym (ended-append (map top_line (listed (rulesets_in t) (is_top t))) (map rule_line (listed (records_in t) (rule_at t))))

-- ---- how long a listing can be

decimal-short : (n : ℕ) → n < 100 → length (decimal n) ≤ 2
decimal-short n h = go (dec_lt n 10)
  where
    go : Dec (n < 10) → length (decimal n) ≤ 2
    go (yes l) = omega (arith, ap length (decimal-one n l))
    go (no l) = omega (arith, ap length (decimal-two n (omega (arith, l)) h))

-- a parameter's field takes six bytes at most with its tab, another's three
fields-short : (s : ℕ) (ps : List Part) → s ≤ 32 → every (is_part_of s) ps ≡ true → length (parts_text ps) ≤ 3 * length ps + 3 * count is_parameter ps
unfolding every parts_text flat_map count
fields-short s [] l h = omega arith
fields-short s (p ∷ ps) l h = go p (and_left (is_part_of s p) _ h) (fields-short s ps l (and_right (is_part_of s p) _ h))
  where
    go : (q : Part) → is_part_of s q ≡ true → length (parts_text ps) ≤ 3 * length ps + 3 * count is_parameter ps
        → length (part_text q ++ parts_text ps) ≤ 3 * length (q ∷ ps) + 3 * count is_parameter (q ∷ ps)
    go (Exact b) e i = omega (arith, i)
    go Whitespace e i = omega (arith, i)
    go Expression e i = omega (arith, i)
    go (Nested r) e i =
        omega (arith, i, length-append (part_text (Nested r)) (parts_text ps), decimal-short r (omega (arith, ltb-true r s e)))

rules-short : (s : ℕ) (rs : List Rule) → s ≤ 32 → every (rule_fits s) rs ≡ true → length (ended (map rule_line rs)) ≤ 32 * length rs + 3 * parts_of rs
unfolding every ended parts_of rule_fits parted
rules-short s [] l h = omega arith
rules-short s (r ∷ rs) l h =
    let fits = and_left (rule_fits s r) _ h in
    let low = ltb-true r.set s (and_left (ltb r.set s) _ fits) in
    let rest = and_right (leb (length r.parts) 64) _ (and_right (ltb r.set s) _ fits) in
    omega (
      arith,
      low,
      leb-true (count is_parameter r.parts) 8 (and_left (leb (count is_parameter r.parts) 8) _ rest),
      length-append (rule_line r) (10 ∷ ended (map rule_line rs)),
      ap length (parted-tabs (decimal r.set) r.parts),
      length-append (decimal r.set) (parts_text r.parts),
      decimal-short r.set (omega arith),
      fields-short s r.parts l (and_right (leb (count is_parameter r.parts) 8) _ rest),
      rules-short s rs l (and_right (rule_fits s r) _ h),
    )

tops-short : (ts : List Bool) → length (ended (map top_line ts)) ≤ 15 * length ts
unfolding ended parted
tops-short [] = omega arith
tops-short (true ∷ ts) = omega (arith, length-append (top_line true) (10 ∷ ended (map top_line ts)), tops-short ts)
tops-short (false ∷ ts) = omega (arith, length-append (top_line false) (10 ∷ ended (map top_line ts)), tops-short ts)

-- a listing has at most 41,440 bytes
pub listing-short : (d : Data) → data_fits d ≡ true → length (listing d) ≤ 41440
unfolding listing lines_of
listing-short d h =
    let f = fits_all d.tops d.rules h in
    omega (
      arith,
      f.sizes,
      ap length (ended-append (map top_line d.tops) (map rule_line d.rules)),
      length-append (ended (map top_line d.tops)) (ended (map rule_line d.rules)),
      tops-short d.tops,
      rules-short (length d.tops) d.rules f.sizes.sets f.each,
    )

pub text-ready : (t : List ℕ) → table_fits t ≡ true → Ready 0 (tops_text t 0 (rulesets_in t) ++ rules_text t 0 (records_in t))
text-ready t h = ready-as (sym (table-text t)) (record { small = omega (arith, listing-short (data_of t) (table-fits t h)) })

-- ---- the call's answers

pub said-bad : (t : List ℕ) (room : Bytes) → table_fits t ≡ false → write_says (Err BadTable) room ≡ write_call t room
unfolding write_call
said-bad t room h = sym (rw (write_call, h))

pub said-short : (t : List ℕ) (room : Bytes) (n : ℕ) → table_fits t ≡ true → n ≡ length (listing (data_of t)) → length room < n → write_says (Err NoRoom) room ≡ write_call t room
unfolding write_call
said-short t room n h e l = sym (rw (write_call, h, lt-leb (length (listing (data_of t))) (length room) (omega arith)))

pub said-whole : (t : List ℕ) (room after : Bytes) (n m : ℕ) → table_fits t ≡ true → n ≡ length (listing (data_of t)) → n ≤ length room → Laid room 0 (listing (data_of t)) after m → write_says (Ok m) after ≡ write_call t room
unfolding write_call
said-whole t room after n m h e l k =
    let to : m ≡ length (listing (data_of t)) = omega (arith, k.to) in
    ap₂ filled to (k.left ∙ sets-start room (listing (data_of t)) (omega arith))
    ∙ sym (rw (write_call, h, le-leb (length (listing (data_of t))) (length room) (omega arith)))

-- a length as it is returned
pub few_bytes : (t : List ℕ) (room after : Bytes) (m : ℕ) → table_fits t ≡ true → Laid room 0 (listing (data_of t)) after m → m < 4294967296
few_bytes t room after m h k = omega (arith, k.to, listing-short (data_of t) (table-fits t h))
