-- The rules of a line's prefixes, the shortest first: each run is written after those before it, and there is room, since all
-- together are the lookup's rules, of which there are at most 512. A longer prefix has a greater key, so its run begins at or
-- after the end of the last.
use mathlib.Core.Path.{◌≡◌, refl, sym, ap, ◌∙◌}
use mathlib.Core.List.{List, [], ◌++◌, flat_map}
use Prim.Native.Nat.{ℕ, zero, suc, ◌+◌, ◌*◌, ◌/◌, ◌≤◌, ◌<◌}
use native.Mathlib.Numerals.{add-one}
use native.Mathlib.Decide.{ℕ_discrete}
use native.Mathlib.Omega.{arith}
use lib.ListN.{length, get_or, take, drop, length-append, length-take}
use lib.Seq.{length-take-le, take_at}
use Rattle.plain.specs.Buffers.{put_after}
use Rattle.plain.specs.Lists.{range}
use Rattle.plain.proofs.Buffers.{put-end}
use Rattle.plain.proofs.Every.{entry-every}
use Rattle.plain.proofs.Lists.{flat-more, listed_at}
use Rattle.defs.specs.Table.{rule_parts}
use Rattle.ruledef_map.specs.RuledefMap.{top_rules, with_prefix, found_in, found_rules, line_prefix, held_prefix}
use Rattle.ruledef_map.specs.declared.Prefix.{Prefix}
use Rattle.readings.proofs.Records.{found-many}
use Rattle.sorting.specs.Ascending.{in_order}
use Rattle.sorting.proofs.Insertions.{ascending-order}
use Rattle.leads.specs.Leads.{key_of}
use Rattle.prefix_order.specs.PrefixOrder.{entries, rules_with, FindAsked, Passed, RunAsked, RunLeft}
use Rattle.leads.proofs.Bytes.{every_take}
use Rattle.prefix_order.proofs.Bytes.{line-bytes, line-short}
use Rattle.leads.proofs.Keys.{is_byte, byte-some, small_at}
use Rattle.prefix_order.proofs.Keys.{Keyed, keyed-none, keyed-small, keyed-turn, keyed-more}
use Rattle.prefix_order.proofs.Entries.{entries_with}

-- ---- the prefix that the code holds

module _ {held : Prefix} (p : List ℕ) (is : held ≡ held_prefix p) where
  held-count : held.count ≡ length p
  unfolding held_prefix
  held-count = ap (λ (x : Prefix). x.count) is

  held-byte : (j : ℕ) → j < 4 → get_or held.bytes j 0 ≡ get_or p j 0
  unfolding held_prefix
  held-byte j l = ap (λ (x : Prefix). get_or x.bytes j 0) is ∙ listed_at 4 (λ k. get_or p k 0) j l

-- ---- the runs, one after the other

-- lists joined, of more numbers, are no shorter
flat-grows : (f : ℕ → List ℕ) (m n : ℕ) → m ≤ n → length (flat_map f (range 0 m)) ≤ length (flat_map f (range 0 n))
flat-grows f m zero l = let e : m ≡ 0 = omega arith in omega (arith, ap (λ (k : ℕ). length (flat_map f (range 0 k))) e)
flat-grows f m (suc n) l =
    elim (ℕ_discrete m (suc n)) [
      | yes e ↦ omega (arith, ap (λ (k : ℕ). length (flat_map f (range 0 k))) e)
      | no d ↦
          omega (arith, flat-grows f m n (omega (arith, d)), ap (λ (k : ℕ). length (flat_map f (range 0 k))) (add-one n), ap length (flat-more f n), length-append (flat_map f (range 0 n)) (f n))
    ]

module _ (t p : List ℕ) where
  -- the rules of the prefixes below a size
  unfoldable pub below : ℕ → List ℕ
  below size = flat_map (λ j. with_prefix (rule_parts t) (top_rules t) (take j p)) (range 0 size)

  below_more : (size : ℕ) → below (size + 1) ≡ below size ++ with_prefix (rule_parts t) (top_rules t) (take size p)
  unfolding below
  below_more size = flat-more (λ j. with_prefix (rule_parts t) (top_rules t) (take j p)) size

  below_all : (size : ℕ) → size ≡ suc (length p) → below size ≡ found_rules t p
  unfolding below found_in
  below_all size e = ap below e

  below-few : (size : ℕ) → size ≤ suc (length p) → length (below size) ≤ length (found_rules t p)
  unfolding below found_in
  below-few size l = flat-grows (λ j. with_prefix (rule_parts t) (top_rules t) (take j p)) size (suc (length p)) l

-- a list put after what is written
put-taken :
    (at : ℕ) (ws buffer : List ℕ) {now : List ℕ} {end : ℕ} → at ≤ length buffer → (now, end) ≡ put_after at ws buffer →
    take end now ≡ take at buffer ++ ws
put-taken at ws buffer {now} {end} l e =
    ap (take end) (ap (λ (x : List ℕ × ℕ). x.0) e)
    ∙ take_at (take at buffer ++ ws) (drop (at + length ws) buffer) end (omega (arith, put-end at ws buffer e, length-append (take at buffer) ws, length-take-le at buffer l))

-- they are written from the buffer's start
pub record Finding (t p : List ℕ) (size found : ℕ) (now : List ℕ) : Type 0 where
  pub within : size ≤ suc (length p)
  pub long : length now ≡ 512
  pub many : found ≡ length (below t p size)
  pub is : take found now ≡ below t p size

pub finding-none : (t p : List ℕ) {buffer : List ℕ} → length buffer ≡ 512 → Finding t p 0 0 buffer
unfolding below range flat_map
finding-none t p long = record { within = omega arith; long = long; many = refl; is = refl }

-- before a run is sought: those of the shorter prefixes are written, and it does not begin before a place
pub record Seeking (t es p : List ℕ) (size key weight begin found : ℕ) (now : List ℕ) : Type 0 where
  pub inside : size ≤ length p
  pub written : Finding t p size found now
  pub keyed : Keyed p size key weight
  pub passed : Passed es (key * 512) begin

-- and after
pub record Sought (t es p : List ℕ) (size key weight end found : ℕ) (now : List ℕ) : Type 0 where
  pub written : Finding t p (size + 1) found now
  pub keyed : Keyed p size key weight
  pub passed : Passed es ((key + 1) * 512) end

passed-more : {es : List ℕ} {bound greater at : ℕ} → Passed es bound at → bound ≤ greater → Passed es greater at
passed-more passed l = record { within = passed.within; below = λ k m. omega (arith, passed.below k m) }

module _ {t order line buffer : List ℕ} (asked : FindAsked t order line buffer) where
  p : List ℕ
  p = line_prefix line

  few-found : length (found_rules t p) ≤ 512
  unfolding p
  few-found = found-many t [] [] asked.table (line_prefix line) (line-short line)

  -- the entries of a prefix's key
  run_is : (size : ℕ) → rules_with (key_of (take size p)) order ≡ with_prefix (rule_parts t) (top_rules t) (take size p)
  unfolding p
  run_is size =
      ap (rules_with (key_of (take size p))) asked.ordered
      ∙ entries_with t asked.table (take size p) (every_take is_byte size p (line-bytes line asked.good)) (omega (arith, length-take size p, line-short line))

  -- the first run is of the empty prefix
  pub seeking-none : Seeking t order (line_prefix line) 0 0 16777216 0 0 buffer
  seeking-none = record {
    inside = omega arith;
    written = finding-none t (line_prefix line) asked.room;
    keyed = keyed-none (line_prefix line);
    passed = record { within = omega arith; below = λ k l. absurd (omega arith) };
  }

  module _
      {size key weight begin found : ℕ}
      {now : List ℕ}
      (before : Seeking t order (line_prefix line) size key weight begin found now)
    where
      this-run : rules_with key order ≡ with_prefix (rule_parts t) (top_rules t) (take size p)
      unfolding p
      this-run = ap (λ (k : ℕ). rules_with k order) before.keyed.is ∙ run_is size

      pub seeking-small : key < 4294967296
      seeking-small = keyed-small (line-bytes line asked.good) before.keyed

      pub seeking-asked : RunAsked order now key begin found
      unfolding entries p
      seeking-asked = record {
        ordered = ap in_order asked.ordered ∙ ascending-order _;
        small = seeking-small;
        passed = before.passed;
        room =
            omega (arith, before.written.many, ap length this-run, ap length (below_more t p size), length-append (below t p size) (with_prefix (rule_parts t) (top_rules t) (take size p)), below-few t p (size + 1) (omega (arith, before.inside)), few-found, before.written.long);
      }

      pub seeking-done :
          {end found' : ℕ} {now' : List ℕ} → length now' ≡ length now →
          RunLeft order now key found end found' now' →
          Sought t order (line_prefix line) size key weight end found' now'
      unfolding p
      seeking-done long' left =
          let next : below t p size ++ rules_with key order ≡ below t p (size + 1) = ap (λ (ws : List ℕ). below t p size ++ ws) this-run ∙ sym (below_more t p size) in
          record {
            written = record {
              within = omega (arith, before.inside);
              long = long' ∙ before.written.long;
              many =
                  omega (arith, put-end found (rules_with key order) now left.written, before.written.many, length-append (below t p size) (rules_with key order), ap length next);
              is =
                  put-taken found (rules_with key order) now (omega (arith, before.written.many, below-few t p size before.written.within, few-found, before.written.long)) left.written
                  ∙ ap (λ (ws : List ℕ). ws ++ rules_with key order) before.written.is
                  ∙ next;
            };
            keyed = before.keyed;
            passed = left.passed;
          }

  module _
      {held : Prefix}
      {size key weight end found : ℕ}
      {now : List ℕ}
      (before : Sought t order (line_prefix line) size key weight end found now)
      (is : held ≡ held_prefix (line_prefix line))
    where
      module _ (more : size < held.count) where
        next-inside : size < length (line_prefix line)
        next-inside = omega (arith, held-count (line_prefix line) is)

        pub next_place : size < 4
        next_place = omega (arith, next-inside, line-short line)

        here : get_or held.bytes size 0 ≡ get_or (line_prefix line) size 0
        here = held-byte (line_prefix line) is size next_place

        pub next-byte : get_or held.bytes size 0 < 256
        next-byte = omega (arith, here, small_at (line_prefix line) (line-bytes line asked.good) size)

        next-some : 0 < get_or held.bytes size 0
        next-some =
            omega (arith, here, byte-some (get_or (line_prefix line) size 0) (entry-every is_byte (line_prefix line) (line-bytes line asked.good) size next-inside))

        -- the next run is of a greater key
        pub sought-next :
            Seeking t order (line_prefix line) (size + 1) (key + get_or held.bytes size 0 * weight) (weight / 256) end found now
        sought-next = record {
          inside = omega (arith, next-inside);
          written = before.written;
          keyed = keyed-turn before.keyed next_place here;
          passed = passed-more before.passed (omega (arith, keyed-more before.keyed next_place next-some));
        }

      -- after the longest prefix
      pub sought-all :
          held.count ≤ size →
          (take found now ≡ found_rules t (line_prefix line)) × ((found ≡ length (found_rules t (line_prefix line))) × (found ≤ 512))
      unfolding p
      sought-all past =
          let whole = below_all t p (size + 1) (omega (arith, before.written.within, held-count (line_prefix line) is)) in
          let many : found ≡ length (found_rules t p) = before.written.many ∙ ap length whole in
          (before.written.is ∙ whole, (many, omega (arith, many, few-found)))
