-- No byte of a rule's prefix is 0: its bytes are those of parts of an accepted table, so all are 33 or more; and lowering lowers
-- none.
use mathlib.Core.Path.{◌≡◌, refl, sym, ap, ◌∙◌}
use mathlib.Core.Bool.{Bool, true, false, ◌&&◌}
use mathlib.Core.List.{List, [], ◌∷◌, map}
use Prim.Native.Nat.{ℕ, ◌+◌, ◌-◌, ◌≤◌, ◌<◌}
use native.Mathlib.Omega.{arith}
use lib.Dec.{leb, ltb}
use lib.ListN.{length, get_or, take, drop, length-take, length-drop, take-append-drop}
use lib.Seq.{slice, get_or-take, get_or-drop}
use borrow.Author.Tests.{lt-ltb, eqb-true}
use Rattle.plain.specs.Choice.{select}
use Rattle.plain.specs.Lists.{every}
use Rattle.plain.proofs.Tests.{not-both, and_left, and_right, and_both}
use Rattle.plain.proofs.Below.{every-at}
use Rattle.plain.proofs.Every.{every-entry, every_first}
use Rattle.token.specs.Token.{lowered}
use Rattle.token.proofs.Bytes.{lowered-below}
use Rattle.defs.specs.Table.{word_at, rulesets_in, records_in, parts_in, parts_from, part_word_at, part_of, parts_between, rule_span, rule_parts}
use Rattle.defs.specs.Table.{table_fits, sizes_fit, length_fits, flags_fit, rulesets_fit, ranges_fit, counts_fit, parameters_fit, is_part, parts_fit}
use Rattle.defs.proofs.Words.{parts_whole}
use Rattle.defs.proofs.Fits.{part_low}
use Rattle.ruledef_map.specs.RuledefMap.{leading, rule_prefix}
use Rattle.readings.proofs.Records.{span-within}
use Rattle.sorting.proofs.Insertions.{less-or-not, every-none, every-cons, every-head, every-tail}
use Rattle.leads.proofs.Keys.{is_byte, leading-none, leading-exact, leading-other}

-- what the first bytes pass, of bytes that all pass
pub every_take : (f : ℕ → Bool) (n : ℕ) (xs : List ℕ) → every f xs ≡ true → every f (take n xs) ≡ true
every_take f n xs h = every_first f (take n xs) (drop n xs) (ap (every f) (take-append-drop n xs) ∙ h)

lowered-some : (b : ℕ) → b ≤ lowered b
unfolding lowered
lowered-some b = go (leb 65 b && leb b 90)
  where
    go : (t : Bool) → b ≤ select t (b + 32) b
    go true = omega arith
    go false = omega arith

pub lowered-byte : (b : ℕ) → 0 < b → b < 256 → is_byte (lowered b) ≡ true
lowered-byte b some few =
    and_both (ltb 0 (lowered b)) (ltb (lowered b) 256) (lt-ltb 0 (lowered b) (omega (arith, lowered-some b))) (lt-ltb (lowered b) 256 (lowered-below b few))

leading-bytes : (s : ℕ) (ws : List ℕ) → every (is_part s) ws ≡ true → every is_byte (leading (map part_of ws)) ≡ true
leading-bytes s [] h = rw leading-none (every-none is_byte)
leading-bytes s (w ∷ ws) h =
    less-or-not w 256
    (λ l.
    rw (leading-exact w (map part_of ws) l)
    (every-cons is_byte (leading (map part_of ws)) (lowered-byte w some l) (leading-bytes s ws (every-tail (is_part s) w ws h))))
    (λ l. rw (leading-other w (map part_of ws) l) (every-none is_byte))
  where
    some : 0 < w
    some = less-or-not w 33 (λ l. absurd (not-both (every-head (is_part s) w ws h) (sym (part_low s w l)))) (λ l. omega arith)

module _ (t : List ℕ) (ok : table_fits t ≡ true) where
  parts-fit : parts_fit t ≡ true
  unfolding table_fits
  parts-fit =
      and_right (parameters_fit t) _
      (and_right (ranges_fit t && counts_fit t) _
      (and_right (rulesets_fit t) _ (and_right (flags_fit t) _ (and_right (length_fits t) _ (and_right (sizes_fit t) _ ok)))))

  whole_length : length t ≡ parts_from t + parts_in t
  unfolding table_fits length_fits
  whole_length = eqb-true (length t) (parts_from t + parts_in t) (and_left (length_fits t) _ (and_right (sizes_fit t) _ ok))

  part_at : (j : ℕ) → parts_from t ≤ j → j < length t → is_part (rulesets_in t) (get_or t j 0) ≡ true
  unfolding parts_fit part_word_at word_at
  part_at j l h =
      let at : parts_from t + (j - parts_from t) ≡ j = omega arith in
      ap (λ (n : ℕ). is_part (rulesets_in t) (get_or t n 0)) (sym at)
      ∙ every-at (parts_in t) (λ k. is_part (rulesets_in t) (part_word_at t k)) parts-fit (j - parts_from t) (omega (arith, whole_length))

  pub rule-bytes : (i : ℕ) → i < records_in t → every is_byte (rule_prefix (rule_parts t i)) ≡ true
  unfolding rule_prefix parts_between
  rule-bytes i l =
      every_take is_byte 4 (leading (rule_parts t i))
      (ap (λ ps. every is_byte (leading ps)) (sym (parts_whole t i (rule_span t i) refl))
      ∙ leading-bytes (rulesets_in t) (slice (rule_span t i).start (rule_span t i).end t) (every-entry (is_part (rulesets_in t)) _ each))
    where
      each :
          (k : ℕ) → k < length (slice (rule_span t i).start (rule_span t i).end t) →
          is_part (rulesets_in t) (get_or (slice (rule_span t i).start (rule_span t i).end t) k 0) ≡ true
      each k m =
          let spanned = span-within t [] [] ok i l (rule_span t i) refl in
          let long = length-drop (rule_span t i).start (take (rule_span t i).end t) in
          let short = length-take (rule_span t i).end t in
          ap (is_part (rulesets_in t)) (get_or-drop (rule_span t i).start (take (rule_span t i).end t) k 0 ∙ get_or-take (rule_span t i).end t ((rule_span t i).start + k) 0 (omega (arith, long, short)))
          ∙ part_at ((rule_span t i).start + k) (omega (arith, spanned.from)) (omega (arith, long, short))

pub rule-short : (t : List ℕ) (i : ℕ) → length (rule_prefix (rule_parts t i)) ≤ 4
unfolding rule_prefix
rule-short t i = omega (arith, length-take 4 (leading (rule_parts t i)))
