-- What is refused gets its first bad line: the lines before it begin some listing of data within the limits, with it none.
use mathlib.Core.Path.{◌≡◌, refl, sym, ap, ◌∙◌, subst}
use mathlib.Core.Logic.{inl, inr}
use mathlib.Core.Bool.{Bool, true, false, ◌&&◌}
use mathlib.Core.List.{List, [], ◌∷◌, ◌++◌, append-nil, append_assoc}
use Rattle.std.specs.Prelude.{Option, None, Some}
use Prim.Native.Nat.{ℕ, suc, ◌≤◌, ◌<◌}
use native.Mathlib.Omega.{arith}
use native.Mathlib.Decide.{dec_le}
use lib.ListN.{length, take, drop, length-append, take-append-drop}
use lib.Seq.{take-take, take_at}
use Rattle.plain.specs.Choice.{select}
use Rattle.plain.specs.Lists.{every}
use Rattle.plain.proofs.Tests.{and_left, and_right, and_both}
use Rattle.plain.proofs.Every.{every_append}
use Rattle.defs.specs.Table.{in_range}
use Rattle.packing.specs.Data.{Data, ascend, parts_of, data_fits, data_from}
use Rattle.printing.specs.Listing.{Bytes, parted, ended, lines_of, listing}
use Rattle.printing.specs.Reading.{Reached, same, pieces, read_line, Read, good, bad, next, read_from, nothing, read}
use Rattle.printing.specs.FirstBad.{lacks, Begins, FirstBad, bad_line, bad_end}
use Rattle.printing.proofs.Pieces.{piece-last, pieces-some, parted-pieces, pieces-lack, pieces-ended, parted-ended, ended-append}
use Rattle.printing.proofs.Accepts.{good-bad, read-lines, lines-lack, read-listing, read-good, line-added}

begins : (d : Data) → Reached d → Begins (ended (lines_of d))
unfolding listing lines_of ended data_fits in_range parts_of ascend every
begins d (inl e) =
    subst (λ (x : Data). Begins (ended (lines_of x))) (sym e)
    (record { whole = data_from (true ∷ []) []; fits = refl; after = listing (data_from (true ∷ []) []); begins = refl })
begins d (inr f) = record { whole = d; fits = f; after = []; begins = sym (append-nil (ended (lines_of d))) }

lack : (d : Data) → Reached d → every (lacks 10) (lines_of d) ≡ true
unfolding lines_of every
lack d (inl e) = ap (λ (x : Data). every (lacks 10) (lines_of x)) e
lack d (inr f) = lines-lack d f

through : (d : Data) (ls : List Bytes) → 0 < length ls → Reached d → read_from 0 nothing (lines_of d ++ ls) ≡ read_from (length (lines_of d)) d ls
unfolding lines_of
through d ls h (inl e) =
    ap (λ (x : Data). read_from 0 nothing (lines_of x ++ ls)) e ∙ ap (λ (x : Data). read_from (length (lines_of x)) x ls) (sym e)
through d ls h (inr f) = read-lines d ls h f

pub stops : (k : ℕ) (d : Data) (x : Bytes) (ls : List Bytes) → 0 < length ls → read_line d x ≡ None → read_from k d (x ∷ ls) ≡ bad k
unfolding read_from
stops k d x [] h q = absurd (omega arith)
stops k d x (y ∷ ls) h q = ap (λ (o : Option Data). next k o (λ e. read_from (suc k) e (y ∷ ls))) q

-- with a line that is not read, the lines so far begin no listing
begins-none : (d : Data) (x : Bytes) → Reached d → lacks 10 x ≡ true → read_line d x ≡ None → Begins (ended (lines_of d ++ (x ∷ []))) → ⊥
unfolding read every
begins-none d x r l q b =
    good-bad
    (sym
    (ap (λ (t : Bytes). read_from 0 nothing (pieces 10 t)) b.begins
    ∙ ap (read_from 0 nothing) (pieces-ended (lines_of d ++ (x ∷ [])) b.after (every_append (lacks 10) (lines_of d) (x ∷ []) (lack d r) (and_both (lacks 10 x) true l refl)))
    ∙ ap (read_from 0 nothing) (append_assoc (lines_of d) (x ∷ []) (pieces 10 b.after))
    ∙ through d (x ∷ pieces 10 b.after) (omega arith) r
    ∙ stops (length (lines_of d)) d x (pieces 10 b.after) (pieces-some 10 b.after) q)
    ∙ read-listing b.whole b.fits)

module _ (text : Bytes) (other : (d : Data) → data_fits d ≡ true → listing d ≡ text → ⊥) where
  bad-lines : (ls : List Bytes) (k n : ℕ) (d : Data) → Reached d → length (lines_of d) ≡ k → every (lacks 10) ls ≡ true → 0 < length ls
      → text ≡ parted 10 (lines_of d ++ ls) → read_from k d ls ≡ bad n → FirstBad text n
  unfolding read_from every parted
  bad-lines [] k n d r e l s t h = absurd (omega arith)
  bad-lines (x ∷ []) k n d r e l s t h = go (same x [] && data_fits d) h
    where
      go : (b : Bool) → select b (good d) (bad k) ≡ bad n → FirstBad text n
      go true g = good-bad (sym g)
      go false g =
          let is : length (lines_of d) ≡ n = cc in
          subst (FirstBad text) is (bad_end (lines_of d) x (lack d r) (and_left (lacks 10 x) true l) (t ∙ parted-ended (lines_of d) x []) (begins d r) other)
  bad-lines (x ∷ (y ∷ ls)) k n d r e l s t h =
      go (read_line d x) refl h (λ f a b c g. bad-lines (y ∷ ls) (suc k) n f a b (and_right (lacks 10 x) _ l) (omega arith) c g)
    where
      one : every (lacks 10) (x ∷ []) ≡ true
      one = and_both (lacks 10 x) true (and_left (lacks 10 x) _ l) refl

      whole : text ≡ parted 10 ((lines_of d ++ (x ∷ [])) ++ (y ∷ ls))
      whole = t ∙ ap (parted 10) (sym (append_assoc (lines_of d) (x ∷ []) (y ∷ ls)))

      go : (o : Option Data) → read_line d x ≡ o → next k o (λ f. read_from (suc k) f (y ∷ ls)) ≡ bad n
          → ((f : Data) → Reached f → length (lines_of f) ≡ suc k → text ≡ parted 10 (lines_of f ++ (y ∷ ls)) → read_from (suc k) f (y ∷ ls) ≡ bad n → FirstBad text n)
          → FirstBad text n
      go None q g ih =
          let is : length (lines_of d) ≡ n = cc in
          subst (FirstBad text) is
          (bad_line (lines_of d) x (parted 10 (y ∷ ls)) (every_append (lacks 10) (lines_of d) (x ∷ []) (lack d r) one)
          (whole ∙ parted-ended (lines_of d ++ (x ∷ [])) y ls) (begins d r) (begins-none d x r (and_left (lacks 10 x) _ l) q))
      go (Some f) q g ih =
          let a = line-added d f x q in
          ih f (inr a.fits) (ap length a.lines ∙ omega (arith, length-append (lines_of d) (x ∷ []), e))
          (whole ∙ ap (λ (m : List Bytes). parted 10 (m ++ (y ∷ ls))) (sym a.lines)) g

pub read-bad : (text : Bytes) (k : ℕ) → read text ≡ bad k → FirstBad text k
unfolding read lines_of
read-bad text k h =
    bad-lines text (λ d f e. good-bad (sym h ∙ ap read (sym e) ∙ read-listing d f)) (pieces 10 text) 0 k nothing (inl refl) refl (pieces-lack 10 text)
    (pieces-some 10 text) (sym (parted-pieces 10 text)) h

-- ---- there is one first bad line

-- the first m lines begin some listing
abbrev BeginsTo : Bytes → ℕ → Type 0
BeginsTo text m = Begins (ended (take m (pieces 10 text)))

begins-fewer : (text : Bytes) (m n : ℕ) → m ≤ n → BeginsTo text n → BeginsTo text m
begins-fewer text m n h b =
    let ls = take n (pieces 10 text) in
    let parts : ended ls ≡ ended (take m (pieces 10 text)) ++ ended (drop m ls) =
    ap ended (sym (take-append-drop m ls)) ∙ ended-append (take m ls) (drop m ls)
    ∙ ap (λ (l : List Bytes). ended l ++ ended (drop m ls)) (take-take m n (pieces 10 text) h) in
    record {
      whole = b.whole;
      fits = b.fits;
      after = ended (drop m ls) ++ b.after;
      begins = b.begins ∙ ap (λ (l : Bytes). l ++ b.after) parts ∙ append_assoc (ended (take m (pieces 10 text))) (ended (drop m ls)) b.after;
    }

record At (text : Bytes) (k : ℕ) : Type 0 where
  within : k < length (pieces 10 text)
  before : BeginsTo text k
  past : suc k < length (pieces 10 text) → BeginsTo text (suc k) → ⊥

bad-at : (text : Bytes) (k : ℕ) → FirstBad text k → At text k
unfolding every
bad-at text _ (bad_line lines line rest l t b n) =
    record {
      within = omega (arith, ap length ps, length-append lines (line ∷ pieces 10 rest));
      before = subst (λ (x : List Bytes). Begins (ended x)) (sym (ap (take (length lines)) ps ∙ take_at lines (line ∷ pieces 10 rest) (length lines) refl)) b;
      past = λ s c. n (subst (λ (x : List Bytes). Begins (ended x)) (ap (take (suc (length lines))) cut ∙ take_at (lines ++ (line ∷ [])) (pieces 10 rest) (suc (length lines)) (omega (arith, length-append lines (line ∷ [])))) c);
    }
  where
    cut : pieces 10 text ≡ (lines ++ (line ∷ [])) ++ pieces 10 rest
    cut = ap (pieces 10) t ∙ pieces-ended (lines ++ (line ∷ [])) rest l

    ps : pieces 10 text ≡ lines ++ (line ∷ pieces 10 rest)
    ps = cut ∙ append_assoc lines (line ∷ []) (pieces 10 rest)
bad-at text _ (bad_end lines rest l m t b n) =
    record {
      within = omega (arith, ap length ps, length-append lines (rest ∷ []));
      before = subst (λ (x : List Bytes). Begins (ended x)) (sym (ap (take (length lines)) ps ∙ take_at lines (rest ∷ []) (length lines) refl)) b;
      past = λ s c. absurd (omega (arith, ap length ps, length-append lines (rest ∷ [])));
    }
  where
    ps : pieces 10 text ≡ lines ++ (rest ∷ [])
    ps = ap (pieces 10) t ∙ pieces-ended lines rest l ∙ ap (λ (x : List Bytes). lines ++ x) (piece-last 10 rest m)

not-before : (text : Bytes) (k n : ℕ) → At text k → At text n → k < n → ⊥
not-before text k n a b h = a.past (omega (arith, b.within)) (begins-fewer text (suc k) n h b.before)

pub first_bad-one : (text : Bytes) (k n : ℕ) → FirstBad text k → FirstBad text n → k ≡ n
first_bad-one text k n a b = go (dec_le k n) (dec_le n k)
  where
    go : Dec (k ≤ n) → Dec (n ≤ k) → k ≡ n
    go (yes h) (yes i) = omega arith
    go (no h) i = absurd (not-before text n k (bad-at text n b) (bad-at text k a) (omega (arith, h)))
    go (yes h) (no i) = absurd (not-before text k n (bad-at text k a) (bad-at text n b) (omega (arith, i)))

-- a listing has no bad line
pub not_good : (text : Bytes) (k : ℕ) (d : Data) → listing d ≡ text → data_fits d ≡ true → FirstBad text k → ⊥
not_good text _ d e f (bad_line lines line rest l t c n) = n (record { whole = d; fits = f; after = rest; begins = e ∙ t })
not_good text _ d e f (bad_end lines rest l m t c n) = n d f e

-- a text with a first bad line is refused at that line
pub bad-read : (text : Bytes) (k : ℕ) → FirstBad text k → read text ≡ bad k
bad-read text k b = go (read text) refl
  where
    go : (r : Read) → read text ≡ r → r ≡ bad k
    go (good d) e = let r = read-good text d e in absurd (not_good text k d r.0 r.1 b)
    go (bad n) e = ap bad (first_bad-one text n k (read-bad text n e) b)
