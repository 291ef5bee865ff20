-- What reading answers, case by case: a judged text is the listing of its data, and a refused one has its first bad line.
use mathlib.Core.Path.{◌≡◌, refl, sym, ap, ap₂, ◌∙◌, subst}
use mathlib.Core.List.{List}
use Prim.Native.Nat.{ℕ, ◌≤◌, ◌<◌}
use native.Mathlib.Omega.{arith}
use lib.ListN.{length}
use lib.Seq.{sets}
use borrow.Author.Tests.{le-leb, lt-leb}
use Rattle.plain.specs.Told.{Told, refused_at}
use Rattle.plain.proofs.Sets.{sets-start}
use Rattle.packing.specs.Data.{Data, parts_of}
use Rattle.packing.specs.Packed.{packed}
use Rattle.packing.proofs.Packs.{packed-length}
use Rattle.printing.specs.Listing.{Bytes}
use Rattle.printing.specs.Reading.{good, read}
use Rattle.printing.proofs.Accepts.{read-good, listings-apart}
use Rattle.printing.proofs.Refuses.{read-bad, first_bad-one, not_good}
use Rattle.std.specs.Prelude.{Result, Ok, Err}
use Rattle.listing.specs.declared.reading.ReadError.{ReadError}
use Rattle.listing.specs.declared.reading.ReadError.TheVariants.{BadText, NoRoom}
use Rattle.listing.specs.declared.judging.Sizes.{Sizes}
use Rattle.listing.specs.declared.judging.BadLine.{BadLine}
use Rattle.listing.specs.Judging.{Judges}
use Rattle.listing.specs.Packing.{held_by, listed_in, Listed, words_for}
use Rattle.listing.specs.Calls.{filled, wrote, ReadCall, listed, unlisted, read_says}

-- how many words there are
packed-many : (t : Bytes) (s r p : ℕ) → Listed t s r p → words_for s r p ≡ length (packed (listed_in t))
packed-many t s r p h = omega (arith, h.tops, h.rules, h.parts, packed-length (listed_in t))

-- a judged text
pub said-listed : (t : Bytes) (j : Result Sizes BadLine) (z : Sizes) → j ≡ Ok z → Judges (read t) j → Listed t z.sets z.rules z.parts
said-listed t j z e h = go (subst (Judges (read t)) e h)
  where
    go : Judges (read t) (Ok z) → Listed t z.sets z.rules z.parts
    go (d, is, c) =
        let held : listed_in t ≡ d = ap held_by is in
        record {
          whole = is ∙ ap good (sym held);
          tops = c.sets ∙ ap (λ (x : Data). length x.tops) (sym held);
          rules = c.rules ∙ ap (λ (x : Data). length x.rules) (sym held);
          parts = c.parts ∙ ap (λ (x : Data). parts_of x.rules) (sym held);
        }

-- a refused one, in a line of low number
pub said-line : (t : Bytes) (j : Result Sizes BadLine) (b : BadLine) → j ≡ Err b → Judges (read t) j → b.line ≤ 544
said-line t j b e h = (subst (Judges (read t)) e h).1

pub said-bad : (t : Bytes) (room : List ℕ) (j : Result Sizes BadLine) (b : BadLine) → j ≡ Err b → Judges (read t) j → ReadCall t room (read_says (Err (BadText b.line)) room)
said-bad t room j b e h = unlisted b.line (read-bad t b.line (subst (Judges (read t)) e h).0) refl

module _ (t : Bytes) (s r p : ℕ) (room : List ℕ) where
  -- what is read is the listing of its data
  whole : Listed t s r p → (q : Result ℕ ReadError) (b : List ℕ) → read_says q b ≡ wrote (packed (listed_in t)) room → ReadCall t room (read_says q b)
  whole h q b e = let g = read-good t (listed_in t) h.whole in listed (listed_in t) g.1 g.0 e

  pub said-short : Listed t s r p → length room < words_for s r p → ReadCall t room (read_says (Err NoRoom) room)
  said-short h l = whole h (Err NoRoom) room (sym (rw (lt-leb (length (packed (listed_in t))) (length room) (omega (arith, packed-many t s r p h)))))

  pub said-whole : (after : List ℕ) → Listed t s r p → words_for s r p ≤ length room → after ≡ sets room 0 (packed (listed_in t))
      → ReadCall t room (read_says (Ok (words_for s r p)) after)
  said-whole after h l e =
      let n = packed-many t s r p h in
      whole h (Ok (words_for s r p)) after
      (ap₂ filled n (e ∙ sets-start room (packed (listed_in t)) (omega (arith, n)))
      ∙ sym (rw (le-leb (length (packed (listed_in t))) (length room) (omega (arith, n)))))

-- a text and its room leave one answer
pub read_call-one : (text : Bytes) (room : List ℕ) (r s : Told) → ReadCall text room r → ReadCall text room s → r ≡ s
read_call-one text room r s (listed d f e p) (listed c g i q) = p ∙ ap (λ (x : Data). wrote (packed x) room) (listings-apart d c f g (e ∙ sym i)) ∙ sym q
read_call-one text room r s (listed d f e p) (unlisted k b q) = absurd (not_good text k d e f b)
read_call-one text room r s (unlisted k b p) (listed d f e q) = absurd (not_good text k d e f b)
read_call-one text room r s (unlisted k b p) (unlisted n c q) = p ∙ ap (λ (x : ℕ). refused_at 15 x room) (first_bad-one text k n b c) ∙ sym q
