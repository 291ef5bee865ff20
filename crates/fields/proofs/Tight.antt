-- How tight the promises are: any two answers that a function's contract allows on the same arguments are equal, in what is
-- returned and in the lent bytes at exit. Each law is stated over the contract itself, `Post`, so a weaker contract breaks it.
-- What is cut is compared by its bytes, and fields by those that are left.
use mathlib.Core.Path.{◌≡◌, refl, sym, ap, ◌∙◌}
use mathlib.Core.Bool.{Bool, true}
use mathlib.Core.List.{List, [], ◌∷◌, ◌++◌}
use Rattle.std.specs.Prelude.{Option, None, Some, MatchOption}
use Prim.Native.Nat.{ℕ}
use native.Mathlib.Omega.{arith}
use lib.ListN.{length, drop}
use lib.Seq.{drop-append_seam}
use Rattle.plain.proofs.Answers.{one_answer}
use Rattle.printing.specs.Listing.{Bytes}
use Rattle.printing.specs.Reading.{pieces}
use Rattle.printing.specs.FirstBad.{lacks}
use Rattle.printing.proofs.Pieces.{piece-last, pieces-some}
use Rattle.fields.specs.declared.reading.Fields.{Fields}
use Rattle.fields.specs.Said.{Cut, fields_left}
use Rattle.fields.specs.Laid.{Laid}
use Rattle.fields.proofs.Scans.{cut-pieces}
use Rattle.fields.proofs.reading.split_once.Reads as split_once
use Rattle.fields.proofs.reading.Fields.of.Reads as of
use Rattle.fields.proofs.reading.is_word.Reads as is_word
use Rattle.fields.proofs.reading.number.Reads as number
use Rattle.fields.proofs.reading.part_word.Reads as part-word
use Rattle.fields.proofs.writing.put.Reads as put
use Rattle.fields.proofs.writing.put_word.Reads as put_word
use Rattle.fields.proofs.writing.put_number.Reads as put-number
use Rattle.fields.proofs.writing.put_part.Reads as put-part

tail : Bytes → Bytes
tail [] = []
tail (b ∷ x) = x

-- a text is cut in one way, and not at all if it lacks the byte
cut-one : (t : Bytes) (byte : ℕ) (x y v w : Bytes) → Cut t byte x y → Cut t byte v w → (x ≡ v) × (y ≡ w)
unfolding tail
cut-one t byte x y v w c d = (first, same_back (byte ∷ y) (byte ∷ w) (sym c.is ∙ d.is ∙ ap (λ (z : Bytes). z ++ (byte ∷ w)) (sym first)))
  where
    first : x ≡ v
    first = let e : x ∷ pieces byte y ≡ v ∷ pieces byte w = sym (cut-pieces byte t x y c) ∙ cut-pieces byte t v w d in cc

    same_back : (a b : Bytes) → x ++ a ≡ x ++ b → tail a ≡ tail b
    same_back a b e = ap tail (sym (drop-append_seam x a) ∙ ap (drop (length x)) e ∙ drop-append_seam x b)

uncut : (t : Bytes) (byte : ℕ) (x y : Bytes) → lacks byte t ≡ true → Cut t byte x y → ⊥
uncut t byte x y h c = omega (arith, ap length (sym (piece-last byte t h) ∙ cut-pieces byte t x y c), pieces-some byte y)

laid_one : {before items after again : List ℕ} {at r s : ℕ} → Laid before at items after r → Laid before at items again s → (r ≡ s) × (after ≡ again)
laid_one p q = (one_answer p.to q.to, one_answer p.left q.left)

cuts-one : {T : Type 0} (front back : T → Bytes) (t : Bytes) (byte : ℕ) (r s : Option T) → MatchOption r (lacks byte t ≡ true) (λ p. Cut t byte (front p) (back p)) → MatchOption s (lacks byte t ≡ true) (λ p. Cut t byte (front p) (back p))
    → MatchOption r (s ≡ None) (λ p. MatchOption s ⊥ (λ q. (front p ≡ front q) × (back p ≡ back q)))
cuts-one front back t byte None None p q = refl
cuts-one front back t byte None (Some v) p q = absurd (uncut t byte _ _ p q)
cuts-one front back t byte (Some u) None p q = uncut t byte _ _ q p
cuts-one front back t byte (Some u) (Some v) p q = cut-one t byte _ _ _ _ p q

pub split_once-tight : (κs a : _) (r s : _) (x y : _) → split_once.Post κs a r x → split_once.Post κs a s y
    → MatchOption r (s ≡ None) (λ p. MatchOption s ⊥ (λ q. (p.0.now ≡ q.0.now) × (p.1.now ≡ q.1.now)))
split_once-tight κs a r s x y p q = cuts-one (λ p. p.0.now) (λ p. p.1.now) _ _ r s p q

pub of-tight : (κs a : _) (r s : Fields) (x y : _) → of.Post κs a r x → of.Post κs a s y → fields_left r ≡ fields_left s
of-tight κs a r s x y = one_answer

pub is_word-tight : (κs a : _) (r s : Bool) (x y : _) → is_word.Post κs a r x → is_word.Post κs a s y → r ≡ s
is_word-tight κs a r s x y = one_answer

pub number-tight : (κs a : _) (r s : Option ℕ) (x y : _) → number.Post κs a r x → number.Post κs a s y → r ≡ s
number-tight κs a r s x y = one_answer

pub part_word-tight : (κs a : _) (r s : Option ℕ) (x y : _) → part-word.Post κs a r x → part-word.Post κs a s y → r ≡ s
part_word-tight κs a r s x y = one_answer

pub put-tight : (κs a : _) (r s : ℕ) (x y : _) → put.Post κs a r x → put.Post κs a s y → (r ≡ s) × (x.0.now ≡ y.0.now)
put-tight κs a r s x y = laid_one

pub put_word-tight : (κs a : _) (r s : ℕ) (x y : _) → put_word.Post κs a r x → put_word.Post κs a s y → (r ≡ s) × (x.0.now ≡ y.0.now)
put_word-tight κs a r s x y = laid_one

pub put_number-tight : (κs a : _) (r s : ℕ) (x y : _) → put-number.Post κs a r x → put-number.Post κs a s y → (r ≡ s) × (x.0.now ≡ y.0.now)
put_number-tight κs a r s x y = laid_one

pub put_part-tight : (κs a : _) (r s : ℕ) (x y : _) → put-part.Post κs a r x → put-part.Post κs a s y → (r ≡ s) × (x.0.now ≡ y.0.now)
put_part-tight κs a r s x y = laid_one
