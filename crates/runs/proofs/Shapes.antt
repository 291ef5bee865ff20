-- The shape of a call, seen from its buffer: whatever the buffer, it refuses in one and the same way, or it has one and the same
-- answer, which is written if there is room. So what it tells depends on the buffer's length alone, the buffer keeps its length,
-- and what is behind the words taken stays as it was.
use mathlib.Core.Path.{◌≡◌, refl, sym, ap, subst, ◌∙◌}
use mathlib.Core.Logic.{◌⊎◌, inl, inr}
use mathlib.Core.List.{List, [], ◌∷◌, map}
use Prim.Native.Nat.{ℕ, ◌+◌, ◌-◌, ◌≤◌}
use native.Mathlib.Decide.{dec_le}
use native.Mathlib.Omega.{arith}
use lib.Dec.{eqb}
use lib.ListN.{length, take, drop, length-append, length-drop}
use lib.Seq.{take_at, drop_at}
use borrow.Author.Tests.{ne_eqb}
use Rattle.plain.specs.Choice.{select}
use Rattle.plain.specs.Buffers.{at_start}
use Rattle.plain.specs.Told.{Told}
use Rattle.readings.specs.Scene.{Scene, scene_of, based}
use Rattle.readings.specs.Walk.{tries}
use Rattle.readings.specs.Answer.{answer_words}
use Rattle.readings.specs.Call.{tree, written, call_with}
use Rattle.readings.proofs.Calls as Calls
use Rattle.readings.proofs.Numbers.{Case, table, bytes, extents, visits, origin, walk, none_found, too_long, found, exactly, stop-numbers}
use Rattle.lines.specs.Lines.{Line}
use Rattle.runs.specs.Program.{taken, line_call}
use Rattle.runs.specs.Demand.{Kept}

abbrev refusal : ℕ → ℕ → ℕ → List ℕ → Told
refusal n v p b = record { number = n; visits = v; words = 0; place = p; buffer = b }

pub data Shape (call : List ℕ → Told) : Type 0 where
  refusing : (n v p : ℕ) → (n ≡ 0 → ⊥) → (n ≡ 9 → ⊥) → ((b : List ℕ) → call b ≡ refusal n v p b) → Shape call
  answering : (v : ℕ) (ws : List ℕ) → ((b : List ℕ) → call b ≡ written v ws b) → Shape call

module _ (order : Scene → List (ℕ × ℕ)) (t line sheet : List ℕ) (budget base : ℕ) where
  abbrev call : List ℕ → Told
  call = call_with order t line sheet budget base

  abbrev s : Scene
  s = based base (scene_of t line sheet)

  of-case : {n : ℕ} → Case order t line sheet budget base [] n → Shape call
  of-case (table e) = refusing 2 0 0 (λ q. omega arith) (λ q. omega arith) (λ b. Calls.bad-table order t line sheet budget base b e)
  of-case (bytes p e f) = refusing 3 0 p (λ q. omega arith) (λ q. omega arith) (λ b. Calls.bad-line order t line sheet budget base b p e f)
  of-case (extents e f g) = refusing 4 0 0 (λ q. omega arith) (λ q. omega arith) (λ b. Calls.bad-sheet order t line sheet budget base b e f g)
  of-case (visits e f g h) = refusing 5 0 0 (λ q. omega arith) (λ q. omega arith) (λ b. Calls.bad-budget order t line sheet budget base b e f g h)
  of-case (origin e f g h i) = refusing 19 0 0 (λ q. omega arith) (λ q. omega arith) (λ b. Calls.bad-base order t line sheet budget base b e f g h i)
  of-case (walk {n = n} left a e) =
      let k = stop-numbers (tries s (order s)) budget 0 e in
      refusing n (budget - left) 0 (apart n k).0 (apart n k).1 (λ b. Calls.stopped order t line sheet budget base b a n left e)
    where
      apart : (n : ℕ) → (n ≡ 6) ⊎ ((n ≡ 7) ⊎ (n ≡ 8)) → (n ≡ 0 → ⊥) × (n ≡ 9 → ⊥)
      apart n (inl q) = (λ z. omega arith, λ z. omega arith)
      apart n (inr (inl q)) = (λ z. omega arith, λ z. omega arith)
      apart n (inr (inr q)) = (λ z. omega arith, λ z. omega arith)
  of-case (none_found left used a e) =
      refusing 1 (budget - left) 0 (λ q. omega arith) (λ q. omega arith) (λ b. Calls.walked_through order t line sheet budget base b a left used [] e)
  of-case (too_long left used m ms a e h) =
      answering (budget - left) (answer_words s (tree m ∷ map tree ms)) (λ b. Calls.walked_through order t line sheet budget base b a left used (m ∷ ms) e)
  of-case (found left used m ms a e h) =
      answering (budget - left) (answer_words s (tree m ∷ map tree ms)) (λ b. Calls.walked_through order t line sheet budget base b a left used (m ∷ ms) e)

  pub call_shape : Shape call
  call_shape = of-case ((exactly order t line sheet budget base [] (call []).number).0 refl)

-- of a program's line
pub line-shape : (order : Scene → List (ℕ × ℕ)) (t : List ℕ) (x : Line) → Shape (line_call order t x)
line-shape order t x = call_shape order t x.bytes x.sheet x.budget x.base

-- ---- what follows of the buffer

module _ (b : List ℕ) where
  nothing-taken : (n v p : ℕ) → (n ≡ 0 → ⊥) → taken (refusal n v p b) ≡ 0
  unfolding taken
  nothing-taken n v p ne = rw (ne_eqb n 0 ne) refl

  refused-keeps : (n v p : ℕ) → (n ≡ 0 → ⊥) → Kept b (refusal n v p b)
  refused-keeps n v p ne = record { long = refl; fits = omega (arith, nothing-taken n v p ne); rest = refl }

  module _ (v : ℕ) (ws : List ℕ) where
    abbrev full : Told
    full = record { number = 0; visits = v; words = length ws; place = 0; buffer = at_start ws b }

    abbrev lacking : Told
    lacking = record { number = 9; visits = v; words = length ws; place = 0; buffer = b }

    full-keeps : length ws ≤ length b → Kept b full
    unfolding taken
    full-keeps h = record {
      long = length-append ws (drop (length ws) b) ∙ ap (λ (n : ℕ). length ws + n) (length-drop (length ws) b) ∙ omega arith;
      fits = h;
      rest = drop_at ws (drop (length ws) b) (length ws) refl;
    }

    lacking-keeps : Kept b lacking
    unfolding taken
    lacking-keeps = record { long = refl; fits = omega arith; rest = refl }

    written_keeps : Kept b (written v ws b)
    written_keeps = by (dec_le (length ws) (length b))
      where
        by : Dec (length ws ≤ length b) → Kept b (written v ws b)
        by (yes h) = subst (Kept b) (sym (Calls.fits (scene_of [] [] []) v b ws h)) (full-keeps h)
        by (no h) = subst (Kept b) (sym (Calls.short (scene_of [] [] []) v b ws (omega (arith, h)))) lacking-keeps

pub shape-keeps : {call : List ℕ → Told} → Shape call → (b : List ℕ) → Kept b (call b)
shape-keeps (refusing n v p ne _ e) b = subst (Kept b) (sym (e b)) (refused-keeps b n v p ne)
shape-keeps (answering v ws e) b = subst (Kept b) (sym (e b)) (written_keeps b v ws)

-- two that tell the same number and words take the same
pub same_taken : (r s : Told) → r.number ≡ s.number → r.words ≡ s.words → taken r ≡ taken s
unfolding taken
same_taken r s n w = ap (λ (k : ℕ). select (eqb k 0) r.words 0) n ∙ ap (λ (m : ℕ). select (eqb s.number 0) m 0) w

-- buffers of one length are told the same number and words
module _ (v : ℕ) (ws a b : List ℕ) (same : length a ≡ length b) where
  written_same : ((written v ws a).number ≡ (written v ws b).number) × ((written v ws a).words ≡ (written v ws b).words)
  written_same = by (dec_le (length ws) (length b))
    where
      by : Dec (length ws ≤ length b) → ((written v ws a).number ≡ (written v ws b).number) × ((written v ws a).words ≡ (written v ws b).words)
      by (yes h) =
          let p = Calls.fits (scene_of [] [] []) v a ws (omega (arith, same)) in
          let q = Calls.fits (scene_of [] [] []) v b ws h in
          (ap (λ (r : Told). r.number) p ∙ sym (ap (λ (r : Told). r.number) q), ap (λ (r : Told). r.words) p ∙ sym (ap (λ (r : Told). r.words) q))
      by (no h) =
          let p = Calls.short (scene_of [] [] []) v a ws (omega (arith, same, h)) in
          let q = Calls.short (scene_of [] [] []) v b ws (omega (arith, h)) in
          (ap (λ (r : Told). r.number) p ∙ sym (ap (λ (r : Told). r.number) q), ap (λ (r : Told). r.words) p ∙ sym (ap (λ (r : Told). r.words) q))

pub shape_same : {call : List ℕ → Told} → Shape call → (a b : List ℕ) → length a ≡ length b → ((call a).number ≡ (call b).number) × ((call a).words ≡ (call b).words)
shape_same {call} (refusing n v p _ _ e) a b same =
    (ap (λ (r : Told). r.number) (e a) ∙ sym (ap (λ (r : Told). r.number) (e b)), ap (λ (r : Told). r.words) (e a) ∙ sym (ap (λ (r : Told). r.words) (e b)))
shape_same {call} (answering v ws e) a b same =
    let (n, w) = written_same v ws a b same in (
      ap (λ (r : Told). r.number) (e a) ∙ n ∙ sym (ap (λ (r : Told). r.number) (e b)),
      ap (λ (r : Told). r.words) (e a) ∙ w ∙ sym (ap (λ (r : Told). r.words) (e b)),
    )

-- a line that is told no 9 is told the same in any buffer that has room for what it takes
pub shape-room : {call : List ℕ → Told} → Shape call → (a b : List ℕ) → ((call a).number ≡ 9 → ⊥) → taken (call a) ≤ length b
    → ((call a).number ≡ (call b).number) × ((call a).words ≡ (call b).words)
unfolding taken
shape-room {call} (refusing n v p _ _ e) a b not9 h =
    (ap (λ (r : Told). r.number) (e a) ∙ sym (ap (λ (r : Told). r.number) (e b)), ap (λ (r : Told). r.words) (e a) ∙ sym (ap (λ (r : Told). r.words) (e b)))
shape-room {call} (answering v ws e) a b not9 h = by (dec_le (length ws) (length a))
  where
    by : Dec (length ws ≤ length a) → ((call a).number ≡ (call b).number) × ((call a).words ≡ (call b).words)
    by (yes k) =
        let p = e a ∙ Calls.fits (scene_of [] [] []) v a ws k in
        let q = e b ∙ Calls.fits (scene_of [] [] []) v b ws (subst (λ (n : ℕ). n ≤ length b) (all-taken p) h) in
        (ap (λ (r : Told). r.number) p ∙ sym (ap (λ (r : Told). r.number) q), ap (λ (r : Told). r.words) p ∙ sym (ap (λ (r : Told). r.words) q))
      where
        all-taken : {r : Told} → r ≡ record { number = 0; visits = v; words = length ws; place = 0; buffer = at_start ws a } → taken r ≡ length ws
        all-taken q = ap taken q
    by (no k) = absurd (not9 (ap (λ (r : Told). r.number) (e a ∙ Calls.short (scene_of [] [] []) v a ws (omega (arith, k)))))

-- and the words that it takes are the same
pub shape-words : {call : List ℕ → Told} → Shape call → (a b : List ℕ) → ((call a).number ≡ 9 → ⊥) → taken (call a) ≤ length b
    → take (taken (call a)) (call a).buffer ≡ take (taken (call b)) (call b).buffer
unfolding taken
shape-words {call} (refusing n v p ne _ e) a b not9 h =
    ap (λ (r : Told). take (taken r) r.buffer) (e a) ∙ ap (λ (k : ℕ). take k a) (nothing-taken a n v p ne)
    ∙ sym (ap (λ (r : Told). take (taken r) r.buffer) (e b) ∙ ap (λ (k : ℕ). take k b) (nothing-taken b n v p ne))
shape-words {call} (answering v ws e) a b not9 h = by (dec_le (length ws) (length a))
  where
    full-words : (c : List ℕ) → length ws ≤ length c → take (taken (call c)) (call c).buffer ≡ ws
    full-words c k = ap (λ (r : Told). take (taken r) r.buffer) (e c ∙ Calls.fits (scene_of [] [] []) v c ws k) ∙ take_at ws (drop (length ws) c) (length ws) refl

    by : Dec (length ws ≤ length a) → take (taken (call a)) (call a).buffer ≡ take (taken (call b)) (call b).buffer
    by (yes k) = full-words a k ∙ sym (full-words b (subst (λ (n : ℕ). n ≤ length b) (ap taken (e a ∙ Calls.fits (scene_of [] [] []) v a ws k)) h))
    by (no k) = absurd (not9 (ap (λ (r : Told). r.number) (e a ∙ Calls.short (scene_of [] [] []) v a ws (omega (arith, k)))))
