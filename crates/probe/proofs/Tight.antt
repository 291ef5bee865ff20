-- How tight the promises are: any two answers that a function's contract allows on the same arguments are equal. Each law is
-- stated over the contract itself, `Post`, so a weaker contract breaks it.
use mathlib.Core.Path.{◌≡◌, sym, ap, ◌∙◌}
use mathlib.Core.Bool.{Bool}
use mathlib.Core.List.{List}
use Prim.Native.Nat.{ℕ}
use Rattle.plain.proofs.Answers.{one_answer}
use Rattle.syntax.specs.declared.walker.Walker.{Walker}
use Rattle.probe.specs.declared.ProbeWalker.{ProbeWalker}
use Rattle.probe.specs.declared.ProbePlace.{ProbePlace}
use Rattle.probe.specs.Probe.{ends}
use Rattle.probe.proofs.probe_set_cursor_index.Reads as set-cursor-index
use Rattle.probe.proofs.probe_set_cursor_limit.Reads as set-cursor-limit
use Rattle.probe.proofs.probe_is_over.Reads as is-over
use Rattle.probe.proofs.probe_next_useful_index.Reads as next-useful-index
use Rattle.probe.proofs.probe_maybe_expect_char.Reads as maybe-expect-char
use Rattle.probe.proofs.probe_maybe_expect_whitespace.Reads as maybe-expect-whitespace
use Rattle.probe.proofs.probe_find_lookahead_char_index.Reads as find-lookahead-char-index
use Rattle.probe.proofs.probe_query_prefixed.Reads as query-prefixed

-- a walker's fields are known by the walker
same_ends : {r s : ProbeWalker} {w : Walker} → ends r ≡ w → ends s ≡ w → r ≡ s
same_ends p q = ap (λ (w : Walker). record { cursor = w.cursor; limit = w.limit }) (p ∙ sym q)

pub set_cursor_index-tight : (κs a : _) (r s : ProbeWalker) (x y : _) → set-cursor-index.Post κs a r x → set-cursor-index.Post κs a s y → r ≡ s
set_cursor_index-tight κs a r s x y = same_ends

pub set_cursor_limit-tight : (κs a : _) (r s : ProbeWalker) (x y : _) → set-cursor-limit.Post κs a r x → set-cursor-limit.Post κs a s y → r ≡ s
set_cursor_limit-tight κs a r s x y = same_ends

pub is_over-tight : (κs a : _) (r s : Bool) (x y : _) → is-over.Post κs a r x → is-over.Post κs a s y → r ≡ s
is_over-tight κs a r s x y = one_answer

pub next_useful_index-tight : (κs a : _) (r s : ℕ) (x y : _) → next-useful-index.Post κs a r x → next-useful-index.Post κs a s y → r ≡ s
next_useful_index-tight κs a r s x y = one_answer

pub maybe_expect_char-tight : (κs a : _) (r s : ProbePlace) (x y : _) → maybe-expect-char.Post κs a r x → maybe-expect-char.Post κs a s y → r ≡ s
maybe_expect_char-tight κs a r s x y = one_answer

pub maybe_expect_whitespace-tight : (κs a : _) (r s : ProbePlace) (x y : _) → maybe-expect-whitespace.Post κs a r x → maybe-expect-whitespace.Post κs a s y → r ≡ s
maybe_expect_whitespace-tight κs a r s x y = one_answer

pub find_lookahead_char_index-tight : (κs a : _) (r s : ProbePlace) (x y : _) → find-lookahead-char-index.Post κs a r x → find-lookahead-char-index.Post κs a s y → r ≡ s
find_lookahead_char_index-tight κs a r s x y = one_answer

-- with the lent buffer as it stands at exit
pub query_prefixed-tight : (κs a : _) (r s : ℕ) (x y : _) → query-prefixed.Post κs a r x → query-prefixed.Post κs a s y
    → ◌≡◌ {A = List ℕ × ℕ} (x.1.1.0.now, r) (y.1.1.0.now, s)
query_prefixed-tight κs a r s x y = one_answer
