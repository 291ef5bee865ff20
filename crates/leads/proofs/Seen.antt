-- What the line has ahead, byte by byte: at each turn the useful place is the next of the bytes that count.
use mathlib.Core.Path.{◌≡◌, subst, ◌∙◌}
use mathlib.Core.List.{List}
use Prim.Native.Nat.{ℕ, ◌+◌, ◌*◌, ◌-◌, ◌≤◌, ◌<◌}
use native.Mathlib.Omega.{arith}
use lib.ListN.{length, take}
use Rattle.token.specs.Token.{lowered}
use Rattle.syntax.specs.Walker.{byte_at, useful}
use Rattle.readings.specs.Scene.{walker_at}
use Rattle.readings.specs.Fail.{ahead}
use Rattle.readings.proofs.Lookups.{solids_from}
use Rattle.readings.proofs.Fails.{met-byte, met-end, met-none}
use Rattle.leads.specs.Leads.{key_of}
use Rattle.leads.proofs.Keys.{Filling, filling-start, filling-none, filling-byte}

-- the bytes that count from cursor c on and below the limit give the rest of the key
pub record LineFilling (line : List ℕ) (l whole c left key : ℕ) : Type 0 where
  pub inside : c ≤ l
  pub rest : Filling (solids_from (take l line) c) whole left key

pub line-start : (line : List ℕ) (l c : ℕ) → c ≤ l → LineFilling line l (key_of (ahead line l c)) c 4 0
unfolding ahead
line-start line l c h = record { inside = h; rest = filling-start (solids_from (take l line) c) }

pub line-as : {line : List ℕ} {l whole c a b key : ℕ} → a ≡ b → LineFilling line l whole c a key → LineFilling line l whole c b key
line-as {line} {l} {whole} {c} {key = key} e p = subst (λ (n : ℕ). LineFilling line l whole c n key) e p

module _ {line : List ℕ} {l whole c left key : ℕ} (before : LineFilling line l whole c left key) (within : l ≤ length line) (more : 0 < left)
    {at : ℕ} (at-is : at ≡ useful line (walker_at line l c)) where
  pub line-byte : {byte : ℕ} → at < l → byte < 256 → byte ≡ lowered (byte_at line at) → LineFilling line l whole (at + 1) (left - 1) (key * 256 + byte)
  line-byte {byte} h small is = record {
    inside = omega arith;
    rest =
        filling-byte before.rest more small
        (met-byte line l within c before.inside (omega (arith, at-is)) ∙ rw (← at-is, is));
  }

  pub line-end : l ≤ at → LineFilling line l whole l (left - 1) (key * 256)
  line-end h = record {
    inside = omega arith;
    rest = filling-none before.rest more (met-end line l within c before.inside (omega (arith, at-is))) (met-none line l within);
  }
