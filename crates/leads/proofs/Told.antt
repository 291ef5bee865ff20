-- What a lead tells: where it has a rule fail, the rule fails, with so many visits; and where it says nothing, none.
use mathlib.Core.Path.{◌≡◌, ap, ◌∙◌}
use mathlib.Core.Logic.{inl, inr}
use mathlib.Core.Bool.{Bool, true, false}
use mathlib.Core.List.{List, [], ◌∷◌, map}
use Prim.Native.Nat.{ℕ, zero, suc, ◌<◌}
use native.Mathlib.Omega.{arith}
use lib.Dec.{eqb}
use lib.ListN.{get_or, take, drop}
use borrow.Author.Tests.{ne_eqb}
use Rattle.std.specs.Prelude.{Option, None, Some}
use Rattle.plain.proofs.Options.{some-ne-none, some_inj}
use Rattle.plain.specs.Choice.{select}
use Rattle.plain.specs.Lists.{keep_if}
use Rattle.token.specs.Token.{is_solid, lowered}
use Rattle.token.proofs.Bytes.{lowered-below}
use Rattle.defs.specs.Table.{table_fits, records_in, rule_parts}
use Rattle.ruledef_map.specs.RuledefMap.{rule_prefix}
use Rattle.sorting.proofs.Insertions.{every-none}
use Rattle.readings.specs.Fail.{ahead, failing}
use Rattle.leads.specs.Leads.{key_of, key_at, failing_by, ahead_of, some_visits, failing_of, LeadOf}
use Rattle.leads.proofs.Keys.{is_byte}
use Rattle.leads.proofs.Bytes.{rule-bytes, rule-short}
use Rattle.leads.proofs.Words.{failing-by, failing-none}

-- ---- what the line has ahead are bytes

Small : List ℕ → Type 0
Small l = (j : ℕ) → get_or l j 0 < 256

small-take : (n : ℕ) (l : List ℕ) → Small l → Small (take n l)
unfolding Small
small-take zero l s j = omega arith
small-take (suc n) [] s j = omega arith
small-take (suc n) (x ∷ l) s zero = s 0
small-take (suc n) (x ∷ l) s (suc j) = small-take n l (λ k. s (suc k)) j

small-drop : (n : ℕ) (l : List ℕ) → Small l → Small (drop n l)
unfolding Small
small-drop zero l s j = s j
small-drop (suc n) [] s j = omega arith
small-drop (suc n) (x ∷ l) s j = small-drop n l (λ k. s (suc k)) j

small-kept : (l : List ℕ) → Small l → Small (map lowered (keep_if is_solid l))
unfolding Small keep_if
small-kept [] s j = omega arith
small-kept (x ∷ l) s j = go (is_solid x) j (small-kept l (λ k. s (suc k)))
  where
    go : (b : Bool) (j : ℕ) → ((k : ℕ) → get_or (map lowered (keep_if is_solid l)) k 0 < 256) → get_or (map lowered (select b (x ∷ keep_if is_solid l) (keep_if is_solid l))) j 0 < 256
    go true zero ih = lowered-below x (s 0)
    go true (suc j) ih = ih j
    go false j ih = ih j

small-ahead : (line : List ℕ) (l c : ℕ) → ((i : ℕ) → get_or line i 0 < 256) → (j : ℕ) → get_or (ahead line l c) j 0 < 256
unfolding ahead Small
small-ahead line l c s = small-take 4 (map lowered (keep_if is_solid (drop c (take l line)))) (small-kept (drop c (take l line)) (small-drop c (take l line) (small-take l line s)))

-- ---- so a lead tells

-- visits that are told are some
visits-some : {m n : ℕ} → Some m ≡ some_visits n → (m ≡ n) × (0 < m)
visits-some {m = m} {n = zero} e = absurd (some-ne-none m e)
visits-some {m = m} {n = suc n} e =
    let i : eqb (suc n) 0 ≡ false = ne_eqb (suc n) 0 (λ k. omega arith) in
    let k : m ≡ suc n = some_inj (rw i at e) in (k, omega arith)

pub told-some : (lead : ℕ) {m : ℕ} (a : Option ℕ) → Some m ≡ failing_of lead a → 0 < m
unfolding failing_of
told-some lead {m} None e = absurd (some-ne-none m e)
told-some lead {m} (Some line) e = (visits-some e).1

module _ (t line : List ℕ) (ok : table_fits t ≡ true) (bytes : (i : ℕ) → get_or line i 0 < 256) (l c i : ℕ) (known : i < records_in t) where
  -- of a line's number
  key-tells : {lead m : ℕ} → LeadOf t i lead → m ≡ failing_by lead (key_of (ahead line l c)) → 0 < m → m ≡ failing (rule_prefix (rule_parts t i)) (ahead line l c)
  unfolding key_at key_of
  key-tells {lead} {m} (inl none) is some = absurd (omega (arith, nothing))
    where
      nothing : m ≡ 0
      nothing =
          is ∙ ap (λ (w : ℕ). failing_by w (key_of (ahead line l c))) none
          ∙ failing-by [] (ahead line l c) (every-none is_byte) (small-ahead line l c bytes) (omega arith) ∙ failing-none (ahead line l c)
  key-tells {lead} {m} (inr this) is some =
      is ∙ ap (λ (w : ℕ). failing_by w (key_of (ahead line l c))) this
      ∙ failing-by (rule_prefix (rule_parts t i)) (ahead line l c) (rule-bytes t ok i known) (small-ahead line l c bytes) (rule-short t i)

  pub lead-tells : {lead m : ℕ} {a : Option ℕ} (wanted : Bool) → LeadOf t i lead → a ≡ ahead_of wanted line l c → Some m ≡ failing_of lead a → m ≡ failing (rule_prefix (rule_parts t i)) (ahead line l c)
  unfolding failing_of
  lead-tells {lead} {m} true led a-is is =
      let (k, some) = visits-some (is ∙ ap (failing_of lead) a-is) in key-tells led k some
  lead-tells {lead} {m} false led a-is is = absurd (some-ne-none m (is ∙ ap (failing_of lead) a-is))
