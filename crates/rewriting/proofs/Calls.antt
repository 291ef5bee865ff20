-- A table written, and read again, answers every line as before: the contracts of the calls, one after another. The rewritten
-- table is the table's data packed anew, so what the next call is promised of it is what it is promised of the table itself.
use mathlib.Core.Path.{◌≡◌, refl, ap, ◌∙◌}
use mathlib.Core.List.{List}
use Rattle.std.specs.Prelude.{Result, Ok}
use Prim.Native.Nat.{ℕ}
use lib.ListN.{take}
use Rattle.packing.specs.Packed.{packed, data_of}
use Rattle.listing.specs.Calls.{filled}
use Rattle.listing.proofs.Twice.{wrote-whole, written-fits, table-survives}
use Rattle.listing.proofs.reading.read_table.Reads as read_table
use Rattle.listing.proofs.writing.write_table.Reads as write-table
use Rattle.ruledef_map.specs.RuledefMap.{line_prefix}
use Rattle.readings.specs.Scene.{Scene}
use Rattle.readings.specs.Walk.{top_pairs}
use Rattle.readings.specs.Lookup.{found_pairs}
use Rattle.readings.specs.Call.{call_with, scan_call, lookup_call}
use Rattle.trials.specs.declared.Matched.{Matched}
use Rattle.trials.specs.declared.Refused.{Refused}
use Rattle.trials.specs.Told.{says}
use Rattle.matcher.proofs.match_instr.Reads as match-instr
use Rattle.matcher.proofs.match_with_ruledef_map.Reads as match-with-ruledef-map
use Rattle.rewriting.proofs.Rewriting.{rewritten-call}

module _ (κs a : _) (n : ℕ) (x : _) (written : write-table.Post κs a (Ok n) x) (λs b : _) (m : ℕ) (y : _) (read : read_table.Post λs b (Ok m) y)
    (same : b.0.now ≡ take n x.1.0.now) where
  -- the rewritten table
  pub rewritten : take m y.1.0.now ≡ packed (data_of a.0.now)
  rewritten = wrote-whole (packed (data_of a.0.now)) b.1.0.now (filled m y.1.0.now) (table-survives κs a n x written λs b (Ok m) y read same) refl

  again : (order : Scene → List (ℕ × ℕ)) (t line sheet : List ℕ) (budget base : ℕ) (answer : List ℕ) → t ≡ take m y.1.0.now
      → call_with order t line sheet budget base answer ≡ call_with order a.0.now line sheet budget base answer
  again order t line sheet budget base answer e =
      ap (λ (u : List ℕ). call_with order u line sheet budget base answer) (e ∙ rewritten)
      ∙ rewritten-call order a.0.now line sheet budget base answer (written-fits a.0.now a.1.0.now n x.1.0.now written)

  -- a call on it answers what is promised of the table itself: by the full scan, and by prefix lookup
  pub rewritten-scan : (μs c : _) (r : Result Matched Refused) (z : _) → match-instr.Post μs c r z → c.0.now ≡ take m y.1.0.now
      → says r z.1.1.1.1.1.0.now ≡ scan_call a.0.now c.1.0.now c.1.1.0.now c.1.1.1.0 c.1.1.1.1.0 c.1.1.1.1.1.0.now
  rewritten-scan μs c r z p e = p.0 ∙ again top_pairs c.0.now c.1.0.now c.1.1.0.now c.1.1.1.0 c.1.1.1.1.0 c.1.1.1.1.1.0.now e

  pub rewritten-lookup : (μs c : _) (r : Result Matched Refused) (z : _) → match-with-ruledef-map.Post μs c r z → c.0.now ≡ take m y.1.0.now
      → says r z.1.1.1.1.1.0.now ≡ lookup_call a.0.now c.1.0.now c.1.1.0.now c.1.1.1.0 c.1.1.1.1.0 c.1.1.1.1.1.0.now
  rewritten-lookup μs c r z p e =
      p.0 ∙ again (λ s. found_pairs s (line_prefix s.line)) c.0.now c.1.0.now c.1.1.0.now c.1.1.1.0 c.1.1.1.1.0 c.1.1.1.1.1.0.now e
