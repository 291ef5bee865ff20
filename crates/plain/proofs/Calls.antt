-- What a branch on `!f(..)` tells, where the promise of f is an equation of its answer r with a test s: the branch that
-- was taken says that the test fails, the one that was left that it holds.
use mathlib.Core.Path.{◌≡◌, sym, ◌∙◌}
use mathlib.Core.Bool.{Bool, true, false, not}
use borrow.Author.Tests.{not-true, not-false}

pub refused : {r s : Bool} → r ≡ s → not r ≡ true → s ≡ false
refused {r} e t = sym e ∙ not-true r t

pub passed : {r s : Bool} → r ≡ s → not r ≡ false → s ≡ true
passed {r} e t = sym e ∙ not-false r t
