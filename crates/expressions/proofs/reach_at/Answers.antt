-- `reach_at` meets its contract.
use mathlib.Core.Path.{ap, ◌∙◌}
use mathlib.Core.Bool.{Bool}
use Rattle.plain.specs.Choice.{select}
use Rattle.expressions.proofs.Bytes.{alnum-told}
use Rattle.expressions.proofs.reach_at.Goals as goal

pub returns : goal.returns
returns c = (c.next_or.ensures ∙ ap (λ (d : Bool). select d c.args.next.digits c.args.c) c.is_digit-digit.ensures, c.next_or-2.ensures ∙ ap (λ (d : Bool). select d c.args.next.names c.args.c) (alnum-told c.args.b c.is_letter-letter.ensures c.is_digit-digit.ensures))
