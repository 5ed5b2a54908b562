use Rattle.std.proofs.Common.{◌≡◌, ◌-◌, vec_items}
use Rattle.settlement.specs.Refusals.{first_lines}
use Rattle.settlement.proofs.refusals.refusal_lines.Given as goal

abbrev pub invariant-loop-number : goal.invariant-loop-number
invariant-loop-number l = vec_items l.text ≡ first_lines (l.number - 2) l.board
