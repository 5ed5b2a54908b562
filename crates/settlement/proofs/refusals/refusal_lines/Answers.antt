use Rattle.std.proofs.Common.{◌≡◌, ◌-◌, ◌∙◌, ap, arith}
use Rattle.settlement.specs.Refusals.{first_lines}
use Rattle.settlement.proofs.refusals.refusal_lines.Goals as goal

pub returns : goal.returns
returns c =
    let all : c.loop-number.number ≡ 14 = omega arith in
    c.loop-number.invariant ∙ ap (λ k. first_lines (k - 2) c.args.board.now) all
