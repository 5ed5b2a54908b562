use Rattle.intake.proofs.LineLaws.{cut_nowhere, cut_before}
use Rattle.intake.proofs.lines.split_line.Goals as goal

pub returns-in_err-after : goal.returns-in_err-after
returns-in_err-after c =
    rw c.from_residual.ensures
    (cut_nowhere c.args.bytes.now c.split_at.result.1.now c.line_length.result c.line_length.ensures.value c.split_at.ensures.back_len c.in_err-after.ensures.cases)

pub returns : goal.returns
returns c =
    cut_before c.args.bytes.now c.split_at.result.0.now c.split_at.result.1.now c.in_ok-after.after.now c.in_ok-after.field-0-0.now c.line_length.result
    c.line_length.ensures.value c.split_at.ensures.front c.split_at.ensures.back c.split_at.ensures.back_len c.split_at.ensures.by_index.0
    c.in_ok-after.ensures.cases.0
