use Rattle.std.proofs.Common.{take, ap, ◌∙◌, rules}
use Rattle.std.specs.Ordering.{is_ge}
use Rattle.agreement.proofs.OrderLaws.{order, not_lower}
use Rattle.agreement.proofs.tables.fn.first_not_rising.position.Goals as goal

pub returns : goal.returns
returns g c =
    c.is_ge.ensures ∙ ap is_ge c.cmp.ensures ∙ not_lower (order (take c.captures.len c.args.arg1.0.now) (take c.captures.len c.args.arg1.1.now))
