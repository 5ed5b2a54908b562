use Rattle.std.proofs.Common.{◌≡◌, Ok, ap, ◌∙◌}
use Rattle.statement.specs.Joining.{united, emptied}
use Rattle.statement.specs.Statement.{model}
use Rattle.statement.proofs.Reached.{reached_join}
use Rattle.statement.proofs.statement.Statement.join.Goals as goal

pub returns : goal.returns
returns g c =
    let j = c.joinable.ensures in
    let answer = c.in_ok-joinable.ensures.answer in
    let m = model g.L.RowStore g.D.RowStore c.args.self.now in
    let given = model g.M.RowStore g.E.RowStore c.args.giver.now in
    let receiver : model g.L.RowStore g.D.RowStore c.unite.new.self ≡ united m given = c.unite.ensures.receiver ∙ (λ i. united (model g.L.RowStore g.D.RowStore (j.receiver i)) (model g.M.RowStore g.E.RowStore (j.giver i))) in
    let giver : model g.M.RowStore g.E.RowStore c.unite.new.giver ≡ emptied given = c.unite.ensures.giver ∙ ap (λ s. emptied (model g.M.RowStore g.E.RowStore s)) j.giver in
    record {
      answer = answer;
      receiver = receiver;
      giver = giver;
      same = tt;
      same_giver = tt;
      reached = λ a d h k. reached_join m given _ _ (Ok tt) answer receiver giver a d h k;
    }
