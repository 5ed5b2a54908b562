use Rattle.std.proofs.Common.{◌≡◌}
use Rattle.statement.specs.Statement.{Model, opened}
use Rattle.statement.proofs.Reached.{reached_opening}
use Rattle.statement.proofs.statement.Statement.open.Goals as goal

pub returns : goal.returns
returns g c =
    let m : ◌≡◌ {A = Model} (record { terms = c.args.basis.terms; reference = c.args.basis.reference; lines = g.L.RowStore.ledger c.clear.new.self; days = g.D.RowStore.ledger c.clear-2.new.self; taken = 0; board = c.new.result }) (opened c.args.basis.terms c.args.basis.reference (g.L.RowStore.ledger c.args.lines).most (g.D.RowStore.ledger c.args.days).most) = λ i. record {
      terms = c.args.basis.terms;
      reference = c.args.basis.reference;
      lines = c.clear.ensures.after i;
      days = c.clear-2.ensures.after i;
      taken = 0;
      board = c.new.ensures i;
    } in
    record {
      model = m;
      reached = reached_opening _ _ _ _ _ m;
    }
