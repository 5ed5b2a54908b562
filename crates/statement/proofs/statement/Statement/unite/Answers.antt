use Rattle.std.proofs.Common.{◌+◌, ◌∙◌}
use Rattle.ledger.specs.Rows.{line_keys, join_lines, day_keys, join_days}
use Rattle.ledger.specs.RowLaws.{line_order, line_joins, day_order, day_joins}
use Rattle.merging.proofs.Sizes.{poured_fits}
use Rattle.statement.proofs.Boards.{joined_counts}
use Rattle.statement.proofs.statement.Statement.unite.Goals as goal

pub returns : goal.returns
returns g c =
    let r = c.args.self.now in
    let given = c.args.giver.now in
    let lines = poured_fits line_keys line_order join_lines line_joins (g.L.RowStore.ledger r.lines) (g.M.RowStore.ledger given.lines).rows r.kept.lines.rising c.requires.lines in
    let days = poured_fits day_keys day_order join_days day_joins (g.D.RowStore.ledger r.days) (g.E.RowStore.ledger given.days).rows r.kept.days.rising c.requires.days in
    record {
      receiver = λ i. record {
        terms = r.basis.terms;
        reference = r.basis.reference;
        lines = (c.pour.ensures.poured ∙ lines) i;
        days = (c.pour-2.ensures.poured ∙ days) i;
        taken = r.taken + given.taken;
        board = c.join.ensures i;
      };
      giver = λ i. record {
        terms = given.basis.terms;
        reference = given.basis.reference;
        lines = c.pour.ensures.cleared i;
        days = c.pour-2.ensures.cleared i;
        taken = 0;
        board = c.new-giver.ensures i;
      };
    }

pub invariant_of-self : goal.invariant_of-self
invariant_of-self g c = record {
  kept = record {
    lines = c.pour.ensures.receiver;
    days = c.pour-2.ensures.receiver;
    taken = c.requires.taken;
    counts = λ i. rw c.join.ensures (joined_counts c.args.self.now.board c.args.giver.now.board _ _ c.args.self.now.kept.counts c.args.giver.now.kept.counts i);
  };
}
