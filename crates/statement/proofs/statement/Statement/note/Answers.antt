use Rattle.statement.proofs.statement.Statement.note.Goals as goal

pub returns : goal.returns
returns g c =
    record {
      after = simp (c.note.ensures, c.number.ensures, c.sequential.ensures);
    }
