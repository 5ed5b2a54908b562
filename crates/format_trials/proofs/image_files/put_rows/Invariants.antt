use Rattle.ledger.specs.Ledger.{Kept}
use Rattle.format_trials.proofs.image_files.put_rows.Given as goal

abbrev pub invariant-loop-text : goal.invariant-loop-text
invariant-loop-text g l = Kept g.S.Row.Row.keys (g.S.RowStore.ledger l.store) (g.S.RowStore.kept l.store)
