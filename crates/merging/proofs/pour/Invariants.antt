use Rattle.std.proofs.Common.{◌≡◌, length}
use Rattle.ledger.specs.Ledger.{Kept}
use Rattle.merging.specs.Merges.{poured}
use Rattle.merging.proofs.Visits.{Visit, left}
use Rattle.merging.proofs.pour.Given as goal

-- the giver is as it was, and pouring what is left gives what pouring all gives
abbrev pub invariant-loop-at : goal.invariant-loop-at
invariant-loop-at g l =
    let o = g.S.Row.Row.keys in
    let S = g.S.RowStore in
    let rows = (g.G.RowStore.ledger l.initial.giver).rows in
    Kept o (S.ledger l.receiver) (S.kept l.receiver)
    × (l.giver ≡ l.initial.giver)
    × Visit l.at rows
    × (poured o g.S.Row.Row.joined (S.ledger l.receiver) (left o l.at rows) ≡ poured o g.S.Row.Row.joined (S.ledger l.initial.receiver) rows)

abbrev pub decreases-loop-at : goal.decreases-loop-at
decreases-loop-at g l = length (left g.S.Row.Row.keys l.at (g.G.RowStore.ledger l.initial.giver).rows)
