use Rattle.std.proofs.Common.{◌≡◌, ◌+◌, length}
use Rattle.merging.specs.Merges.{merge_rows}
use Rattle.merging.proofs.Sizes.{shared}
use Rattle.merging.proofs.Visits.{Visit, left}
use Rattle.merging.proofs.rows_together.Given as goal

-- both stores are as they were, and the count has yet to lose the rows shared with those that are left
abbrev pub invariant-loop-at : goal.invariant-loop-at
invariant-loop-at g l =
    let o = g.S.Row.Row.keys in
    let mine = (g.S.RowStore.ledger l.initial.receiver).rows in
    let rows = (g.G.RowStore.ledger l.initial.giver).rows in
    (l.receiver ≡ l.initial.receiver)
    × (l.giver ≡ l.initial.giver)
    × Visit l.at rows
    × (l.together ≡ length (merge_rows o g.S.Row.Row.joined mine rows) + shared o mine (left o l.at rows))

abbrev pub decreases-loop-at : goal.decreases-loop-at
decreases-loop-at g l = length (left g.S.Row.Row.keys l.at (g.G.RowStore.ledger l.initial.giver).rows)
