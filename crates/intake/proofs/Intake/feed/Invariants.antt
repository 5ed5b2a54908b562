use Rattle.std.proofs.Common.{◌≡◌, ℕ, List, ◌++◌, length}
use Rattle.intake.specs.Stream.{Fed}
use Rattle.intake.proofs.Intake.feed.Given as goal

-- of the piece, `done` was fed so far
abbrev pub invariant-loop-line : goal.invariant-loop-line
invariant-loop-line g l =
    (done : List ℕ)
    × (done ++ l.rest ≡ l.piece)
    × ((start : g.row.S.Denot) (xs : List ℕ) → Fed g.S.RecordSink start xs l.initial.self → Fed g.S.RecordSink start (xs ++ done) l.self)

abbrev pub decreases-loop-line : goal.decreases-loop-line
decreases-loop-line g l = length l.rest
