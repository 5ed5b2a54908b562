use Rattle.std.proofs.Common.{◌≡◌, ℕ, ◌≤◌, length, get_or}
use Rattle.statement.specs.Board.{no_tally, each_joined}
use Rattle.statement.proofs.Boards.{join_from}
use Rattle.statement.proofs.board.join_tallies.Given as goal

-- what is left to join gives the same, and is as it was
abbrev pub invariant-loop-i : goal.invariant-loop-i
invariant-loop-i l =
    (join_from l.i l.mine l.theirs ≡ each_joined l.initial.mine l.theirs)
    × ((j : ℕ) → l.i ≤ j → get_or l.mine j no_tally ≡ get_or l.initial.mine j no_tally)
    × (length l.mine ≡ 12)
