-- The lines that say what was refused: for each number met, rising, two digits, its count in seven, its least
-- sequential in ten, with a blank between and a line feed at the end.
use Rattle.std.specs.Prelude.{ℕ, zero, suc, ◌+◌, cond, List, [], ◌∷◌, ◌++◌, nat_lt}
use Rattle.digits.specs.Positional.{write_decimal}
use Rattle.statement.specs.Board.{tally_at}
use Rattle.statement.specs.declared.board.RefusalBoard.{RefusalBoard}
use Rattle.statement.specs.declared.board.Tally.{Tally}

abbrev pub refusal_line : ℕ → Tally → List ℕ
refusal_line number t = write_decimal 2 number ++ (32 ∷ (write_decimal 7 t.count ++ (32 ∷ (write_decimal 10 t.least ++ (10 ∷ [])))))

-- the line of a number that was met
abbrev pub line_if_met : ℕ → Tally → List ℕ
line_if_met number t = cond (nat_lt 0 t.count) (refusal_line number t) []

-- the lines of the first k numbers, from 2 on
abbrev pub first_lines : ℕ → RefusalBoard → List ℕ
first_lines zero b = []
first_lines (suc k) b = first_lines k b ++ line_if_met (2 + k) (tally_at b k)

-- the numbers 2 to 13
abbrev pub refusal_lines : RefusalBoard → List ℕ
refusal_lines b = first_lines 12 b
