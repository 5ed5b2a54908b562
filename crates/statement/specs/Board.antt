-- The board of refusals: tallies for the numbers 2 to 13.
use Rattle.std.specs.Prelude.{ℕ, ◌+◌, ◌-◌, min, cond, ◌||◌, List, [], ◌∷◌, replicate, Some, None, Option, ◌==◌, nat_lt, slice_index_or, slice_set}
use Rattle.statement.specs.declared.board.Tally.{Tally}
use Rattle.statement.specs.declared.board.RefusalBoard.{RefusalBoard}

-- the lesser of two sequentials, where 0 is none
abbrev pub lesser_of : ℕ → ℕ → ℕ
lesser_of a b = cond (a == 0) b (cond (b == 0) a (min a b))

abbrev pub no_tally : Tally
no_tally = record { count = 0; least = 0 }

-- one refusal more
abbrev pub noted_tally : Tally → ℕ → Tally
noted_tally t s = record { count = t.count + 1; least = lesser_of t.least s }

abbrev pub clear_board : RefusalBoard
clear_board = record { tallies = replicate 12 no_tally }

-- the tally at a place, from 0: that of the number 2 + i
abbrev pub tally_at : RefusalBoard → ℕ → Tally
tally_at b i = slice_index_or b.tallies i no_tally

-- the tally of a number
abbrev pub tally_of : RefusalBoard → ℕ → Option Tally
tally_of b n = cond (nat_lt n 2 || nat_lt 13 n) None (Some (tally_at b (n - 2)))

abbrev pub noted : RefusalBoard → ℕ → ℕ → RefusalBoard
noted b number s = record { tallies = slice_set b.tallies (number - 2) (noted_tally (tally_at b (number - 2)) s) }

-- two numbers' refusals together
abbrev pub tallies_joined : Tally → Tally → Tally
tallies_joined t u = record { count = t.count + u.count; least = lesser_of t.least u.least }

abbrev pub each_joined : List Tally → List Tally → List Tally
each_joined [] us = us
each_joined (t ∷ ts) [] = t ∷ ts
each_joined (t ∷ ts) (u ∷ us) = tallies_joined t u ∷ each_joined ts us

-- number by number
abbrev pub boards_joined : RefusalBoard → RefusalBoard → RefusalBoard
boards_joined a b = record { tallies = each_joined a.tallies b.tallies }
