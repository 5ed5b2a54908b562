-- Lines, each ended by a line feed.
use Rattle.std.specs.Prelude.{ℕ, suc, Bool, false, cond, ◌||◌, List, [], ◌∷◌, ◌==◌}

abbrev pub line_feed : ℕ
line_feed = 10

-- whether a line feed is among the bytes
abbrev pub has_end : List ℕ → Bool
has_end [] = false
has_end (c ∷ cs) = c == line_feed || has_end cs

-- how many bytes stand before the first line feed, or all of them
abbrev pub line_length : List ℕ → ℕ
line_length [] = 0
line_length (c ∷ cs) = cond (c == line_feed) 0 (suc (line_length cs))
