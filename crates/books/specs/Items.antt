-- The items that cells hold.
use Rattle.std.specs.Prelude.{List, Option}
use Rattle.std.specs.List.{filter_map}

abbrev pub held : {T : Type 0} → List (Option T) → List T
held cells = filter_map (λ cell. cell) cells
