-- Rows that are well formed and rise.
use Rattle.std.specs.Prelude.{ℕ, Bool, ◌&&◌, List, is_ok}
use Rattle.agreement.specs.declared.parts.Part.{Part}
use Rattle.agreement.specs.Agreement.{well_formed, rising}

abbrev pub is_sound : Part → List (List ℕ) → Bool
is_sound part rows = is_ok (well_formed part rows) && is_ok (rising part rows)
