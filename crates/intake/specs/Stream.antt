-- An input that comes in pieces, by the record that is not yet ended and by what the sink took.
use Rattle.std.specs.Prelude.{◌≡◌, ℕ, ◌<◌, ◌≤◌, ◌==◌, Bool, false, List, [], ◌∷◌, length, None, Some, Option, MatchOption}
use Rattle.arrayvec.specs.ArrayVec.{ArrayVec, array_vec_len}
use Rattle.intake.specs.declared.Intake.{Intake}
use Rattle.intake.specs.declared.sink.RecordSink as RecordSink
use Rattle.intake.specs.Records.{longest_kept, ended_records, unended_rest}

-- a record's bytes, or none where they are more than the longest
abbrev pub IsHeld : Option (ArrayVec ℕ) → List ℕ → Type 0
IsHeld held p = MatchOption held (longest_kept < length p) (λ v. (v.items ≡ p) × (length p ≤ longest_kept))

abbrev pub is_nothing : Option (ArrayVec ℕ) → Bool
is_nothing None = false
is_nothing (Some v) = array_vec_len v == 0

-- p is the record that is not yet ended
abbrev pub Holds : {S : Type 0} → Intake S → List ℕ → Type 0
Holds s p = IsHeld s.held p

-- it has no byte so far
abbrev pub holds_nothing : {S : Type 0} → Intake S → Bool
holds_nothing s = is_nothing s.held

module _ {S : Type 0} (sinks : RecordSink.Ghosts S) where
  -- t is s after it took these records, one after the other
  abbrev pub TakesAll : S → List (List ℕ) → S → Type 0
  TakesAll s [] t = s ≡ t
  TakesAll s (r ∷ rs) t = (u : S) × sinks.takes s r u × TakesAll u rs t

  -- s began with the sink `start` and was fed the bytes xs, in whatever pieces
  pub record Fed (start : S) (xs : List ℕ) (s : Intake S) : Type 0 where
    pub rest : Holds s (unended_rest xs)
    pub taken : TakesAll start (ended_records xs) s.sink
