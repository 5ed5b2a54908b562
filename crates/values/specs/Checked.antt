-- Values that exist where a test passes.
use Rattle.std.specs.Prelude.{◌≡◌, ℕ, Bool, true, false, List, Some, None, Option, refl}
use Rattle.digits.specs.Positional.{numeral}

abbrev pub checked : {A : Type 0} (test : Bool) → (test ≡ true → A) → Option A
checked true make = Some (make refl)
checked false make = None

-- the second where the first is there
abbrev pub and_then : {A B : Type 0} → Option A → (A → Option B) → Option B
and_then None f = None
and_then (Some x) f = f x

-- the value of the number that exactly w digits write
abbrev pub numbered : {A : Type 0} → ℕ → (ℕ → Option A) → List ℕ → Option A
numbered w of cs = and_then (numeral w cs) of
