-- Rows in their order of arrival: the ledger that they make, the first with a key, and the first at fault. `at` gives
-- the row at an index, from 0, or none where the bytes there are malformed.
use Rattle.std.specs.Prelude.{ℕ, zero, suc, Bool, true, cond, List, [], Some, None, Option}
use Rattle.std.specs.Option.{option_or}
use Rattle.ledger.specs.Keys.{KeyOps}
use Rattle.ledger.specs.Ledger.{has_key, put_row, holds}

-- the first index below n that passes a test
abbrev pub first_at : (ℕ → Bool) → ℕ → Option ℕ
first_at test zero = None
first_at test (suc n) = option_or (first_at test n) (cond (test n) (Some n) None)

abbrev pub put_one : {K R : Type 0} → KeyOps K R → (R → R → R) → Option R → List R → List R
put_one o join None rows = rows
put_one o join (Some r) rows = put_row o join r rows

-- the first n rows put one after the other
abbrev pub arrived : {K R : Type 0} → KeyOps K R → (R → R → R) → (ℕ → Option R) → ℕ → List R
arrived o join at zero = []
arrived o join at (suc n) = put_one o join (at n) (arrived o join at n)

-- the index of the first of n rows with this key
abbrev pub place_of : {K R : Type 0} → KeyOps K R → K → (ℕ → Option R) → ℕ → Option ℕ
place_of o k at n = first_at (λ i. has_key o k (at i)) n

-- a row is at fault where it is malformed or repeats the key of an earlier row
abbrev pub is_fault : {K R : Type 0} → KeyOps K R → Option R → List R → Bool
is_fault o None earlier = true
is_fault o (Some r) earlier = holds o (o.key_of r) earlier

-- the index of the first of n rows that is at fault
abbrev pub first_fault : {K R : Type 0} → KeyOps K R → (R → R → R) → (ℕ → Option R) → ℕ → Option ℕ
first_fault o join at n = first_at (λ i. is_fault o (at i) (arrived o join at i)) n
