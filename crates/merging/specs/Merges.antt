-- Rows put into rows one after the other, and what neither their order nor their dealing out can change.
use Rattle.std.specs.Prelude.{◌≡◌, ℕ, suc, Bool, false, cond, ◌||◌, List, [], ◌∷◌, ◌++◌, map, length, Some}
use Rattle.std.specs.Ordering.{is_eq}
use Rattle.std.specs.List.Sorted.{IsPermutation}
use Rattle.ledger.specs.Keys.{KeyOps}
use Rattle.ledger.specs.Ledger.{Ledger, find_row, put_row, put_in}

-- the rows of a second list put one after the other into the first
abbrev pub merge_rows : {K R : Type 0} → KeyOps K R → (R → R → R) → List R → List R → List R
merge_rows o join l [] = l
merge_rows o join l (r ∷ rs) = merge_rows o join (put_row o join r l) rs

-- the rows that some rows make, put one after the other
abbrev pub ledger_of : {K R : Type 0} → KeyOps K R → (R → R → R) → List R → List R
ledger_of o join rs = merge_rows o join [] rs

abbrev pub same_key : {K R : Type 0} → KeyOps K R → K → K → Bool
same_key o j k = is_eq (o.order j k)

-- a key is among keys
abbrev pub is_among : {K R : Type 0} → KeyOps K R → K → List K → Bool
is_among o k [] = false
is_among o k (j ∷ js) = same_key o j k || is_among o k js

-- how many different keys there are
abbrev pub distinct : {K R : Type 0} → KeyOps K R → List K → ℕ
distinct o [] = 0
distinct o (k ∷ ks) = cond (is_among o k ks) (distinct o ks) (suc (distinct o ks))

-- the key has a row
abbrev pub HasRow : {K R : Type 0} → KeyOps K R → List R → K → Type 0
HasRow {R = R} o rows k = (r : R) × (find_row o k rows ≡ Some r)

-- what putting each row in turn leaves; rows that are refused are left out
abbrev pub poured : {K R : Type 0} → KeyOps K R → (R → R → R) → Ledger R → List R → Ledger R
poured o join l [] = l
poured o join l (r ∷ rs) = poured o join (put_in o join r l) rs

-- Rows make the same ledger in every order, the ledgers of two parts merge to the ledger of the whole, and a ledger has a row for each different key.
pub record Orderless {K R : Type 0} (o : KeyOps K R) (join : R → R → R) : Type 0 where
  pub ordered : (xs ys : List R) → IsPermutation xs ys → ledger_of o join xs ≡ ledger_of o join ys
  pub dealt : (xs ys : List R) → merge_rows o join (ledger_of o join xs) (ledger_of o join ys) ≡ ledger_of o join (xs ++ ys)
  pub sized : (rs : List R) → length (ledger_of o join rs) ≡ distinct o (map o.key_of rs)
