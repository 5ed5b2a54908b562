-- A ledger: rows with strictly rising keys and the most that there may be; and what finding, going on and putting mean.
use Rattle.std.specs.Prelude.{◌≡◌, ℕ, suc, ◌≤◌, Bool, true, false, cond, ◌||◌, List, [], ◌∷◌, length, is_some, Some, None, Ok, Err, Option, Result, nat_lt}
use Rattle.std.specs.declared.cmp.Ordering.TheVariants.{Less}
use Rattle.std.specs.Ordering.{is_lt, is_eq}
use Rattle.ledger.specs.Keys.{KeyOps, by_order}
use Rattle.ledger.specs.declared.store.Full.{Full}
use Rattle.ledger.specs.declared.store.Size.{Size}

-- what a store means: its rows, and the most rows that it may hold
pub record Ledger (R : Type 0) : Type 0 where
  pub rows : List R
  pub most : ℕ

-- every row's key is above k
abbrev pub AllAbove : {K R : Type 0} → KeyOps K R → K → List R → Type 0
AllAbove o k [] = Unit {0}
AllAbove o k (r ∷ rs) = (o.order k (o.key_of r) ≡ Less) × AllAbove o k rs

-- keys rise strictly
abbrev pub Rising : {K R : Type 0} → KeyOps K R → List R → Type 0
Rising o [] = Unit {0}
Rising o (r ∷ rs) = AllAbove o (o.key_of r) rs × Rising o rs

-- the row with this key
abbrev pub find_row : {K R : Type 0} → KeyOps K R → K → List R → Option R
find_row o k [] = None
find_row o k (r ∷ rs) = by_order (o.order (o.key_of r) k) (find_row o k rs) (Some r) (find_row o k rs)

-- the row, if there is one, has this key
abbrev pub has_key : {K R : Type 0} → KeyOps K R → K → Option R → Bool
has_key o k None = false
has_key o k (Some r) = is_eq (o.order (o.key_of r) k)

-- a row of this key may come next: any at the start, and later one above the key reached
abbrev pub is_next : {K R : Type 0} → KeyOps K R → Option K → K → Bool
is_next o None k = true
is_next o (Some from) k = is_lt (o.order from k)

-- the first row, or the first above a key
abbrev pub next_row : {K R : Type 0} → KeyOps K R → Option K → List R → Option R
next_row o after [] = None
next_row o after (r ∷ rs) = cond (is_next o after (o.key_of r)) (Some r) (next_row o after rs)

-- the rows with one more: joined to the row of its key, or inserted in order
abbrev pub put_row : {K R : Type 0} → KeyOps K R → (R → R → R) → R → List R → List R
put_row o join r [] = r ∷ []
put_row o join r (s ∷ rs) = by_order (o.order (o.key_of s) (o.key_of r)) (s ∷ put_row o join r rs) (join s r ∷ rs) (r ∷ (s ∷ rs))

-- a row of this key is among the rows
abbrev pub holds : {K R : Type 0} → KeyOps K R → K → List R → Bool
holds o k rs = is_some (find_row o k rs)

-- the ledger takes this row: its key is held, or there is room for one more
abbrev pub takes : {K R : Type 0} → KeyOps K R → R → Ledger R → Bool
takes o r l = holds o (o.key_of r) l.rows || nat_lt (length l.rows) l.most

-- other rows, and the same most
abbrev pub with_rows : {R : Type 0} → Ledger R → List R → Ledger R
with_rows l rs = record { rows = rs; most = l.most }

-- the ledger after a put: with the row, if the ledger takes it, and else as it was
abbrev pub put_in : {K R : Type 0} → KeyOps K R → (R → R → R) → R → Ledger R → Ledger R
put_in o join r l = cond (takes o r l) (with_rows l (put_row o join r l.rows)) l

-- the answer to a put: the row is taken, or it is handed back
abbrev pub placed : {R : Type 0} → R → Bool → Result (Unit {0}) (Full R)
placed r true = Ok tt
placed r false = Err (record { row = r })

abbrev pub size_of : {R : Type 0} → Ledger R → Size
size_of l = record { rows = length l.rows; most = l.most }

-- how many rows at the front have keys below k
abbrev pub position : {K R : Type 0} → KeyOps K R → K → List R → ℕ
position o k [] = 0
position o k (r ∷ rs) = by_order (o.order (o.key_of r) k) (suc (position o k rs)) 0 0

-- where a search ends: at the row with the key, or where such a row belongs
abbrev pub place : {K R : Type 0} → KeyOps K R → K → List R → Result ℕ ℕ
place o k rs = cond (holds o k rs) (Ok (position o k rs)) (Err (position o k rs))

-- the row that rows with h have where those without h have this: h alone, or joined to it
abbrev pub join_to : {R : Type 0} → (R → R → R) → Option R → R → R
join_to join None h = h
join_to join (Some s) h = join s h

-- which comes next of row h and the next row of the rest
abbrev pub earlier : {K R : Type 0} → KeyOps K R → (R → R → R) → R → Option R → Option R
earlier o join h None = Some h
earlier o join h (Some s) = by_order (o.order (o.key_of s) (o.key_of h)) (Some s) (Some (join s h)) (Some h)

-- The law of a store, true once it is made and after each call: its keys rise, it has at most its most rows, and what it keeps of its own holds.
-- What it keeps is only said to hold, not how, so that the law is a fact that a type may carry.
pub record Kept {K R : Type 0} (o : KeyOps K R) (l : Ledger R) (own : Type 0) : Type 0 where
  pub rising : Rising o l.rows
  pub within : length l.rows ≤ l.most
  pub own_kept : ∥ own ∥₁
