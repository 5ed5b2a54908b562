-- Lists of items with keys: the item of a key, and adding one.
use Rattle.std.specs.Prelude.{◌≡◌, ℕ, Bool, cond, List, [], ◌∷◌, ◌++◌, length, find, is_some, Ok, Err, Option, Result, nat_lt}
use Rattle.books.specs.declared.faults.ListFault.{ListFault}
use Rattle.books.specs.declared.faults.ListFault.TheVariants.{Listed, Full}
use Rattle.books.specs.declared.fixed_list.FixedList.{FixedList}
use Rattle.books.specs.Items.{held}

-- the items of a list, in the order in which they were added
abbrev pub items_of : {T : Type 0} {n : ℕ} → FixedList T n → List T
items_of l = held l.cells.items

-- the first item with this key, where `same` says which keys are equal
abbrev pub with_key : {T K : Type 0} → (K → K → Bool) → (T → K) → K → List T → Option T
with_key same key_of k xs = find (λ x. same (key_of x) k) xs

abbrev pub is_listed : {T K : Type 0} → (K → K → Bool) → (T → K) → T → List T → Bool
is_listed same key_of x xs = is_some (with_key same key_of (key_of x) xs)

-- what adding an item answers, where the list may hold so many
abbrev pub adding : {T K : Type 0} → (K → K → Bool) → (T → K) → ℕ → T → List T → Result (Unit {0}) ListFault
adding same key_of most x xs = cond (is_listed same key_of x xs) (Err Listed) (cond (nat_lt (length xs) most) (Ok tt) (Err Full))

-- what adding an item leaves: the item at the end of the list, or, where it is refused, the whole state as it was
abbrev pub Adds : {S T : Type 0} → (S → List T) → T → S → S → Result (Unit {0}) ListFault → Type 0
Adds items x before after (Ok _) = items after ≡ items before ++ (x ∷ [])
Adds items x before after (Err e) = after ≡ before
