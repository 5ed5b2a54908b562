-- A walk over a store's rows by `next`, and what it has yet to visit.
use Rattle.std.proofs.Common.{◌≡◌, ℕ, ◌+◌, List, [], ◌∷◌, drop, Some, None, Option, sym, ap, ◌∙◌}
use Rattle.std.specs.List.{slice_get}
use Rattle.ledger.specs.Keys.{KeyOps, OrderLaws}
use Rattle.ledger.specs.Ledger.{Rising, next_row, position}
use Rattle.ledger.specs.Ledgers.{position_at}
use Rattle.ledger.proofs.Walks.{drop_nth, drop_none, walk_start, walk_on}

-- one of the rows, or none after the last
abbrev pub Visit : {R : Type 0} → Option R → List R → Type 0
Visit at rows = (i : ℕ) × (at ≡ slice_get rows i)

-- the rows from this one on
abbrev pub left : {K R : Type 0} → KeyOps K R → Option R → List R → List R
left o None rows = []
left o (Some r) rows = drop (position o (o.key_of r) rows) rows

-- what `next` gives, asked with a row's key of rows that are as they were
pub next_as : {K R : Type 0} (o : KeyOps K R) (next : Option R) (k : K) (r : R) (asked rows : List R) → next ≡ next_row o (Some k) asked → k ≡ o.key_of r → asked ≡ rows → next ≡ next_row o (Some (o.key_of r)) rows
next_as o next k r asked rows n e s = n ∙ (ap (λ j. next_row o (Some j) asked) e ∙ ap (next_row o (Some (o.key_of r))) s)

module _ {K R : Type 0} (o : KeyOps K R) (laws : OrderLaws o) where
  left_at : (at : Option R) (rows : List R) (i : ℕ) → Rising o rows → at ≡ slice_get rows i → left o at rows ≡ drop i rows
  left_at None rows i up e = sym (drop_none rows i (sym e))
  left_at (Some r) rows i up e = ap (λ n. drop n rows) (position_at o laws (o.key_of r) rows i r up (sym e) (laws.same (o.key_of r)))

  pub visit_start : (at : Option R) (rows : List R) → at ≡ next_row o None rows → Visit at rows
  visit_start at rows e = (0, e ∙ walk_start o rows)

  -- all rows are left at the start
  pub left_start : (at : Option R) (rows : List R) → Rising o rows → at ≡ next_row o None rows → left o at rows ≡ rows
  left_start at rows up e = left_at at rows 0 up (e ∙ walk_start o rows)

  pub visit_on : (at next : Option R) (r : R) (rows : List R) → Rising o rows → Visit at rows → at ≡ Some r → next ≡ next_row o (Some (o.key_of r)) rows → Visit next rows
  visit_on at next r rows up v e n = (v.0 + 1, n ∙ walk_on o laws rows v.0 r up (sym v.1 ∙ e))

  -- the row at hand, and then the rows from the next one on
  pub left_on : (at next : Option R) (r : R) (rows : List R) → Rising o rows → Visit at rows → at ≡ Some r → next ≡ next_row o (Some (o.key_of r)) rows → left o at rows ≡ r ∷ left o next rows
  left_on at next r rows up v e n =
      left_at at rows v.0 up v.1
      ∙ (drop_nth rows v.0 r (sym v.1 ∙ e)
      ∙ ap (λ l. r ∷ l) (sym (left_at next rows (v.0 + 1) up (n ∙ walk_on o laws rows v.0 r up (sym v.1 ∙ e)))))
