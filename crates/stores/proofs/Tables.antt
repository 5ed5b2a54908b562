-- What the cells of a table tell of its rows.
use Rattle.std.proofs.Common.{◌≡◌, ℕ, zero, suc, ◌<◌, ◌≤◌, List, [], ◌∷◌, ◌++◌, map, length, get_or, take, drop, set, Some, None, Option, Ordering, Equal, sym, refl, ap, ◌∙◌, subst, arith}
use lib.Seq.{take-set-lt}
use Rattle.std.specs.List.{slice_get}
use Rattle.std.specs.Option.{option_map}
use Rattle.std.proofs.lemmas.List.{length-take-le, length-map, map-set, map-append, take-map, drop-map}
use Rattle.std.proofs.lemmas.Option.{slice_get_read}
use Rattle.std.specs.Option.{IsSome}
use Rattle.ledger.specs.Keys.{KeyOps, OrderLaws}
use Rattle.ledger.specs.Ledger.{Rising, find_row, put_row, position}
use Rattle.stores.specs.Table.{rows_of, table_rows, Table}
use Rattle.ledger.specs.Ledgers.{none≢some, put_held, put_new}

nth_map : {X Y : Type 0} (f : X → Y) (xs : List X) (i : ℕ) → slice_get (map f xs) i ≡ option_map f (slice_get xs i)
nth_map f [] i = refl
nth_map f (x ∷ xs) zero = refl
nth_map f (x ∷ xs) (suc i) = nth_map f xs i

nth_take : {X : Type 0} (n : ℕ) (xs : List X) (i : ℕ) → i < n → slice_get (take n xs) i ≡ slice_get xs i
nth_take zero xs i h = absurd (omega arith)
nth_take (suc n) [] i h = refl
nth_take (suc n) (x ∷ xs) zero h = refl
nth_take (suc n) (x ∷ xs) (suc i) h = nth_take n xs i (omega arith)

nth_some : {X : Type 0} (xs : List X) (i : ℕ) → i < length xs → slice_get xs i ≡ None → ⊥
nth_some [] i h e = omega arith
nth_some (x ∷ xs) zero h e = none≢some e refl
nth_some (x ∷ xs) (suc i) h e = nth_some xs i (omega arith) e

-- at i stands a row whose key stands to k as v says
pub record Stands {K R : Type 0} (o : KeyOps K R) (rows : List R) (i : ℕ) (k : K) (v : Ordering) : Type 0 where
  pub row : R
  pub here : slice_get rows i ≡ Some row
  pub ranked : v ≡ o.order (o.key_of row) k

module _ {K C R : Type 0} (o : KeyOps K R) (of : C → Option R) (cell : R → C) (read : (r : R) → of (cell r) ≡ Some r) where
  pub rows_cells : (rows : List R) → rows_of of (map cell rows) ≡ rows
  rows_cells [] = refl
  rows_cells (r ∷ rs) = rw (read r) (ap (λ v. r ∷ v) (rows_cells rs))

  -- the cell at i holds the row at i
  pub row_in : (cells : List C) (n i : ℕ) (x : C) → Table o of cell cells n → i < n → x ≡ get_or cells i x → of x ≡ slice_get (table_rows of cells n) i
  row_in cells n i x t h e =
      let here : slice_get (take n cells) i ≡ Some x = nth_take n cells i h ∙ slice_get_read cells (length cells) i x refl (let w = t.within in omega arith) e in
      let there : option_map cell (slice_get (table_rows of cells n) i) ≡ Some x = sym (nth_map cell (table_rows of cells n) i) ∙ ap (λ v. slice_get v i) (sym t.whole) ∙ here in
      of_mapped (slice_get (table_rows of cells n) i) there
    where
      of_mapped : (v : Option R) → option_map cell v ≡ Some x → of x ≡ v
      of_mapped None q = absurd (none≢some refl q)
      of_mapped (Some r) q = let z : cell r ≡ x = cc in ap of (sym z) ∙ read r

  pub row_there : (cells : List C) (n i : ℕ) → Table o of cell cells n → i < n → slice_get (table_rows of cells n) i ≡ None → ⊥
  row_there cells n i t h e = nth_some (table_rows of cells n) i (let l = t.counted in omega arith) e

  -- a row stands at each place of the first n, and its cell is ranked as it is
  pub row_ranked : (rank : C → K → Ordering) → ((c : C) (k : K) (r : R) → of c ≡ Some r → rank c k ≡ o.order (o.key_of r) k)
      → (cells : List C) (n i : ℕ) (x : C) → Table o of cell cells n → i < n → x ≡ get_or cells i x → (k : K) (v : Ordering) → v ≡ rank x k → Stands o (table_rows of cells n) i k v
  row_ranked rank ranked cells n i x t h e k v q =
      stands (slice_get (table_rows of cells n) i) refl
    where
      stands : (y : Option R) → slice_get (table_rows of cells n) i ≡ y → Stands o (table_rows of cells n) i k v
      stands None f = absurd (row_there cells n i t h f)
      stands (Some r) f = record { row = r; here = f; ranked = q ∙ ranked x k r (row_in cells n i x t h e ∙ f) }

  -- cells that are those of rising rows are a table of these rows
  pub table_rows_lem : (rows : List R) (cells : List C) (n : ℕ) → take n cells ≡ map cell rows → table_rows of cells n ≡ rows
  table_rows_lem rows cells n e = ap (rows_of of) e ∙ rows_cells rows

  pub table_of : (rows : List R) (cells : List C) (n : ℕ) → n ≤ length cells → take n cells ≡ map cell rows → Rising o rows → Table o of cell cells n
  table_of rows cells n w e h = record {
    within = w;
    whole = e ∙ ap (map cell) (sym (table_rows_lem rows cells n e));
    counted = ap length (table_rows_lem rows cells n e) ∙ sym (length-map rows cell) ∙ sym (ap length e) ∙ length-take-le n cells w;
    rising = subst (Rising o) (sym (table_rows_lem rows cells n e)) h;
  }

  module _ (laws : OrderLaws o) (join : R → R → R) (r : R) (cells : List C) (n : ℕ) (t : Table o of cell cells n) where
    -- the cell of a joined row, written over the row held
    pub cells_held : (i : ℕ) (s : R) → i < n → slice_get (table_rows of cells n) i ≡ Some s → o.order (o.key_of s) (o.key_of r) ≡ Equal → take n (set cells i (cell (join s r))) ≡ map cell (put_row o join r (table_rows of cells n))
    cells_held i s h e q =
        take-set-lt n cells i (cell (join s r)) h
        ∙ ap (λ v. set v i (cell (join s r))) t.whole
        ∙ sym (map-set cell (table_rows of cells n) i (join s r))
        ∙ ap (map cell) (sym (put_held o laws join r (table_rows of cells n) i s t.rising e q))

    -- the cell of a new row, inserted at its place
    pub cells_new : (new : List C) (m i : ℕ) → find_row o (o.key_of r) (table_rows of cells n) ≡ None → i ≡ position o (o.key_of r) (table_rows of cells n) → take m new ≡ take i (take n cells) ++ (cell r ∷ drop i (take n cells)) → take m new ≡ map cell (put_row o join r (table_rows of cells n))
    cells_new new m i none at e =
        let rows = table_rows of cells n in
        e
        ∙ ap (λ v. take i v ++ (cell r ∷ drop i v)) t.whole
        ∙ ap (λ v. v ++ (cell r ∷ drop i (map cell rows))) (take-map cell i rows)
        ∙ ap (λ v. map cell (take i rows) ++ (cell r ∷ v)) (drop-map cell i rows)
        ∙ sym (map-append cell (take i rows) (r ∷ drop i rows))
        ∙ ap (λ p. map cell (take p rows ++ (r ∷ drop p rows))) at
        ∙ ap (map cell) (sym (put_new o laws join r rows none))

-- what is not none is there
pub is_there : {X : Type 0} (v : Option X) → (v ≡ None → ⊥) → IsSome v
is_there None h = absurd (h refl)
is_there (Some x) h = refl
