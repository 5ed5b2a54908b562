-- The steps of a binary search in a table, and of an insertion.
use Rattle.std.proofs.Common.{◌≡◌, ℕ, zero, suc, ◌+◌, ◌-◌, ◌<◌, ◌≤◌, Bool, true, false, cond, ltb, List, [], ◌∷◌, ◌++◌, map, length, get_or, take, drop, set, is_some, Some, None, Ok, Err, Option, Ordering, Less, Equal, Greater, sym, refl, ap, ◌∙◌, subst, inl, inr, ⊎_elim, ◌⊎◌, Result, arith}
use borrow.Rule.Slice.PartMut.{put_mid}
use Rattle.std.specs.List.{slice_get, between, AllWithin, HoldsAt}
use Rattle.std.specs.List.Sorted.{IsBinarySearchResult, IsNonDecreasingBy, IsSearchInRange}
use Rattle.std.specs.Ordering.{ordering_index}
use Rattle.std.proofs.lemmas.List.{length-take-le, length-set, length-append, length-drop, length-map, get_or-map, take-set-le, take-take, take_more_set, take_at, drop_at, drop-append-le}
use Rattle.std.proofs.lemmas.Option.{slice_get-get_or, slice_get_cases, slice_get_within}
use Rattle.std.proofs.lemmas.Bool.{false≢true, or_left, or_right, or_from, lt-ltb, le-ltb, cases_order}
use Rattle.std.proofs.lemmas.Slice.{between_is, take-put_mid}
use Rattle.ledger.specs.Keys.{KeyOps, OrderLaws, JoinLaws}
use Rattle.ledger.specs.Ledger.{Rising, find_row, next_row, put_row, holds, takes, position, place}
use Rattle.stores.specs.Table.{table_rows, table_ledger, Table, TablePut}
use Rattle.ledger.specs.Ledgers.{less≢greater, position_le, position_after, position_upto, position_at, find_at, find_none, rising_at, nth_found, next_at, find_key, put_rising}
use Rattle.stores.proofs.Tables.{table_rows_lem, table_of, cells_held, cells_new}

some_is : {X : Type 0} {x y : X} → Some x ≡ Some y → x ≡ y
some_is e = cc

nth_within : {X : Type 0} (xs : List X) (i : ℕ) → is_some (slice_get xs i) ≡ true → i < length xs
nth_within [] i e = absurd (false≢true e)
nth_within (x ∷ xs) zero e = omega arith
nth_within (x ∷ xs) (suc i) e = let h = nth_within xs i e in omega arith

-- where a binary search of the cells ends
module _ {K C R : Type 0} (o : KeyOps K R) (laws : OrderLaws o) (of : C → Option R) (cell : R → C) (read : (r : R) → of (cell r) ≡ Some r)
    (rank : C → K → Ordering) (ranked : (c : C) (k : K) (r : R) → of c ≡ Some r → rank c k ≡ o.order (o.key_of r) k)
    (rows : List R) (rising : Rising o rows) (k : K) where
  row_at : (i : ℕ) → i < length rows → (r : R) × (slice_get rows i ≡ Some r)
  row_at i h = ⊎_elim (λ p. (p.0, p.2)) (λ q. absurd (let e = q.0 in omega arith)) (slice_get_cases rows i).1

  cell_at : (i : ℕ) (r : R) (d : C) → slice_get rows i ≡ Some r → get_or (map cell rows) i d ≡ cell r
  cell_at i r d e =
      let h = slice_get_within rows i r e in
      get_or-map cell rows i r d h ∙ ap cell (some_is (sym (slice_get-get_or rows i r h) ∙ e))

  -- a cell is ranked as the row that it holds
  rank_at : (i : ℕ) (r : R) (d : C) → slice_get rows i ≡ Some r → rank (get_or (map cell rows) i d) k ≡ o.order (o.key_of r) k
  rank_at i r d e = ap (λ c. rank c k) (cell_at i r d e) ∙ ranked (cell r) k r (read r)

  rank_is : (i : ℕ) (r : R) (v : Ordering) → HoldsAt (λ c. rank c k ≡ v) (map cell rows) i → slice_get rows i ≡ Some r → o.order (o.key_of r) k ≡ v
  rank_is i r v h e = sym (rank_at i r (cell r) e) ∙ h (cell r)

  index_low : (v w : Ordering) → (w ≡ Less → v ≡ Less) → (w ≡ Equal → v ≡ Less) → ordering_index v ≤ ordering_index w
  index_low v Less l e = rw (l refl) (omega arith)
  index_low v Equal l e = rw (e refl) (omega arith)
  index_low Less Greater l e = omega arith
  index_low Equal Greater l e = omega arith
  index_low Greater Greater l e = omega arith

  -- the cells are ranked in their order
  ranks_rise : IsNonDecreasingBy (λ c. ordering_index (rank c k)) (map cell rows)
  ranks_rise i j d h below =
      let long : length (map cell rows) ≡ length rows = length-map rows cell in
      let b = row_at j (omega arith) in
      let a = row_at i (omega arith) in
      rw (rank_at i a.0 d a.1, rank_at j b.0 d b.1)
      (⊎_elim
      (λ e. let same : a.0 ≡ b.0 = some_is (sym a.1 ∙ ap (slice_get rows) e ∙ b.1) in rw same (omega arith))
      (⊎_elim
      (λ l.
      let under = rising_at o laws rows i j a.0 b.0 l rising a.1 b.1 in
      index_low (o.order (o.key_of a.0) k) (o.order (o.key_of b.0) k)
      (λ q. laws.transitive (o.key_of a.0) (o.key_of b.0) k under q)
      (λ q. subst (λ x. o.order (o.key_of a.0) x ≡ Less) (laws.identical (o.key_of b.0) k q) under))
      (λ g. absurd (omega arith)))
      (cases_order i j))

  found_at : (i : ℕ) → i < length rows → HoldsAt (λ c. rank c k ≡ Equal) (map cell rows) i → Ok i ≡ place o k rows
  found_at i h here =
      let r = row_at i h in
      let q = rank_is i r.0 Equal here r.1 in
      rw (find_at o laws k rows i r.0 rising r.1 q, position_at o laws k rows i r.0 rising r.1 q)

  -- the key belongs where the cells below it end
  belongs : (i : ℕ) → i ≤ length rows → AllWithin (λ c. rank c k ≡ Less) (map cell rows) 0 i → AllWithin (λ c. rank c k ≡ Greater) (map cell rows) i (length rows) → position o k rows ≡ i
  belongs i h low high = let a = upto (cases_order i (length rows)) in let b = from i h low in omega arith
    where
      upto : (i ≡ length rows) ⊎ ((i < length rows) ⊎ (length rows < i)) → position o k rows ≤ i
      upto (inl e) = let p = position_le o laws k rows in omega arith
      upto (inr (inl l)) =
          let r = row_at i l in
          position_upto o laws k rows i r.0 r.1 (λ q. less≢greater q (rank_is i r.0 Greater (λ d. high i d (omega arith) l) r.1))
      upto (inr (inr g)) = absurd (omega arith)

      from : (n : ℕ) → n ≤ length rows → AllWithin (λ c. rank c k ≡ Less) (map cell rows) 0 n → n ≤ position o k rows
      from zero n_le below = omega arith
      from (suc m) n_le below =
          let r = row_at m (omega arith) in
          let p = position_after o laws k rows m r.0 rising r.1 (rank_is m r.0 Less (λ d. below m d (omega arith) (omega arith)) r.1) in
          omega arith

  pub searched : (r : Result ℕ ℕ) → IsSearchInRange r (length rows) → IsBinarySearchResult (λ c. rank c k) (map cell rows) r → r ≡ place o k rows
  searched (Ok i) h q = found_at i h q
  searched (Err i) h q =
      let long : length (map cell rows) ≡ length rows = length-map rows cell in
      let parts = q ranks_rise in
      let at = belongs i h parts.0 (λ m d l u. parts.1 m d l (omega arith)) in
      let none = find_none o laws k rows rising (λ r e. let e2 : slice_get rows i ≡ Some r = ap (slice_get rows) (sym at) ∙ e in
      rank_is i r Greater (λ d. parts.1 i d (omega arith) (let w = slice_get_within rows i r e2 in omega arith)) e2) in
      rw none (ap Err (sym at))

-- what the end of a search tells
place_ok : (b : Bool) (i p : ℕ) → Ok i ≡ cond b (Ok p) (Err p) → (b ≡ true) × (i ≡ p)
place_ok true i p e = (refl, cc)
place_ok false i p e = let z : ◌≡◌ {A = ℕ} 0 1 = cc in absurd (omega arith)

place_err : (b : Bool) (i p : ℕ) → Err i ≡ cond b (Ok p) (Err p) → (b ≡ false) × (i ≡ p)
place_err true i p e = let z : ◌≡◌ {A = ℕ} 0 1 = cc in absurd (omega arith)
place_err false i p e = (refl, cc)

not_some : {X : Type 0} (v : Option X) → is_some v ≡ false → v ≡ None
not_some None e = refl
not_some (Some x) e = absurd (false≢true (sym e))

module _ {K R : Type 0} (o : KeyOps K R) (laws : OrderLaws o) (rows : List R) (rising : Rising o rows) (k : K) (i : ℕ) where
  module _ (e : Ok i ≡ place o k rows) where
    pub held : holds o k rows ≡ true
    held = (place_ok (holds o k rows) i (position o k rows) e).0

    pub held_row : slice_get rows i ≡ find_row o k rows
    held_row = ap (slice_get rows) (place_ok (holds o k rows) i (position o k rows) e).1 ∙ nth_found o laws k rows rising held

    pub held_within : i < length rows
    held_within = nth_within rows i (ap is_some held_row ∙ held)

    pub next_held : next_row o (Some k) rows ≡ slice_get rows (i + 1)
    next_held = next_at o laws k rows rising ∙ rw held (ap (slice_get rows) (let at = (place_ok (holds o k rows) i (position o k rows) e).1 in omega arith))

  module _ (e : Err i ≡ place o k rows) where
    pub new_none : find_row o k rows ≡ None
    new_none = not_some (find_row o k rows) (place_err (holds o k rows) i (position o k rows) e).0

    pub new_place : i ≡ position o k rows
    new_place = (place_err (holds o k rows) i (position o k rows) e).1

    pub new_within : i ≤ length rows
    new_within = let p = position_le o laws k rows in let at = new_place in omega arith

    pub next_new : next_row o (Some k) rows ≡ slice_get rows i
    next_new = next_at o laws k rows rising ∙ rw new_none (ap (slice_get rows) (sym new_place))

module _ {K C R : Type 0} (o : KeyOps K R) (of : C → Option R) (cell : R → C) (read : (r : R) → of (cell r) ≡ Some r) (laws : OrderLaws o)
    (join : R → R → R) (joins : JoinLaws o join) (cells : List C) (n : ℕ) (t : Table o of cell cells n) (r : R) (k : K) (key : k ≡ o.key_of r) (i : ℕ) where
  -- cells that hold the rows with r put are as the put leaves them
  put_leaves : (new : List C) (m : ℕ) → m ≤ length new → length new ≡ length cells → take m new ≡ map cell (put_row o join r (table_rows of cells n)) → takes o r (table_ledger of cells n) ≡ true → TablePut o of cell join r cells n new (Ok m)
  put_leaves new m w long e taken =
      let rows = put_row o join r (table_rows of cells n) in (
        table_of o of cell read rows new m w e (put_rising o laws join joins r (table_rows of cells n) t.rising),
        taken,
        λ j. record { rows = table_rows_lem o of cell read rows new m e j; most = long j },
      )

  pub put_held_cell : Ok i ≡ place o k (table_rows of cells n) → i < n → (s : R) → slice_get (table_rows of cells n) i ≡ Some s → (x : C) → x ≡ cell (join s r) → TablePut o of cell join r cells n (set cells i x) (Ok n)
  put_held_cell e h s here x is =
      let rows = table_rows of cells n in
      let at_key : o.order (o.key_of s) (o.key_of r) ≡ Equal = found_key s (sym (held_row o laws rows t.rising k i e) ∙ here) in
      put_leaves (set cells i x) n (let w = t.within in rw length-set w) (simp length-set)
      (ap (λ v. take n (set cells i v)) is ∙ cells_held o of cell read laws join r cells n t i s h here at_key)
      (or_left (holds o (o.key_of r) rows) (ltb (length rows) (length cells)) (ap (λ v. holds o v rows) (sym key) ∙ held o laws rows t.rising k i e))
    where
      found_key : (s : R) → find_row o k (table_rows of cells n) ≡ Some s → o.order (o.key_of s) (o.key_of r) ≡ Equal
      found_key s f = subst (λ v. o.order (o.key_of s) v ≡ Equal) key (find_key o laws k (table_rows of cells n) s f)

  pub put_new_cell : Err i ≡ place o k (table_rows of cells n) → n < length cells → (new : List C) → length new ≡ length cells → (x : C) → x ≡ cell r → take (n + 1) new ≡ take i (take n cells) ++ (x ∷ drop i (take n cells)) → TablePut o of cell join r cells n new (Ok (n + 1))
  put_new_cell e h new long x is inserted =
      let rows = table_rows of cells n in
      let none : find_row o (o.key_of r) rows ≡ None = ap (λ v. find_row o v rows) (sym key) ∙ new_none o laws rows t.rising k i e in
      let at : i ≡ position o (o.key_of r) rows = new_place o laws rows t.rising k i e ∙ ap (λ v. position o v rows) key in
      put_leaves new (n + 1) (omega arith) long
      (cells_new o of cell read laws join r cells n t new (n + 1) i none at (inserted ∙ ap (λ v. take i (take n cells) ++ (v ∷ drop i (take n cells))) is))
      (or_right (holds o (o.key_of r) rows) (ltb (length rows) (length cells)) (lt-ltb (length rows) (length cells) (let l = t.counted in omega arith)))

  pub put_no_room : Err i ≡ place o k (table_rows of cells n) → n ≡ length cells → TablePut o of cell join r cells n cells (Err (record { row = r }))
  put_no_room e full =
      let rows = table_rows of cells n in
      let none : find_row o (o.key_of r) rows ≡ None = ap (λ v. find_row o v rows) (sym key) ∙ new_none o laws rows t.rising k i e in
      (or_from (holds o (o.key_of r) rows) (ltb (length rows) (length cells)) (ap is_some none) (le-ltb (length rows) (length cells) (let l = t.counted in omega arith)), refl, refl)

-- a cell written behind the first n and turned to the place i
pub insert_turned : {C : Type 0} (xs ys : List C) (n i : ℕ) (y : C) → i ≤ n → n < length xs
    → ys ≡ drop (length (between i (n + 1) (set xs n y)) - 1) (between i (n + 1) (set xs n y)) ++ take (length (between i (n + 1) (set xs n y)) - 1) (between i (n + 1) (set xs n y))
    → take (n + 1) (put_mid i (n + 1 - i) (set xs n y) ys) ≡ take i (take n xs) ++ (y ∷ drop i (take n xs))
insert_turned {C} xs ys n i y h w e =
    let rest : List C = drop i (take n xs) in
    let len : length (take n xs) ≡ n = length-take-le n xs (omega arith) in
    let part : between i (n + 1) (set xs n y) ≡ rest ++ (y ∷ []) =
    between_is (set xs n y) i (n + 1) ∙ ap (drop i) (take_more_set xs n y w) ∙ drop-append-le i (take n xs) (y ∷ []) (omega arith) in
    let long : length (between i (n + 1) (set xs n y)) - 1 ≡ length rest =
    ap (λ v. length v - 1) part ∙ ap (λ v. v - 1) (length-append rest (y ∷ [])) ∙ omega arith in
    let turned : ys ≡ y ∷ rest =
    e
    ∙ ap (λ v. drop v (between i (n + 1) (set xs n y)) ++ take v (between i (n + 1) (set xs n y))) long
    ∙ ap (λ v. drop (length rest) v ++ take (length rest) v) part
    ∙ ap (λ v. v ++ take (length rest) (rest ++ (y ∷ []))) (drop_at rest (y ∷ []) (length rest) refl)
    ∙ ap (λ v. y ∷ v) (take_at rest (y ∷ []) (length rest) refl) in
    let all : length ys ≡ suc (length rest) = ap length turned in
    let some : length rest ≡ n - i = length-drop i (take n xs) ∙ ap (λ v. v - i) len in
    take-put_mid i (n + 1 - i) (set xs n y) ys (n + 1) (omega arith) (rw length-set (omega arith))
    ∙ ap (λ v. v ++ ys) (take-set-le i xs n y h ∙ sym (take-take i n xs h))
    ∙ ap (λ v. take i (take n xs) ++ v) turned
