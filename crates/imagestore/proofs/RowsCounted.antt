-- Rows in their order of arrival, where as many keys are held as rows arrived: what is found among them, and what one more row makes of them.
use Rattle.std.proofs.Common.{◌≡◌, ℕ, zero, suc, ◌+◌, ◌<◌, ◌≤◌, Bool, true, false, cond, List, length, is_some, IfSome, Some, None, Option, Ordering, Less, Equal, Greater, sym, refl, ap, ◌∙◌, subst, ⊎_elim, arith}
use Rattle.std.proofs.lemmas.Bool.{cases_Bool, cases_lt, cond-true, cond-false, false≢true}
use Rattle.std.specs.List.{fold, range_with_len}
use Rattle.std.specs.Option.{option_or}
use Rattle.std.specs.Ordering.{is_eq}
use Rattle.values.specs.Checked.{and_then}
use Rattle.ledger.specs.Keys.{KeyOps, OrderLaws, JoinLaws, by_order}
use Rattle.ledger.specs.Ledger.{Rising, find_row, next_row, put_row, holds, join_to, has_key}
use Rattle.ledger.specs.Ledgers.{by_order_lem, none≢some, length_put, find_put, next_put, put_put, put_swap}
use Rattle.images.specs.Arrivals.{first_at, put_one, arrived, place_of, is_fault, first_fault}
use Rattle.images.proofs.Arrived.{arrived_rising, place_holds, first_within}
use Rattle.imagestore.specs.Images.{next_with}

-- a fold over a range of numbers goes through the states that each step leads to
fold_range : {B : Type 0} (step : B → ℕ → B) (state : ℕ → B) → ((i : ℕ) → step (state i) i ≡ state (i + 1)) → (a n : ℕ) → fold step (state a) (range_with_len a n) ≡ state (a + n)
fold_range step state on a zero = ap state (omega arith)
fold_range step state on a (suc n) =
    ap (λ x. fold step x (range_with_len (a + 1) n)) (on a) ∙ (fold_range step state on (a + 1) n ∙ ap state (omega arith))

-- an index that a search gave passes its test
pub first_passes : (test : ℕ → Bool) (n i : ℕ) → first_at test n ≡ Some i → test i ≡ true
first_passes test zero i e = absurd (none≢some refl e)
first_passes test (suc n) i e = by (first_at test n) (test n) refl e (first_passes test n i)
  where
    by : (v : Option ℕ) (b : Bool) → test n ≡ b → option_or v (cond b (Some n) None) ≡ Some i → (v ≡ Some i → test i ≡ true) → test i ≡ true
    by None true q h on = let z : n ≡ i = cc in ap test (sym z) ∙ q
    by None false q h on = absurd (none≢some refl h)
    by (Some j) b q h on = on h

pub first_under : (test : ℕ → Bool) (n i : ℕ) → first_at test n ≡ Some i → i < n
first_under test n i e = subst (λ v. IfSome v (λ j. j < n)) e (first_within test n)

is_equal : (v : Ordering) → is_eq v ≡ true → v ≡ Equal
is_equal Less e = absurd (false≢true e)
is_equal Equal e = refl
is_equal Greater e = absurd (false≢true e)

-- a row of the key stands at a place
pub record Held {K R : Type 0} (o : KeyOps K R) (k : K) (v : Option R) : Type 0 where
  pub row : R
  pub here : v ≡ Some row
  pub key : o.order (o.key_of row) k ≡ Equal

pub has_key_lem : {K R : Type 0} (o : KeyOps K R) (k : K) (v : Option R) → has_key o k v ≡ true → Held o k v
has_key_lem o k None e = absurd (false≢true e)
has_key_lem o k (Some r) e = record { row = r; here = refl; key = is_equal (o.order (o.key_of r) k) e }

none_is : {X : Type 0} (v : Option X) → is_some v ≡ false → v ≡ None
none_is None e = refl
none_is (Some x) e = absurd (false≢true (sym e))

or_none : {X : Type 0} (v : Option X) → option_or v None ≡ v
or_none None = refl
or_none (Some x) = refl

module _ {K R : Type 0} (o : KeyOps K R) (laws : OrderLaws o) (join : R → R → R) (joins : JoinLaws o join) where
  -- one more row is at fault, or the ledger has one row more
  fresh_more : (v : Option R) (rows : List R) → Rising o rows → is_fault o v rows ≡ false → length (put_one o join v rows) ≡ suc (length rows)
  fresh_more None rows h e = absurd (false≢true (sym e))
  fresh_more (Some r) rows h e = length_put o laws join joins r rows h ∙ cond-false (holds o (o.key_of r) rows) (length rows) (suc (length rows)) e

  fault_less : (v : Option R) (rows : List R) → Rising o rows → is_fault o v rows ≡ true → length (put_one o join v rows) ≡ length rows
  fault_less None rows h e = refl
  fault_less (Some r) rows h e = length_put o laws join joins r rows h ∙ cond-true (holds o (o.key_of r) rows) (length rows) (suc (length rows)) e

  module _ (at : ℕ → Option R) where
    abbrev rows : ℕ → List R
    rows n = arrived o join at n

    rising : (n : ℕ) → Rising o (rows n)
    rising n = arrived_rising o laws join joins at n

    -- no row is at fault: as many keys are held as rows arrived
    pub sound_counted : (n : ℕ) → first_fault o join at n ≡ None → length (rows n) ≡ n
    sound_counted zero e = refl
    sound_counted (suc n) e = by (first_fault o join at n) (is_fault o (at n) (rows n)) refl e (sound_counted n)
      where
        by : (v : Option ℕ) (b : Bool) → is_fault o (at n) (rows n) ≡ b → option_or v (cond b (Some n) None) ≡ None → (v ≡ None → length (rows n) ≡ n) → length (rows (suc n)) ≡ suc n
        by None true q h on = absurd (none≢some h refl)
        by None false q h on = fresh_more (at n) (rows n) (rising n) q ∙ ap suc (on refl)
        by (Some i) b q h on = absurd (none≢some h refl)

    pub counted_most : (n : ℕ) → length (rows n) ≤ n
    counted_most zero = omega arith
    counted_most (suc n) =
        let h = counted_most n in
        ⊎_elim
        (λ t. let e = fault_less (at n) (rows n) (rising n) t in omega arith)
        (λ f. let e = fresh_more (at n) (rows n) (rising n) f in omega arith)
        (cases_Bool (is_fault o (at n) (rows n)))

    counted_fresh : (n : ℕ) → length (rows (suc n)) ≡ suc n → (length (rows n) ≡ n) × (is_fault o (at n) (rows n) ≡ false)
    counted_fresh n e =
        let h = counted_most n in
        ⊎_elim
        (λ t. let l = fault_less (at n) (rows n) (rising n) t in absurd (omega arith))
        (λ f. let l = fresh_more (at n) (rows n) (rising n) f in (omega arith, f))
        (cases_Bool (is_fault o (at n) (rows n)))

    -- and only then
    pub counted_sound : (n : ℕ) → length (rows n) ≡ n → first_fault o join at n ≡ None
    counted_sound zero e = refl
    counted_sound (suc n) e =
        let c = counted_fresh n e in
        ap (λ v. option_or v (cond (is_fault o (at n) (rows n)) (Some n) None)) (counted_sound n c.0) ∙ cond-false (is_fault o (at n) (rows n)) (Some n) None c.1

    -- the row of a key is the one at its place
    one_found : (k : K) (n : ℕ) (v : Option R) (p : Option ℕ) → at n ≡ v → is_fault o v (rows n) ≡ false → is_some p ≡ holds o k (rows n) → find_row o k (rows n) ≡ and_then p at
        → find_row o k (put_one o join v (rows n)) ≡ and_then (option_or p (cond (has_key o k v) (Some n) None)) at
    one_found k n None p is f s e = absurd (false≢true (sym f))
    one_found k n (Some r) p is f s e =
        by_order_lem (o.order (o.key_of r) k)
        (λ q. put q ∙ e ∙ sym (ap (λ b. and_then (option_or p (cond (is_eq b) (Some n) None)) at) q ∙ ap (λ v. and_then v at) (or_none p)))
        (λ q.
        let same = laws.identical (o.key_of r) k q in
        let none : holds o k (rows n) ≡ false = ap (λ x. holds o x (rows n)) (sym same) ∙ f in
        put q
        ∙ ap (λ v. Some (join_to join v r)) (none_is (find_row o k (rows n)) none)
        ∙ sym (ap (λ b. and_then (option_or p (cond (is_eq b) (Some n) None)) at) q ∙ ap (λ v. and_then (option_or v (Some n)) at) (none_is p (s ∙ none)) ∙ is))
        (λ q. put q ∙ e ∙ sym (ap (λ b. and_then (option_or p (cond (is_eq b) (Some n) None)) at) q ∙ ap (λ v. and_then v at) (or_none p)))
      where
        stands : Ordering → Option R
        stands v = by_order v (find_row o k (rows n)) (Some (join_to join (find_row o k (rows n)) r)) (find_row o k (rows n))

        put : {v : Ordering} → o.order (o.key_of r) k ≡ v → find_row o k (put_row o join r (rows n)) ≡ stands v
        put q = find_put o laws join joins k r (rows n) (rising n) ∙ ap stands q

    pub find_arrived : (k : K) (n : ℕ) → length (rows n) ≡ n → find_row o k (rows n) ≡ and_then (place_of o k at n) at
    find_arrived k zero e = refl
    find_arrived k (suc n) e =
        let c = counted_fresh n e in
        one_found k n (at n) (place_of o k at n) refl c.1 (place_holds o laws join joins k at n) (find_arrived k n c.0)

    -- the same, as a search tells it
    pub found_at : (k : K) (m n : ℕ) → length (rows n) ≡ n → m ≡ n → (v : Option ℕ) → v ≡ place_of o k at m → and_then v at ≡ find_row o k (rows n)
    found_at k m n e q v p = ap (λ x. and_then x at) (p ∙ ap (place_of o k at) q) ∙ sym (find_arrived k n e)

    -- the next row once one more row arrived
    pub next_more : (after : Option K) (n : ℕ) → next_row o after (rows (n + 1)) ≡ next_with o join after (next_row o after (rows n)) (at n)
    next_more after n = let on : n + 1 ≡ suc n = omega arith in ap (λ m. next_row o after (rows m)) on ∙ by (at n)
      where
        by : (v : Option R) → next_row o after (put_one o join v (rows n)) ≡ next_with o join after (next_row o after (rows n)) v
        by None = refl
        by (Some h) = next_put o laws join joins after h (rows n)

    -- the next row, as a fold over the places of n rows makes it
    pub next_folded : (after : Option K) (n : ℕ) → fold (λ best i. next_with o join after best (at i)) None (range_with_len 0 n) ≡ next_row o after (rows n)
    next_folded after n =
        let z : 0 + n ≡ n = omega arith in
        fold_range (λ best i. next_with o join after best (at i)) (λ i. next_row o after (rows i)) (λ i. sym (next_more after i)) 0 n ∙ ap (λ m. next_row o after (rows m)) z

  -- rows that are the same make the same ledger
  pub arrived_same : (at new : ℕ → Option R) (n : ℕ) → ((j : ℕ) → j < n → new j ≡ at j) → arrived o join new n ≡ arrived o join at n
  arrived_same at new zero h = refl
  arrived_same at new (suc n) h =
      ap (λ v. put_one o join v (arrived o join new n)) (h n (omega arith))
      ∙ ap (put_one o join (at n)) (arrived_same at new n (λ j l. h j (omega arith)))

  -- one more row behind n
  pub arrived_more : (at new : ℕ → Option R) (r : R) (n : ℕ) → ((j : ℕ) → j < n → new j ≡ at j) → new n ≡ Some r → arrived o join new (n + 1) ≡ put_row o join r (arrived o join at n)
  arrived_more at new r n h e =
      let on : n + 1 ≡ suc n = omega arith in
      ap (arrived o join new) on
      ∙ ap (λ v. put_one o join v (arrived o join new n)) e
      ∙ ap (put_row o join r) (arrived_same at new n h)

  put_past : (v : Option R) (r : R) (rs : List R) → put_one o join v (put_row o join r rs) ≡ put_row o join r (put_one o join v rs)
  put_past None r rs = refl
  put_past (Some s) r rs = put_swap o laws join joins s r rs

  -- the row at i joined to one of its key
  pub arrived_joined : (at new : ℕ → Option R) (r s : R) (i n : ℕ) → i < n → at i ≡ Some s → new i ≡ Some (join s r) → o.order (o.key_of s) (o.key_of r) ≡ Equal
      → ((j : ℕ) → j < n → (j ≡ i → ⊥) → new j ≡ at j) → arrived o join new n ≡ put_row o join r (arrived o join at n)
  arrived_joined at new r s i zero h e f q same = absurd (omega arith)
  arrived_joined at new r s i (suc n) h e f q same =
      ⊎_elim
      (λ l.
      ap (λ v. put_one o join v (arrived o join new n)) (same n (omega arith) (λ z. omega arith))
      ∙ ap (put_one o join (at n)) (arrived_joined at new r s i n l e f q (λ j m ne. same j (omega arith) ne))
      ∙ put_past (at n) r (arrived o join at n))
      (λ l.
      let z : n ≡ i = omega arith in
      ap (λ v. put_one o join v (arrived o join new n)) (ap new z ∙ f)
      ∙ ap (put_row o join (join s r)) (arrived_same at new n (λ j m. same j (omega arith) (λ y. omega arith)))
      ∙ sym (put_put o laws join joins s r (arrived o join at n) (laws.identical (o.key_of s) (o.key_of r) q))
      ∙ ap (put_row o join r) (ap (λ v. put_one o join v (arrived o join at n)) (sym (ap at z ∙ e))))
      (cases_lt i n)
