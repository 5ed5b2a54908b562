-- Rows in their order of arrival.
use Rattle.std.proofs.Common.{◌≡◌, ℕ, zero, suc, ◌+◌, ◌<◌, Bool, true, false, cond, List, is_some, IfSome, Some, None, Option, Ordering, sym, refl, ap, ◌∙◌, arith}
use Rattle.std.specs.List.{find, range_with_len}
use Rattle.std.specs.Option.{option_or, option_map}
use Rattle.std.specs.Ordering.{is_eq}
use Rattle.ledger.specs.Keys.{KeyOps, OrderLaws, JoinLaws, by_order}
use Rattle.ledger.specs.Ledger.{Rising, find_row, put_row, holds, join_to, has_key}
use Rattle.ledger.specs.Ledgers.{by_order_lem, put_rising, find_put}
use Rattle.images.specs.Arrivals.{first_at, put_one, arrived, place_of}

pub option_same : {X : Type 0} (v : Option X) → option_map (λ x. x) v ≡ v
option_same None = refl
option_same (Some x) = refl

-- a search for the first index that passes a test
module _ (test : ℕ → Bool) where
  -- one number more at the end of a range
  find_more : (a n : ℕ) → find test (range_with_len a (suc n)) ≡ option_or (find test (range_with_len a n)) (cond (test (a + n)) (Some (a + n)) None)
  find_more a zero = let z : a + 0 ≡ a = omega arith in rw z
  find_more a (suc n) =
      let on : a + 1 + n ≡ a + suc n = omega arith in
      past (test a) (find test (range_with_len (a + 1) (suc n))) (find test (range_with_len (a + 1) n)) (cond (test (a + suc n)) (Some (a + suc n)) None)
      (rw on at (find_more (a + 1) n))
    where
      past : (b : Bool) (v w x : Option ℕ) → v ≡ option_or w x → cond b (Some a) v ≡ option_or (cond b (Some a) w) x
      past true v w x e = refl
      past false v w x e = e

  -- what `find` gives over the numbers below n
  pub first_found : (n : ℕ) → find test (range_with_len 0 n) ≡ first_at test n
  first_found zero = refl
  first_found (suc n) =
      let z : 0 + n ≡ n = omega arith in
      (rw z at (find_more 0 n)) ∙ ap (λ v. option_or v (cond (test n) (Some n) None)) (first_found n)

  pub first_within : (n : ℕ) → IfSome (first_at test n) (λ i. i < n)
  first_within zero = tt
  first_within (suc n) = within (first_at test n) (test n) (first_within n)
    where
      within : (v : Option ℕ) (b : Bool) → IfSome v (λ i. i < n) → IfSome (option_or v (cond b (Some n) None)) (λ i. i < suc n)
      within None true h = omega arith
      within None false h = tt
      within (Some i) b h = let z : i < n = h in omega arith

module _ {K R : Type 0} (o : KeyOps K R) (laws : OrderLaws o) (join : R → R → R) (joins : JoinLaws o join) where
  pub one_rising : (v : Option R) (rows : List R) → Rising o rows → Rising o (put_one o join v rows)
  one_rising None rows h = h
  one_rising (Some r) rows h = put_rising o laws join joins r rows h

  pub arrived_rising : (at : ℕ → Option R) (n : ℕ) → Rising o (arrived o join at n)
  arrived_rising at zero = tt
  arrived_rising at (suc n) = one_rising (at n) (arrived o join at n) (arrived_rising at n)

  -- a key has a place among the rows exactly if their ledger holds it
  one_holds : (k : K) (v : Option R) (p : Option ℕ) (n : ℕ) (rows : List R) → Rising o rows → is_some p ≡ holds o k rows → is_some (option_or p (cond (has_key o k v) (Some n) None)) ≡ holds o k (put_one o join v rows)
  one_holds k None p n rows h e = same p ∙ e
    where
      same : (p : Option ℕ) → is_some (option_or p None) ≡ is_some p
      same None = refl
      same (Some i) = refl
  one_holds k (Some r) p n rows h e =
      by_order_lem (o.order (o.key_of r) k)
      (λ q. ap (λ b. is_some (option_or p (cond (is_eq b) (Some n) None))) q ∙ same p ∙ e ∙ sym (ap is_some (put ∙ ap stands q)))
      (λ q. ap (λ b. is_some (option_or p (cond (is_eq b) (Some n) None))) q ∙ some p ∙ sym (ap is_some (put ∙ ap stands q)))
      (λ q. ap (λ b. is_some (option_or p (cond (is_eq b) (Some n) None))) q ∙ same p ∙ e ∙ sym (ap is_some (put ∙ ap stands q)))
    where
      stands : Ordering → Option R
      stands v = by_order v (find_row o k rows) (Some (join_to join (find_row o k rows) r)) (find_row o k rows)

      put : find_row o k (put_row o join r rows) ≡ stands (o.order (o.key_of r) k)
      put = find_put o laws join joins k r rows h

      same : (p : Option ℕ) → is_some (option_or p None) ≡ is_some p
      same None = refl
      same (Some i) = refl

      some : (p : Option ℕ) → is_some (option_or p (Some n)) ≡ true
      some None = refl
      some (Some i) = refl

  pub place_holds : (k : K) (at : ℕ → Option R) (n : ℕ) → is_some (place_of o k at n) ≡ holds o k (arrived o join at n)
  place_holds k at zero = refl
  place_holds k at (suc n) = one_holds k (at n) (place_of o k at n) n (arrived o join at n) (arrived_rising at n) (place_holds k at n)
