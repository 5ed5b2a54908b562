-- What the laws of a row give of the ledgers that its rows make.
use Rattle.std.proofs.Common.{◌≡◌, List, [], ◌∷◌, ◌++◌, Some, None, Option, Ordering, Less, Equal, Greater, sym, refl, ap, ◌∙◌, subst}
use Rattle.ledger.specs.Keys.{KeyOps, OrderLaws, JoinLaws, by_order}
use Rattle.ledger.specs.Ledger.{AllAbove, Rising, find_row, put_row, join_to}
use Rattle.ledger.specs.Ledgers.{by_order_lem, none≢some, less≢equal, equal≢greater, less_greater, greater_less, above_all, find_above, put_rising, find_put}
use Rattle.merging.specs.Merges.{merge_rows, ledger_of}
use Rattle.merging.proofs.Reorderings.{Reordered, Reordered.none, Reordered.keep, Reordered.swap, Reordered.then}

some_is : {X : Type 0} {x y : X} → Some x ≡ Some y → x ≡ y
some_is e = cc

-- whether two keys are the same, and how they then stand
pub data Same {K R : Type 0} (o : KeyOps K R) (j k : K) : Type 0 where
  are : j ≡ k → o.order j k ≡ Equal → Same o j k
  below : (j ≡ k → ⊥) → o.order j k ≡ Less → Same o j k
  above : (j ≡ k → ⊥) → o.order j k ≡ Greater → Same o j k

module _ {K R : Type 0} (o : KeyOps K R) (laws : OrderLaws o) where
  pub sameness : (j k : K) → Same o j k
  sameness j k =
      by_order_lem (o.order j k)
      (λ l. below (λ p. less≢equal l (subst (λ x. o.order j x ≡ Equal) p (laws.same j))) l)
      (λ q. are (laws.identical j k q) q)
      (λ g. above (λ p. equal≢greater (subst (λ x. o.order j x ≡ Equal) p (laws.same j)) g) g)

  pub find_here : (x : R) (xs : List R) → find_row o (o.key_of x) (x ∷ xs) ≡ Some x
  find_here x xs = rw (laws.same (o.key_of x))

  -- two rising lists with the same finds are one list
  pub found_alike : (xs ys : List R) → Rising o xs → Rising o ys → ((k : K) → find_row o k xs ≡ find_row o k ys) → xs ≡ ys
  found_alike [] [] a b h = refl
  found_alike [] (y ∷ ys) a b h = absurd (none≢some refl (h (o.key_of y) ∙ find_here y ys))
  found_alike (x ∷ xs) [] a b h = absurd (none≢some refl (sym (h (o.key_of x)) ∙ find_here x xs))
  found_alike (x ∷ xs) (y ∷ ys) a b h = go (sameness (o.key_of x) (o.key_of y)) (λ p. found_alike xs ys a.1 b.1 (tails p))
    where
      rest : (z : R) (zs : List R) (k : K) → (o.key_of z ≡ k → ⊥) → find_row o k (z ∷ zs) ≡ find_row o k zs
      rest z zs k n = at (sameness (o.key_of z) k)
        where
          at : Same o (o.key_of z) k → find_row o k (z ∷ zs) ≡ find_row o k zs
          at (are p e) = absurd (n p)
          at (below _ e) = rw e
          at (above _ e) = rw e

      tails : o.key_of x ≡ o.key_of y → (k : K) → find_row o k xs ≡ find_row o k ys
      tails p k = at (sameness (o.key_of x) k)
        where
          other : (o.key_of x ≡ k → ⊥) → find_row o k xs ≡ find_row o k ys
          other n = sym (rest x xs k n) ∙ (h k ∙ rest y ys k (λ q. n (p ∙ q)))

          at : Same o (o.key_of x) k → find_row o k xs ≡ find_row o k ys
          at (are q e) =
              find_above o laws k xs (subst (λ z. AllAbove o z xs) q a.0)
              ∙ sym (find_above o laws k ys (subst (λ z. AllAbove o z ys) (sym p ∙ q) b.0))
          at (below n e) = other n
          at (above n e) = other n

      go : Same o (o.key_of x) (o.key_of y) → (o.key_of x ≡ o.key_of y → xs ≡ ys) → (x ∷ xs) ≡ (y ∷ ys)
      go (below n e) _ =
          let m = find_above o laws (o.key_of x) (y ∷ ys) (e, above_all o laws (o.key_of x) (o.key_of y) ys e b.0) in
          absurd (none≢some m (sym (h (o.key_of x)) ∙ find_here x xs))
      go (are p e) tail =
          let n = sym (find_here x xs) ∙ (h (o.key_of x) ∙ (ap (λ k. find_row o k (y ∷ ys)) p ∙ find_here y ys)) in
          ap (λ z. z ∷ xs) (some_is n) ∙ ap (λ l. y ∷ l) (tail p)
      go (above n e) _ =
          let f = greater_less o laws (o.key_of x) (o.key_of y) e in
          let m = find_above o laws (o.key_of y) (x ∷ xs) (f, above_all o laws (o.key_of y) (o.key_of x) xs f a.0) in
          absurd (none≢some m (h (o.key_of y) ∙ find_here y ys))

-- what stands there, if anything, has the key k
abbrev pub At : {K R : Type 0} → KeyOps K R → K → Option R → Type 0
At o k None = Unit {0}
At o k (Some a) = o.key_of a ≡ k

-- the join of what two places hold
abbrev pub meet : {R : Type 0} → (R → R → R) → Option R → Option R → Option R
meet join None v = v
meet join (Some a) None = Some a
meet join (Some a) (Some b) = Some (join a b)

-- a row, if its key is k
abbrev pub only : {K R : Type 0} → KeyOps K R → K → R → Option R
only o k r = by_order (o.order (o.key_of r) k) None (Some r) None

-- the join of the rows whose key is k
abbrev pub joined_at : {K R : Type 0} → KeyOps K R → (R → R → R) → K → List R → Option R
joined_at o join k [] = None
joined_at o join k (r ∷ rs) = meet join (only o k r) (joined_at o join k rs)

pub meet_none : {R : Type 0} (join : R → R → R) (v : Option R) → meet join v None ≡ v
meet_none join None = refl
meet_none join (Some a) = refl

-- one row more at the end
pub merge_push : {K R : Type 0} (o : KeyOps K R) (join : R → R → R) (l rs : List R) (r : R) → merge_rows o join l (rs ++ (r ∷ [])) ≡ put_row o join r (merge_rows o join l rs)
merge_push o join l [] r = refl
merge_push o join l (x ∷ rs) r = merge_push o join (put_row o join x l) rs r

module _ {K R : Type 0} (o : KeyOps K R) (laws : OrderLaws o) (join : R → R → R) (joins : JoinLaws o join) where
  at_meet : (k : K) (v w : Option R) → At o k v → At o k w → At o k (meet join v w)
  at_meet k None w a b = b
  at_meet k (Some x) None a b = a
  at_meet k (Some x) (Some y) a b = joins.keeps x y (a ∙ sym b) ∙ a

  at_only : (k : K) (r : R) → At o k (only o k r)
  at_only k r = go (sameness o laws (o.key_of r) k)
    where
      go : Same o (o.key_of r) k → At o k (only o k r)
      go (are p e) = rw e p
      go (below n e) = rw e tt
      go (above n e) = rw e tt

  pub at_joined : (k : K) (rs : List R) → At o k (joined_at o join k rs)
  at_joined k [] = tt
  at_joined k (r ∷ rs) = at_meet k (only o k r) (joined_at o join k rs) (at_only k r) (at_joined k rs)

  pub at_find : (k : K) (l : List R) → At o k (find_row o k l)
  at_find k [] = tt
  at_find k (x ∷ xs) = go (sameness o laws (o.key_of x) k) (at_find k xs)
    where
      go : Same o (o.key_of x) k → At o k (find_row o k xs) → At o k (find_row o k (x ∷ xs))
      go (are p e) ih = rw e p
      go (below n e) ih = rw e ih
      go (above n e) ih = rw e ih

  meet_turned : (k : K) (v w : Option R) → At o k v → At o k w → meet join v w ≡ meet join w v
  meet_turned k None w a b = sym (meet_none join w)
  meet_turned k (Some x) None a b = refl
  meet_turned k (Some x) (Some y) a b = ap Some (joins.commutes x y (a ∙ sym b))

  meet_grouped : (k : K) (u v w : Option R) → At o k u → At o k v → At o k w → meet join (meet join u v) w ≡ meet join u (meet join v w)
  meet_grouped k None v w a b c = refl
  meet_grouped k (Some x) None w a b c = refl
  meet_grouped k (Some x) (Some y) None a b c = refl
  meet_grouped k (Some x) (Some y) (Some z) a b c = ap Some (joins.associates x y z (a ∙ sym b) (b ∙ sym c))

  pub rising_merge : (l rs : List R) → Rising o l → Rising o (merge_rows o join l rs)
  rising_merge l [] h = h
  rising_merge l (r ∷ rs) h = rising_merge (put_row o join r l) rs (put_rising o laws join joins r l h)

  pub rising_ledger : (rs : List R) → Rising o (ledger_of o join rs)
  rising_ledger rs = rising_merge [] rs tt

  -- what a put leaves at each key
  pub find_met : (k : K) (r : R) (l : List R) → Rising o l → find_row o k (put_row o join r l) ≡ meet join (find_row o k l) (only o k r)
  find_met k r l h = find_put o laws join joins k r l h ∙ go (find_row o k l) (o.order (o.key_of r) k)
    where
      go : (v : Option R) (s : Ordering) → by_order s v (Some (join_to join v r)) v ≡ meet join v (by_order s None (Some r) None)
      go v Less = sym (meet_none join v)
      go None Equal = refl
      go (Some x) Equal = refl
      go v Greater = sym (meet_none join v)

  pub find_merge : (k : K) (l rs : List R) → Rising o l → find_row o k (merge_rows o join l rs) ≡ meet join (find_row o k l) (joined_at o join k rs)
  find_merge k l [] h = sym (meet_none join (find_row o k l))
  find_merge k l (r ∷ rs) h =
      find_merge k (put_row o join r l) rs (put_rising o laws join joins r l h)
      ∙ (ap (λ v. meet join v (joined_at o join k rs)) (find_met k r l h)
      ∙ meet_grouped k (find_row o k l) (only o k r) (joined_at o join k rs) (at_find k l) (at_only k r) (at_joined k rs))

  -- a ledger holds at each key the join of the rows of that key
  pub find_ledger : (k : K) (rs : List R) → find_row o k (ledger_of o join rs) ≡ joined_at o join k rs
  find_ledger k rs = find_merge k [] rs tt

  joined_above : (k : K) (l : List R) → AllAbove o k l → joined_at o join k l ≡ None
  joined_above k [] h = refl
  joined_above k (x ∷ xs) h = rw (less_greater o laws k (o.key_of x) h.0) (joined_above k xs h.1)

  pub joined_rising : (k : K) (l : List R) → Rising o l → joined_at o join k l ≡ find_row o k l
  joined_rising k [] h = refl
  joined_rising k (x ∷ xs) h = go (sameness o laws (o.key_of x) k) (joined_rising k xs h.1)
    where
      go : Same o (o.key_of x) k → joined_at o join k xs ≡ find_row o k xs → joined_at o join k (x ∷ xs) ≡ find_row o k (x ∷ xs)
      go (are p e) ih = rw (e, joined_above k xs (subst (λ z. AllAbove o z xs) p h.0))
      go (below n e) ih = rw e ih
      go (above n e) ih = rw e ih

  pub joined_append : (k : K) (xs ys : List R) → joined_at o join k (xs ++ ys) ≡ meet join (joined_at o join k xs) (joined_at o join k ys)
  joined_append k [] ys = refl
  joined_append k (x ∷ xs) ys =
      ap (meet join (only o k x)) (joined_append k xs ys)
      ∙ sym (meet_grouped k (only o k x) (joined_at o join k xs) (joined_at o join k ys) (at_only k x) (at_joined k xs) (at_joined k ys))

  pub joined_reordered : (k : K) {xs ys : List R} → Reordered xs ys → joined_at o join k xs ≡ joined_at o join k ys
  joined_reordered k none = refl
  joined_reordered k (keep x h) = ap (meet join (only o k x)) (joined_reordered k h)
  joined_reordered k (swap x y xs) =
      let a = at_only k x in
      let b = at_only k y in
      let c = at_joined k xs in
      sym (meet_grouped k (only o k x) (only o k y) (joined_at o join k xs) a b c)
      ∙ (ap (λ v. meet join v (joined_at o join k xs)) (meet_turned k (only o k x) (only o k y) a b)
      ∙ meet_grouped k (only o k y) (only o k x) (joined_at o join k xs) b a c)
  joined_reordered k (then h i) = joined_reordered k h ∙ joined_reordered k i

  pub ledger_reordered : (xs ys : List R) → Reordered xs ys → ledger_of o join xs ≡ ledger_of o join ys
  ledger_reordered xs ys h =
      found_alike o laws (ledger_of o join xs) (ledger_of o join ys) (rising_ledger xs) (rising_ledger ys)
      (λ k. find_ledger k xs ∙ (joined_reordered k h ∙ sym (find_ledger k ys)))

  pub ledger_dealt : (xs ys : List R) → merge_rows o join (ledger_of o join xs) (ledger_of o join ys) ≡ ledger_of o join (xs ++ ys)
  ledger_dealt xs ys =
      found_alike o laws (merge_rows o join (ledger_of o join xs) (ledger_of o join ys)) (ledger_of o join (xs ++ ys))
      (rising_merge (ledger_of o join xs) (ledger_of o join ys) (rising_ledger xs)) (rising_ledger (xs ++ ys))
      (λ k. find_merge k (ledger_of o join xs) (ledger_of o join ys) (rising_ledger xs)
      ∙ (ap (λ v. meet join v (joined_at o join k (ledger_of o join ys))) (find_ledger k xs)
      ∙ (ap (meet join (joined_at o join k xs)) (joined_rising k (ledger_of o join ys) (rising_ledger ys) ∙ find_ledger k ys)
      ∙ (sym (joined_append k xs ys)
      ∙ sym (find_ledger k (xs ++ ys))))))
