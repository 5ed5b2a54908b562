-- The laws of ledgers, for every row type whose keys and join are lawful.
use Rattle.std.specs.Prelude.{◌≡◌, ℕ, zero, suc, ◌<◌, ◌≤◌, Bool, true, false, cond, List, [], ◌∷◌, ◌++◌, length, take, drop, is_some, Some, None, Option, ◌≢◌, nat_lt, slice_set, refl}
use Rattle.std.specs.declared.cmp.Ordering.TheVariants.{Less, Equal, Greater}
use Rattle.std.specs.declared.cmp.Ordering.{Ordering}
use Rattle.std.proofs.Common.{sym, ap, ◌∙◌, subst, ⊎_elim, arith}
use Rattle.std.specs.List.{slice_get}
use Rattle.std.specs.Ordering.{is_lt, ordering_reverse}
use Rattle.std.proofs.lemmas.Bool.{cases_Bool, cond-true, cond-false, false≢true, or_left, or_cases, ltb-true, both_ways}
use Rattle.ledger.specs.Keys.{KeyOps, OrderLaws, JoinLaws, by_order}
use Rattle.ledger.specs.Ledger.{Ledger, AllAbove, Rising, find_row, is_next, next_row, put_row, holds, position, join_to, earlier, takes, with_rows, put_in, Kept}

pub by_order_lem : {G : Type 0} (v : Ordering) → (v ≡ Less → G) → (v ≡ Equal → G) → (v ≡ Greater → G) → G
by_order_lem Less l e g = l refl
by_order_lem Equal l e g = e refl
by_order_lem Greater l e g = g refl

pub less≢equal : {v : Ordering} → v ≡ Less → v ≢ Equal
less≢equal p q = let z : ◌≡◌ {A = ℕ} 0 1 = cc in omega arith

pub less≢greater : {v : Ordering} → v ≡ Less → v ≢ Greater
less≢greater p q = let z : ◌≡◌ {A = ℕ} 0 1 = cc in omega arith

pub equal≢greater : {v : Ordering} → v ≡ Equal → v ≢ Greater
equal≢greater p q = let z : ◌≡◌ {A = ℕ} 0 1 = cc in omega arith

pub none≢some : {X : Type 0} {v : Option X} {x : X} → v ≡ None → v ≢ Some x
none≢some p q = let z : ◌≡◌ {A = ℕ} 0 1 = cc in omega arith

some_is : {X : Type 0} {x y : X} → Some x ≡ Some y → x ≡ y
some_is e = cc

module _ {K R : Type 0} (o : KeyOps K R) (laws : OrderLaws o) where
  pub less_greater : (a b : K) → o.order a b ≡ Less → o.order b a ≡ Greater
  less_greater a b e = laws.flipped a b ∙ ap ordering_reverse e

  pub greater_less : (a b : K) → o.order a b ≡ Greater → o.order b a ≡ Less
  greater_less a b e = laws.flipped a b ∙ ap ordering_reverse e

  pub equal_equal : (a b : K) → o.order a b ≡ Equal → o.order b a ≡ Equal
  equal_equal a b e = laws.flipped a b ∙ ap ordering_reverse e

  -- a key below one that is below all keys of a list
  pub above_all : (j k : K) (rows : List R) → o.order j k ≡ Less → AllAbove o k rows → AllAbove o j rows
  above_all j k [] e h = tt
  above_all j k (r ∷ rs) e h = (laws.transitive j k (o.key_of r) e h.0, above_all j k rs e h.1)

  pub above_at : (k : K) (rows : List R) (i : ℕ) (r : R) → AllAbove o k rows → slice_get rows i ≡ Some r → o.order k (o.key_of r) ≡ Less
  above_at k [] i r h e = absurd (none≢some refl e)
  above_at k (s ∷ rs) zero r h e = subst (λ x. o.order k (o.key_of x) ≡ Less) (some_is e) h.0
  above_at k (s ∷ rs) (suc i) r h e = above_at k rs i r h.1 e

  pub rising_at : (rows : List R) (i j : ℕ) (r s : R) → i < j → Rising o rows → slice_get rows i ≡ Some r → slice_get rows j ≡ Some s → o.order (o.key_of r) (o.key_of s) ≡ Less
  rising_at [] i j r s l h e f = absurd (none≢some refl e)
  rising_at (x ∷ xs) i zero r s l h e f = absurd (omega arith)
  rising_at (x ∷ xs) zero (suc j) r s l h e f = subst (λ y. o.order (o.key_of y) (o.key_of s) ≡ Less) (some_is e) (above_at (o.key_of x) xs j s h.0 f)
  rising_at (x ∷ xs) (suc i) (suc j) r s l h e f = rising_at xs i j r s (omega arith) h.1 e f

  pub find_above : (k : K) (rows : List R) → AllAbove o k rows → find_row o k rows ≡ None
  find_above k [] h = refl
  find_above k (r ∷ rs) h = rw (less_greater k (o.key_of r) h.0) (find_above k rs h.1)

  pub next_above : (k : K) (rows : List R) → AllAbove o k rows → next_row o (Some k) rows ≡ slice_get rows 0
  next_above k [] h = refl
  next_above k (r ∷ rs) h = rw h.0

  pub position_le : (k : K) (rows : List R) → position o k rows ≤ length rows
  position_le k [] = omega arith
  position_le k (r ∷ rs) =
      by_order_lem (o.order (o.key_of r) k)
      (λ e. rw e (let h = position_le k rs in omega arith))
      (λ e. rw e (omega arith))
      (λ e. rw e (omega arith))

  -- a row whose key is below k stands in front of k's place
  pub position_after : (k : K) (rows : List R) (i : ℕ) (r : R) → Rising o rows → slice_get rows i ≡ Some r → o.order (o.key_of r) k ≡ Less → i < position o k rows
  position_after k [] i r h e b = absurd (none≢some refl e)
  position_after k (s ∷ rs) zero r h e b =
      let here : o.order (o.key_of s) k ≡ Less = subst (λ x. o.order (o.key_of x) k ≡ Less) (sym (some_is e)) b in
      rw here (omega arith)
  position_after k (s ∷ rs) (suc i) r h e b =
      let here = laws.transitive (o.key_of s) (o.key_of r) k (above_at (o.key_of s) rs i r h.0 e) b in
      let rest = position_after k rs i r h.1 e b in
      rw here (omega arith)

  -- any other row does not
  pub position_upto : (k : K) (rows : List R) (i : ℕ) (r : R) → slice_get rows i ≡ Some r → (o.order (o.key_of r) k ≢ Less) → position o k rows ≤ i
  position_upto k [] i r e b = absurd (none≢some refl e)
  position_upto k (s ∷ rs) zero r e b =
      by_order_lem (o.order (o.key_of s) k)
      (λ l. absurd (b (subst (λ x. o.order (o.key_of x) k ≡ Less) (some_is e) l)))
      (λ q. rw q (omega arith))
      (λ q. rw q (omega arith))
  position_upto k (s ∷ rs) (suc i) r e b =
      by_order_lem (o.order (o.key_of s) k)
      (λ l. rw l (let rest = position_upto k rs i r e b in omega arith))
      (λ q. rw q (omega arith))
      (λ q. rw q (omega arith))

  pub find_at : (k : K) (rows : List R) (i : ℕ) (r : R) → Rising o rows → slice_get rows i ≡ Some r → o.order (o.key_of r) k ≡ Equal → find_row o k rows ≡ Some r
  find_at k [] i r h e b = absurd (none≢some refl e)
  find_at k (s ∷ rs) zero r h e b =
      let here : o.order (o.key_of s) k ≡ Equal = subst (λ x. o.order (o.key_of x) k ≡ Equal) (sym (some_is e)) b in
      rw here e
  find_at k (s ∷ rs) (suc i) r h e b =
      let here : o.order (o.key_of s) k ≡ Less = subst (λ x. o.order (o.key_of s) x ≡ Less) (laws.identical (o.key_of r) k b) (above_at (o.key_of s) rs i r h.0 e) in
      rw here (find_at k rs i r h.1 e b)

  pub position_at : (k : K) (rows : List R) (i : ℕ) (r : R) → Rising o rows → slice_get rows i ≡ Some r → o.order (o.key_of r) k ≡ Equal → position o k rows ≡ i
  position_at k [] i r h e b = absurd (none≢some refl e)
  position_at k (s ∷ rs) zero r h e b =
      let here : o.order (o.key_of s) k ≡ Equal = subst (λ x. o.order (o.key_of x) k ≡ Equal) (sym (some_is e)) b in
      rw here
  position_at k (s ∷ rs) (suc i) r h e b =
      let here : o.order (o.key_of s) k ≡ Less = subst (λ x. o.order (o.key_of s) x ≡ Less) (laws.identical (o.key_of r) k b) (above_at (o.key_of s) rs i r h.0 e) in
      rw here (ap suc (position_at k rs i r h.1 e b))

  -- what stands at k's place has a larger key, or nothing stands there
  pub find_none : (k : K) (rows : List R) → Rising o rows → ((r : R) → slice_get rows (position o k rows) ≡ Some r → o.order (o.key_of r) k ≡ Greater) → find_row o k rows ≡ None
  find_none k [] h b = refl
  find_none k (s ∷ rs) h b =
      by_order_lem (o.order (o.key_of s) k)
      (λ l. rw l (find_none k rs h.1 (λ r e. b r (rw l e))))
      (λ q. absurd (equal≢greater q (b s (rw q))))
      (λ q. rw q (find_above k rs (above_all k (o.key_of s) rs (greater_less (o.key_of s) k q) h.0)))

  pub find_key : (k : K) (rows : List R) (r : R) → find_row o k rows ≡ Some r → o.order (o.key_of r) k ≡ Equal
  find_key k [] r e = absurd (none≢some refl e)
  find_key k (s ∷ rs) r e =
      by_order_lem (o.order (o.key_of s) k)
      (λ l. find_key k rs r (rw l at e))
      (λ q. subst (λ x. o.order (o.key_of x) k ≡ Equal) (some_is (rw q at e)) q)
      (λ g. find_key k rs r (rw g at e))

  pub nth_found : (k : K) (rows : List R) → Rising o rows → holds o k rows ≡ true → slice_get rows (position o k rows) ≡ find_row o k rows
  nth_found k [] h e = absurd (false≢true e)
  nth_found k (s ∷ rs) h e =
      by_order_lem (o.order (o.key_of s) k)
      (λ l. rw l (nth_found k rs h.1 (rw l at e)))
      (λ q. rw q)
      (λ q.
      let none = find_above k rs (above_all k (o.key_of s) rs (greater_less (o.key_of s) k q) h.0) in
      absurd (false≢true (sym (ap is_some none) ∙ (rw q at e))))

  pub next_first : (after : Option K) (rows : List R) → ((k : K) → after ≢ Some k) → next_row o after rows ≡ slice_get rows 0
  next_first None [] h = refl
  next_first None (r ∷ rs) h = refl
  next_first (Some k) rows h = absurd (h k refl)

  pub next_at : (k : K) (rows : List R) → Rising o rows → next_row o (Some k) rows ≡ slice_get rows (cond (holds o k rows) (suc (position o k rows)) (position o k rows))
  next_at k [] h = refl
  next_at k (s ∷ rs) h =
      by_order_lem (o.order (o.key_of s) k)
      (λ l. rw (l, less_greater (o.key_of s) k l) (next_at k rs h.1 ∙ past (holds o k rs)))
      (λ q. rw (q, equal_equal (o.key_of s) k q) (next_above k rs (subst (λ x. AllAbove o x rs) (laws.identical (o.key_of s) k q) h.0)))
      (λ q. rw (q, greater_less (o.key_of s) k q, find_above k rs (above_all k (o.key_of s) rs (greater_less (o.key_of s) k q) h.0)))
    where
      past : (b : Bool) → slice_get rs (cond b (suc (position o k rs)) (position o k rs)) ≡ slice_get (s ∷ rs) (cond b (suc (suc (position o k rs))) (suc (position o k rs)))
      past true = refl
      past false = refl

  module _ (join : R → R → R) where
    -- a row of the key is held at i
    pub put_held : (r : R) (rows : List R) (i : ℕ) (s : R) → Rising o rows → slice_get rows i ≡ Some s → o.order (o.key_of s) (o.key_of r) ≡ Equal → put_row o join r rows ≡ slice_set rows i (join s r)
    put_held r [] i s h e b = absurd (none≢some refl e)
    put_held r (t ∷ rs) zero s h e b =
        let here : o.order (o.key_of t) (o.key_of r) ≡ Equal = subst (λ x. o.order (o.key_of x) (o.key_of r) ≡ Equal) (sym (some_is e)) b in
        rw here (ap (λ x. join x r ∷ rs) (some_is e))
    put_held r (t ∷ rs) (suc i) s h e b =
        let here : o.order (o.key_of t) (o.key_of r) ≡ Less = subst (λ x. o.order (o.key_of t) x ≡ Less) (laws.identical (o.key_of s) (o.key_of r) b) (above_at (o.key_of t) rs i s h.0 e) in
        rw here (ap (λ x. t ∷ x) (put_held r rs i s h.1 e b))

    -- no row of the key is held
    pub put_new : (r : R) (rows : List R) → find_row o (o.key_of r) rows ≡ None → put_row o join r rows ≡ take (position o (o.key_of r) rows) rows ++ (r ∷ drop (position o (o.key_of r) rows) rows)
    put_new r [] e = refl
    put_new r (s ∷ rs) e =
        by_order_lem (o.order (o.key_of s) (o.key_of r))
        (λ l. rw l (ap (λ x. s ∷ x) (put_new r rs (rw l at e))))
        (λ q. absurd (none≢some (rw q at e) refl))
        (λ q. rw q)

  module _ (join : R → R → R) (joins : JoinLaws o join) where
    -- a join of rows of one key has that key
    key_joined : (s r : R) → o.order (o.key_of s) (o.key_of r) ≡ Equal → o.key_of (join s r) ≡ o.key_of s
    key_joined s r q = joins.keeps s r (laws.identical (o.key_of s) (o.key_of r) q)

    pub put_above : (k : K) (r : R) (rows : List R) → o.order k (o.key_of r) ≡ Less → AllAbove o k rows → AllAbove o k (put_row o join r rows)
    put_above k r [] e h = (e, tt)
    put_above k r (s ∷ rs) e h =
        by_order_lem (o.order (o.key_of s) (o.key_of r))
        (λ l. rw l (h.0, put_above k r rs e h.1))
        (λ q. rw q (rw (key_joined s r q) h.0, h.1))
        (λ q. rw q (e, h))

    pub put_rising : (r : R) (rows : List R) → Rising o rows → Rising o (put_row o join r rows)
    put_rising r [] h = (tt, tt)
    put_rising r (s ∷ rs) h =
        by_order_lem (o.order (o.key_of s) (o.key_of r))
        (λ l. rw l (put_above (o.key_of s) r rs l h.0, put_rising r rs h.1))
        (λ q. rw q (rw (key_joined s r q) h.0, h.1))
        (λ q.
        let b = greater_less (o.key_of s) (o.key_of r) q in
        rw q ((b, above_all (o.key_of r) (o.key_of s) rs b h.0), h))

    pub length_put : (r : R) (rows : List R) → Rising o rows → length (put_row o join r rows) ≡ cond (holds o (o.key_of r) rows) (length rows) (suc (length rows))
    length_put r [] h = refl
    length_put r (s ∷ rs) h =
        by_order_lem (o.order (o.key_of s) (o.key_of r))
        (λ l. rw l (ap suc (length_put r rs h.1) ∙ past (holds o (o.key_of r) rs)))
        (λ q. rw q)
        (λ q. rw (q, find_above (o.key_of r) rs (above_all (o.key_of r) (o.key_of s) rs (greater_less (o.key_of s) (o.key_of r) q) h.0)))
      where
        past : (b : Bool) → suc (cond b (length rs) (suc (length rs))) ≡ cond b (suc (length rs)) (suc (suc (length rs)))
        past true = refl
        past false = refl

    -- a find after a put: the row put, joined to what was held, at its key, and nothing new elsewhere
    pub find_put : (k : K) (r : R) (rows : List R) → Rising o rows → find_row o k (put_row o join r rows) ≡ by_order (o.order (o.key_of r) k) (find_row o k rows) (Some (join_to join (find_row o k rows) r)) (find_row o k rows)
    find_put k r [] h = refl
    find_put k r (s ∷ rs) h =
        by_order_lem (o.order (o.key_of s) (o.key_of r))
        (λ l. rw l (
        by_order_lem (o.order (o.key_of s) k)
        (λ m. rw m (find_put k r rs h.1))
        (λ m.
        let rk : o.order (o.key_of r) k ≡ Greater = subst (λ x. o.order (o.key_of r) x ≡ Greater) (laws.identical (o.key_of s) k m) (less_greater (o.key_of s) (o.key_of r) l) in
        rw (m, rk))
        (λ m. rw m (find_put k r rs h.1))))
        (λ q.
        let same = laws.identical (o.key_of s) (o.key_of r) q in
        rw (q, key_joined s r q) (
        by_order_lem (o.order (o.key_of r) k)
        (λ m. rw (same, m))
        (λ m. rw (same, m))
        (λ m. rw (same, m))))
        (λ q.
        rw q (
        by_order_lem (o.order (o.key_of r) k)
        (λ m. rw m)
        (λ m.
        let rs-above = above_all (o.key_of r) (o.key_of s) rs (greater_less (o.key_of s) (o.key_of r) q) h.0 in
        let rk = laws.identical (o.key_of r) k m in
        let sk : o.order (o.key_of s) k ≡ Greater = subst (λ x. o.order (o.key_of s) x ≡ Greater) rk q in
        rw (m, sk, find_above k rs (subst (λ x. AllAbove o x rs) rk rs-above)))
        (λ m. rw m)))

    -- two puts of one key are one put of the joined row
    pub put_put : (a b : R) (rows : List R) → o.key_of a ≡ o.key_of b → put_row o join b (put_row o join a rows) ≡ put_row o join (join a b) rows
    put_put a b [] e = rw (e, laws.same (o.key_of b))
    put_put a b (s ∷ rs) e =
        rw (joins.keeps a b e) (
        by_order_lem (o.order (o.key_of s) (o.key_of a))
        (λ l.
        let m : o.order (o.key_of s) (o.key_of b) ≡ Less = subst (λ x. o.order (o.key_of s) x ≡ Less) e l in
        rw (l, m) (ap (λ x. s ∷ x) (put_put a b rs e)))
        (λ q.
        let m : o.order (o.key_of s) (o.key_of b) ≡ Equal = subst (λ x. o.order (o.key_of s) x ≡ Equal) e q in
        rw (q, key_joined s a q, m) (ap (λ x. x ∷ rs) (joins.associates s a b (laws.identical (o.key_of s) (o.key_of a) q) e)))
        (λ q.
        let m : o.order (o.key_of a) (o.key_of b) ≡ Equal = subst (λ x. o.order (o.key_of a) x ≡ Equal) e (laws.same (o.key_of a)) in
        rw (q, m)))

    put_swap_less : (a b : R) (rows : List R) → o.order (o.key_of a) (o.key_of b) ≡ Less → put_row o join a (put_row o join b rows) ≡ put_row o join b (put_row o join a rows)
    put_swap_less a b [] e = rw (e, less_greater (o.key_of a) (o.key_of b) e)
    put_swap_less a b (s ∷ rs) e =
        by_order_lem (o.order (o.key_of s) (o.key_of b))
        (λ l.
        by_order_lem (o.order (o.key_of s) (o.key_of a))
        (λ m. simp (l, m) (ap (λ x. s ∷ x) (put_swap_less a b rs e)))
        (λ m. simp (l, m, key_joined s a m))
        (λ m. simp (l, m, e)))
        (λ q.
        let m : o.order (o.key_of s) (o.key_of a) ≡ Greater = subst (λ x. o.order x (o.key_of a) ≡ Greater) (sym (laws.identical (o.key_of s) (o.key_of b) q)) (less_greater (o.key_of a) (o.key_of b) e) in
        simp (q, key_joined s b q, m, e))
        (λ q.
        let m = less_greater (o.key_of a) (o.key_of s) (laws.transitive (o.key_of a) (o.key_of b) (o.key_of s) e (greater_less (o.key_of s) (o.key_of b) q)) in
        simp (q, m, less_greater (o.key_of a) (o.key_of b) e, e))

    -- the order of puts does not matter
    pub put_swap : (a b : R) (rows : List R) → put_row o join a (put_row o join b rows) ≡ put_row o join b (put_row o join a rows)
    put_swap a b rows =
        by_order_lem (o.order (o.key_of a) (o.key_of b))
        (λ l. put_swap_less a b rows l)
        (λ q.
        let same = laws.identical (o.key_of a) (o.key_of b) q in
        put_put b a rows (sym same) ∙ ap (λ x. put_row o join x rows) (joins.commutes b a (sym same)) ∙ sym (put_put a b rows same))
        (λ g. sym (put_swap_less b a rows (greater_less (o.key_of a) (o.key_of b) g)))

    next_up : (after : Option K) (j k : K) → is_next o after j ≡ true → o.order j k ≡ Less → is_next o after k ≡ true
    next_up None j k t e = refl
    next_up (Some from) j k t e = ap is_lt (laws.transitive from j k (is_less (o.order from j) t) e)
      where
        is_less : (v : Ordering) → is_lt v ≡ true → v ≡ Less
        is_less Less t = refl
        is_less Equal t = let z : ◌≡◌ {A = ℕ} 0 1 = cc in absurd (omega arith)
        is_less Greater t = let z : ◌≡◌ {A = ℕ} 0 1 = cc in absurd (omega arith)

    next_yes : (after : Option K) (x : R) (xs : List R) → is_next o after (o.key_of x) ≡ true → next_row o after (x ∷ xs) ≡ Some x
    next_yes after x xs t = cond-true (is_next o after (o.key_of x)) (Some x) (next_row o after xs) t

    next_no : (after : Option K) (x : R) (xs : List R) → is_next o after (o.key_of x) ≡ false → next_row o after (x ∷ xs) ≡ next_row o after xs
    next_no after x xs f = cond-false (is_next o after (o.key_of x)) (Some x) (next_row o after xs) f

    -- the next row after a put
    pub next_put : (after : Option K) (h : R) (rows : List R) → next_row o after (put_row o join h rows) ≡ cond (is_next o after (o.key_of h)) (earlier o join h (next_row o after rows)) (next_row o after rows)
    next_put after h [] = refl
    next_put after h (s ∷ rs) =
        by_order_lem (o.order (o.key_of s) (o.key_of h))
        (λ l.
        ap (λ v. next_row o after (by_order v (s ∷ put_row o join h rs) (join s h ∷ rs) (h ∷ (s ∷ rs)))) l ∙
        ⊎_elim
        (λ t.
        next_yes after s (put_row o join h rs) t
        ∙ sym (with_h (next_up after (o.key_of s) (o.key_of h) t l) ∙ ap (earlier o join h) (next_yes after s rs t) ∙ ap (λ v. by_order v (Some s) (Some (join s h)) (Some h)) l))
        (λ f. next_no after s (put_row o join h rs) f ∙ next_put after h rs ∙ sym (ap answer (next_no after s rs f)))
        (cases_Bool (is_next o after (o.key_of s))))
        (λ q.
        let same = laws.identical (o.key_of s) (o.key_of h) q in
        let key = key_joined s h q ∙ same in
        ap (λ v. next_row o after (by_order v (s ∷ put_row o join h rs) (join s h ∷ rs) (h ∷ (s ∷ rs)))) q ∙
        ⊎_elim
        (λ t.
        next_yes after (join s h) rs (ap (is_next o after) key ∙ t)
        ∙ sym (with_h t ∙ ap (earlier o join h) (next_yes after s rs (ap (is_next o after) same ∙ t)) ∙ ap (λ v. by_order v (Some s) (Some (join s h)) (Some h)) q))
        (λ f.
        next_no after (join s h) rs (ap (is_next o after) key ∙ f)
        ∙ sym (without_h f ∙ next_no after s rs (ap (is_next o after) same ∙ f)))
        (cases_Bool (is_next o after (o.key_of h))))
        (λ g.
        ap (λ v. next_row o after (by_order v (s ∷ put_row o join h rs) (join s h ∷ rs) (h ∷ (s ∷ rs)))) g ∙
        ⊎_elim
        (λ t.
        next_yes after h (s ∷ rs) t
        ∙ sym (with_h t ∙ ap (earlier o join h) (next_yes after s rs (next_up after (o.key_of h) (o.key_of s) t (greater_less (o.key_of s) (o.key_of h) g))) ∙ ap (λ v. by_order v (Some s) (Some (join s h)) (Some h)) g))
        (λ f. next_no after h (s ∷ rs) f ∙ sym (without_h f))
        (cases_Bool (is_next o after (o.key_of h))))
      where
        answer : Option R → Option R
        answer x = cond (is_next o after (o.key_of h)) (earlier o join h x) x

        with_h : is_next o after (o.key_of h) ≡ true → cond (is_next o after (o.key_of h)) (earlier o join h (next_row o after (s ∷ rs))) (next_row o after (s ∷ rs)) ≡ earlier o join h (next_row o after (s ∷ rs))
        with_h t = cond-true (is_next o after (o.key_of h)) (earlier o join h (next_row o after (s ∷ rs))) (next_row o after (s ∷ rs)) t

        without_h : is_next o after (o.key_of h) ≡ false → cond (is_next o after (o.key_of h)) (earlier o join h (next_row o after (s ∷ rs))) (next_row o after (s ∷ rs)) ≡ next_row o after (s ∷ rs)
        without_h f = cond-false (is_next o after (o.key_of h)) (earlier o join h (next_row o after (s ∷ rs))) (next_row o after (s ∷ rs)) f

-- a put that is taken, and one that is refused
pub put_taken : {K R : Type 0} (o : KeyOps K R) (join : R → R → R) (r : R) (l : Ledger R) → takes o r l ≡ true → put_in o join r l ≡ with_rows l (put_row o join r l.rows)
put_taken o join r l t = cond-true (takes o r l) (with_rows l (put_row o join r l.rows)) l t

pub put_refused : {K R : Type 0} (o : KeyOps K R) (join : R → R → R) (r : R) (l : Ledger R) → takes o r l ≡ false → put_in o join r l ≡ l
put_refused o join r l f = cond-false (takes o r l) (with_rows l (put_row o join r l.rows)) l f

module _ {K R : Type 0} (o : KeyOps K R) (laws : OrderLaws o) (join : R → R → R) (joins : JoinLaws o join) where
  -- a row that is taken leaves the rows within the most
  pub length_taken : (r : R) (l : Ledger R) → Rising o l.rows → takes o r l ≡ true → length l.rows ≤ l.most → length (put_row o join r l.rows) ≤ l.most
  length_taken r l rising t w =
      let held = holds o (o.key_of r) l.rows in
      ⊎_elim
      (λ y. let e = length_put o laws join joins r l.rows rising ∙ cond-true held (length l.rows) (suc (length l.rows)) y in omega arith)
      (λ n.
      let e = length_put o laws join joins r l.rows rising ∙ cond-false held (length l.rows) (suc (length l.rows)) n in
      let h : length l.rows < l.most = ⊎_elim (λ y. absurd (both_ways held n y)) (λ y. ltb-true (length l.rows) l.most y) (or_cases held (nat_lt (length l.rows) l.most) t) in
      omega arith)
      (cases_Bool held)

  -- a row of a key that was put is taken
  pub takes_joined : (h r : R) (rows : List R) (most : ℕ) → Rising o rows → o.order (o.key_of h) (o.key_of r) ≡ Equal → takes o r (record { rows = put_row o join h rows; most = most }) ≡ true
  takes_joined h r rows most rising q =
      or_left (holds o (o.key_of r) (put_row o join h rows)) (nat_lt (length (put_row o join h rows)) most)
      (ap is_some (find_put o laws join joins (o.key_of r) h rows rising ∙ ap (λ y. by_order y (find_row o (o.key_of r) rows) (Some (join_to join (find_row o (o.key_of r) rows) h)) (find_row o (o.key_of r) rows)) q))

  -- a put keeps the law of a store
  pub put_kept : (r : R) (l : Ledger R) (own new : Type 0) → Kept o l own → new → Kept o (put_in o join r l) new
  put_kept r l own new k n =
      ⊎_elim
      (λ t.
      subst (λ x. Kept o x new) (sym (put_taken o join r l t))
      (record { rising = put_rising o laws join joins r l.rows k.rising; within = length_taken r l k.rising t k.within; own_kept = ∣ n ∣₁ }))
      (λ f. subst (λ x. Kept o x new) (sym (put_refused o join r l f)) (record { rising = k.rising; within = k.within; own_kept = ∣ n ∣₁ }))
      (cases_Bool (takes o r l))
