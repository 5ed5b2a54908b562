-- What a layer that holds a row back answers, from what the store below answers.
use Rattle.std.proofs.Common.{◌≡◌, suc, ◌+◌, ◌<◌, Bool, true, false, cond, not, ◌&&◌, ◌||◌, ltb, ◌⊎◌, length, is_some, Some, None, Option, Ordering, Less, Equal, Greater, sym, refl, ap, ◌∙◌, subst, ⊎_elim, arith}
use mathlib.Core.Bool.{Bool-set}
use mathlib.Core.HLevel.{Unit-prop}
use Rattle.std.specs.Ordering.{is_eq}
use Rattle.std.proofs.lemmas.Bool.{cases_Bool, cond-true, cond-false, or_left, or_right, and_from, and_cases, lt-ltb, false≢true}
use Rattle.ledger.specs.Keys.{KeyOps, OrderLaws, JoinLaws, by_order}
use Rattle.ledger.specs.Ledger.{Ledger, Rising, find_row, next_row, is_next, put_row, put_in, holds, takes, with_rows, join_to, earlier, size_of, has_key}
use Rattle.ledger.specs.declared.store.Size.{Size}
use Rattle.ledger.specs.Ledgers.{find_put, next_put, length_put, put_put, put_taken, put_refused, takes_joined}
use Rattle.ledger.specs.Props.{Kept-prop, own_of}
use Rattle.ledger.specs.declared.row.Row as Row
use Rattle.ledger.specs.declared.store.RowStore as RowStore
use Rattle.holdback.specs.declared.layer.HoldBack.{HoldBack}
use Rattle.holdback.specs.HoldBack.{Holding, LayerKept, Layer, Fits, with_held, whole, goes_down, after_put}

Fits-prop : {K R : Type 0} (o : KeyOps K R) (held : Option R) (l : Ledger R) → IsProp (Fits o held l)
Fits-prop o None l = Unit-prop
Fits-prop o (Some h) l = Bool-set _ _

Holding-prop : {S K R : Type 0} (row : Row.Ghosts R K) (store : RowStore.Ghosts S R K) (s : HoldBack S R K) → IsProp (Holding row store s)
Holding-prop row store s u v = λ i. record {
  below = Kept-prop row.keys (store.ledger s.below) (store.kept s.below) u.below v.below i;
  fits = Fits-prop row.keys s.held (store.ledger s.below) u.fits v.fits i;
}

-- what a layer keeps of its own
pub holding : {S K R : Type 0} (row : Row.Ghosts R K) (store : RowStore.Ghosts S R K) (s : HoldBack S R K) → LayerKept row store s → Holding row store s
holding row store s k = own_of (Holding-prop row store s) k

by_equal : {A : Type 0} (v : Ordering) (x y : A) → by_order v x y x ≡ cond (is_eq v) y x
by_equal Less x y = refl
by_equal Equal x y = refl
by_equal Greater x y = refl

is_equal : (v : Ordering) → is_eq v ≡ true → v ≡ Equal
is_equal Less e = absurd (false≢true e)
is_equal Equal e = refl
is_equal Greater e = absurd (false≢true e)

is_none : {A : Type 0} (v : Option A) → is_some v ≡ false → v ≡ None
is_none None e = refl
is_none (Some x) e = absurd (false≢true (sym e))

module _ {K R : Type 0} (o : KeyOps K R) (laws : OrderLaws o) (join : R → R → R) (joins : JoinLaws o join) (l : Ledger R) (rising : Rising o l.rows) where
  find_with : (h : R) (k : K) → find_row o k (put_row o join h l.rows) ≡ cond (has_key o k (Some h)) (Some (join_to join (find_row o k l.rows) h)) (find_row o k l.rows)
  find_with h k = find_put o laws join joins k h l.rows rising ∙ by_equal (o.order (o.key_of h) k) (find_row o k l.rows) (Some (join_to join (find_row o k l.rows) h))

  -- a find of the held row's key, and of another
  pub find_joined : (v : Option R) (h : R) → v ≡ Some h → (k : K) → has_key o k v ≡ true → Some (join_to join (find_row o k l.rows) h) ≡ find_row o k (with_held o join v l).rows
  find_joined v h is k t =
      sym
      (ap (λ x. find_row o k (with_held o join x l).rows) is ∙ find_with h k
      ∙ cond-true (has_key o k (Some h)) (Some (join_to join (find_row o k l.rows) h)) (find_row o k l.rows) (ap (has_key o k) (sym is) ∙ t))

  pub find_other : (v : Option R) (k : K) → has_key o k v ≡ false → find_row o k l.rows ≡ find_row o k (with_held o join v l).rows
  find_other None k f = refl
  find_other (Some h) k f = sym (find_with h k ∙ cond-false (has_key o k (Some h)) (Some (join_to join (find_row o k l.rows) h)) (find_row o k l.rows) f)

  module _ (v : Option R) (h : R) (is : v ≡ Some h) where
    next_with_lem : (after : Option K) → next_row o after (with_held o join v l).rows ≡ cond (is_next o after (o.key_of h)) (earlier o join h (next_row o after l.rows)) (next_row o after l.rows)
    next_with_lem after = ap (λ x. next_row o after (with_held o join x l).rows) is ∙ next_put o laws join joins after h l.rows

    -- the next row, where the held row may be it and where not
    pub next_held : (after : Option K) → is_next o after (o.key_of h) ≡ true → earlier o join h (next_row o after l.rows) ≡ next_row o after (with_held o join v l).rows
    next_held after t = sym (next_with_lem after ∙ cond-true (is_next o after (o.key_of h)) (earlier o join h (next_row o after l.rows)) (next_row o after l.rows) t)

    pub next_below : (after : Option K) → is_next o after (o.key_of h) ≡ false → next_row o after l.rows ≡ next_row o after (with_held o join v l).rows
    next_below after f = sym (next_with_lem after ∙ cond-false (is_next o after (o.key_of h)) (earlier o join h (next_row o after l.rows)) (next_row o after l.rows) f)

    -- the size, where the held row's key is below and where not
    pub size_known : (x : R) → find_row o (o.key_of h) l.rows ≡ Some x → size_of l ≡ size_of (with_held o join v l)
    size_known x e =
        sym
        (ap (λ y. size_of (with_held o join y l)) is
        ∙ ap (λ n. record { rows = n; most = l.most }) (length_put o laws join joins h l.rows rising ∙ cond-true (holds o (o.key_of h) l.rows) (length l.rows) (suc (length l.rows)) (ap is_some e)))

    pub size_new : find_row o (o.key_of h) l.rows ≡ None → (z : Size) → z ≡ size_of l → record { rows = z.rows + 1; most = z.most } ≡ size_of (with_held o join v l)
    size_new e z is-z =
        let grown = length_put o laws join joins h l.rows rising ∙ cond-false (holds o (o.key_of h) l.rows) (length l.rows) (suc (length l.rows)) (ap is_some e) in
        let more : length l.rows + 1 ≡ length (put_row o join h l.rows) = omega arith in
        ap (λ y. record { rows = y.rows + 1; most = y.most }) is-z ∙ ap (λ n. record { rows = n; most = l.most }) more ∙ sym (ap (λ y. size_of (with_held o join y l)) is)

  -- a row of the held row's key: it is taken, it is joined to the held row, and that still fits
  pub joined_taken : (v : Option R) (r : R) → has_key o (o.key_of r) v ≡ true → takes o r (with_held o join v l) ≡ true
  joined_taken None r t = absurd (false≢true t)
  joined_taken (Some h) r t = takes_joined o laws join joins h r l.rows l.most rising (is_equal (o.order (o.key_of h) (o.key_of r)) t)

  joined_whole : (v : Option R) (r : R) → has_key o (o.key_of r) v ≡ true → with_held o join (Some (join_to join v r)) l ≡ with_rows (with_held o join v l) (put_row o join r (with_held o join v l).rows)
  joined_whole None r t = absurd (false≢true t)
  joined_whole (Some h) r t = ap (with_rows l) (sym (put_put o laws join joins h r l.rows (laws.identical (o.key_of h) (o.key_of r) (is_equal (o.order (o.key_of h) (o.key_of r)) t))))

  pub joined_fits : (v : Option R) (r : R) → has_key o (o.key_of r) v ≡ true → Fits o v l → takes o (join_to join v r) l ≡ true
  joined_fits None r t fits = absurd (false≢true t)
  joined_fits (Some h) r t fits =
      ap (λ k. holds o k l.rows || ltb (length l.rows) l.most) (joins.keeps h r (laws.identical (o.key_of h) (o.key_of r) (is_equal (o.order (o.key_of h) (o.key_of r)) t))) ∙ fits

module _ {K R : Type 0} (o : KeyOps K R) (join : R → R → R) (r : R) (s : Layer R) where
  -- what a put leaves: joined, held, or all as it was
  pub put_joins : has_key o (o.key_of r) s.held ≡ true → after_put o join r s ≡ record { below = s.below; held = Some (join_to join s.held r) }
  put_joins t =
      cond-true (has_key o (o.key_of r) s.held) (record { below = s.below; held = Some (join_to join s.held r) })
      (cond (takes o r (whole o join s)) (record { below = whole o join s; held = Some r }) s) t

  put_other : has_key o (o.key_of r) s.held ≡ false → after_put o join r s ≡ cond (takes o r (whole o join s)) (record { below = whole o join s; held = Some r }) s
  put_other f =
      cond-false (has_key o (o.key_of r) s.held) (record { below = s.below; held = Some (join_to join s.held r) })
      (cond (takes o r (whole o join s)) (record { below = whole o join s; held = Some r }) s) f

  pub put_holds : has_key o (o.key_of r) s.held ≡ false → takes o r (whole o join s) ≡ true → after_put o join r s ≡ record { below = whole o join s; held = Some r }
  put_holds f t = put_other f ∙ cond-true (takes o r (whole o join s)) (record { below = whole o join s; held = Some r }) s t

  pub put_stays : has_key o (o.key_of r) s.held ≡ false → takes o r (whole o join s) ≡ false → after_put o join r s ≡ s
  put_stays f t = put_other f ∙ cond-false (takes o r (whole o join s)) (record { below = whole o join s; held = Some r }) s t

  -- where a row of another key is taken and nothing goes down, nothing was held
  pub none_held : has_key o (o.key_of r) s.held ≡ false → takes o r (whole o join s) ≡ true → goes_down o join r s ≡ false → s.held ≡ None
  none_held f t stays =
      let comes = and_from (not (has_key o (o.key_of r) s.held)) (takes o r (whole o join s)) (ap not f) t in
      ⊎_elim
      (λ n. is_none s.held n)
      (λ n. absurd (false≢true (sym n ∙ comes)))
      (and_cases (is_some s.held) (not (has_key o (o.key_of r) s.held) && takes o r (whole o join s)) stays)

  -- a put into a layer is a put into its ledger
  pub whole_put : OrderLaws o → JoinLaws o join → Rising o s.below.rows → whole o join (after_put o join r s) ≡ put_in o join r (whole o join s)
  whole_put laws joins rising =
      ⊎_elim
      (λ t.
      ap (whole o join) (put_joins t) ∙ joined_whole o laws join joins s.below rising s.held r t
      ∙ sym (put_taken o join r (whole o join s) (joined_taken o laws join joins s.below rising s.held r t)))
      (λ f.
      ⊎_elim
      (λ t. ap (whole o join) (put_holds f t) ∙ sym (put_taken o join r (whole o join s) t))
      (λ n. ap (whole o join) (put_stays f n) ∙ sym (put_refused o join r (whole o join s) n))
      (cases_Bool (takes o r (whole o join s))))
      (cases_Bool (has_key o (o.key_of r) s.held))

-- whether a row is taken, by a find and a size
pub takes_by : {K R : Type 0} (o : KeyOps K R) (r : R) (l : Ledger R) (f : Option R) → f ≡ find_row o (o.key_of r) l.rows → (none : Bool) → is_some f ≡ not none → (z : Size) → z ≡ size_of l
    → ((none ≡ true) × (z.rows < z.most)) ⊎ (none ≡ false) → takes o r l ≡ true
takes_by o r l f found none test z size ways =
    ⊎_elim
    (λ w. or_right (holds o (o.key_of r) l.rows) (ltb (length l.rows) l.most) (lt-ltb (length l.rows) l.most (subst (λ y. y.rows < y.most) size w.1)))
    (λ w. or_left (holds o (o.key_of r) l.rows) (ltb (length l.rows) l.most) (ap is_some (sym found) ∙ test ∙ ap not w))
    ways
