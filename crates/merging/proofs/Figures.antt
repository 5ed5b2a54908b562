-- What a ledger's rows hold, by the elements that they were made of.
use Rattle.std.proofs.Common.{◌≡◌, ℕ, zero, suc, ◌<◌, ◌≤◌, Bool, true, false, cond, ltb, ◌⊎◌, List, [], ◌∷◌, ◌++◌, map, length, get_or, is_some, Some, None, filter, Option, Equal, sym, refl, ap, ◌∙◌, subst, inl, inr, le_of_suc-le-suc, not-suc-le-zero, arith}
use Rattle.std.specs.List.{ContainsAt as Has, AllByRecursion as All}
use Rattle.std.proofs.ByRecursion.{all_has_itself, All-weaker}
use Rattle.std.proofs.lemmas.Bool.{true≢false}
use Rattle.std.proofs.lemmas.Bool.Decides.{nat_tests}
use Rattle.ledger.specs.Keys.{KeyOps, OrderLaws, JoinLaws}
use Rattle.ledger.specs.Ledger.{Ledger, AllAbove, Rising, find_row, put_row, takes}
use Rattle.ledger.specs.Ledgers.{none≢some, find_above, length_put}
use Rattle.merging.specs.Merges.{merge_rows, ledger_of, same_key, is_among, distinct, HasRow, Orderless}
use Rattle.merging.proofs.Reorderings.{from_shuffled, to_back, map_append, map_map}
use Rattle.merging.proofs.MergeLaws.{Same, Same.are, Same.below, Same.above, sameness, At, meet, only, joined_at, at_joined, find_here, merge_push, rising_ledger, find_ledger, ledger_reordered, ledger_dealt}

module _ {K R : Type 0} (o : KeyOps K R) (laws : OrderLaws o) where
  -- rising rows have each what every found row has
  pub all_found : (P : R → Type 0) (l : List R) → Rising o l → ((r : R) → find_row o (o.key_of r) l ≡ Some r → P r) → All P l
  all_found P [] h f = tt
  all_found P (x ∷ xs) h f = (f x (find_here o laws x xs), all_found P xs h.1 (λ r e. f r (later r e (sameness o laws (o.key_of x) (o.key_of r)))))
    where
      later : (r : R) → find_row o (o.key_of r) xs ≡ Some r → Same o (o.key_of x) (o.key_of r) → find_row o (o.key_of r) (x ∷ xs) ≡ Some r
      later r e (are p f) = absurd (none≢some (find_above o laws (o.key_of r) xs (subst (λ k. AllAbove o k xs) p h.0)) e)
      later r e (below n f) = rw f e
      later r e (above n f) = rw f e

module _ {K R : Type 0} (o : KeyOps K R) (laws : OrderLaws o) (join : R → R → R) (joins : JoinLaws o join) where
  ledger_cons : (r : R) (rs : List R) → ledger_of o join (r ∷ rs) ≡ put_row o join r (ledger_of o join rs)
  ledger_cons r rs = ledger_reordered o laws join joins (r ∷ rs) (rs ++ (r ∷ [])) (to_back r rs) ∙ merge_push o join [] rs r

  held_meet : (r : R) (v : Option R) → is_some (meet join (Some r) v) ≡ true
  held_meet r None = refl
  held_meet r (Some x) = refl

  among_joined : (k : K) (rs : List R) → is_some (joined_at o join k rs) ≡ is_among o k (map o.key_of rs)
  among_joined k [] = refl
  among_joined k (r ∷ rs) = go (sameness o laws (o.key_of r) k) (among_joined k rs)
    where
      go : Same o (o.key_of r) k → is_some (joined_at o join k rs) ≡ is_among o k (map o.key_of rs) → is_some (joined_at o join k (r ∷ rs)) ≡ is_among o k (map o.key_of (r ∷ rs))
      go (are p e) ih = rw e (held_meet r (joined_at o join k rs))
      go (below n e) ih = rw e ih
      go (above n e) ih = rw e ih

  among_rows : (k : K) (rs : List R) → is_some (find_row o k (ledger_of o join rs)) ≡ is_among o k (map o.key_of rs)
  among_rows k rs = ap is_some (find_ledger o laws join joins k rs) ∙ among_joined k rs

  -- a ledger has a row for each different key
  pub distinct_rows : (rs : List R) → length (ledger_of o join rs) ≡ distinct o (map o.key_of rs)
  distinct_rows [] = refl
  distinct_rows (r ∷ rs) =
      let n = length (ledger_of o join rs) in
      ap length (ledger_cons r rs)
      ∙ (length_put o laws join joins r (ledger_of o join rs) (rising_ledger o laws join joins rs)
      ∙ (ap (λ b. cond b n (suc n)) (among_rows (o.key_of r) rs)
      ∙ ap (λ m. cond (is_among o (o.key_of r) (map o.key_of rs)) m (suc m)) (distinct_rows rs)))

  -- the laws of rows make ledgers orderless
  pub orderless : Orderless o join
  orderless = record {
    ordered = λ xs ys h. ledger_reordered o laws join joins xs ys (from_shuffled xs ys h);
    dealt = ledger_dealt o laws join joins;
    sized = distinct_rows;
  }

  -- rows made of elements
  module _ {B : Type 0} (row : B → R) where
    -- the elements of a key
    abbrev pub of : K → List B → List B
    of k bs = filter (λ b. same_key o (o.key_of (row b)) k) bs

    abbrev pub keys : List B → List K
    keys bs = map (λ b. o.key_of (row b)) bs

    pub among_ledger : (k : K) (bs : List B) → is_some (find_row o k (ledger_of o join (map row bs))) ≡ is_among o k (keys bs)
    among_ledger k bs = among_rows k (map row bs) ∙ ap (is_among o k) (map_map o.key_of row bs)

    pub distinct_ledger : (bs : List B) → length (ledger_of o join (map row bs)) ≡ distinct o (keys bs)
    distinct_ledger bs = distinct_rows (map row bs) ∙ ap (distinct o) (map_map o.key_of row bs)

    -- how many rows two ledgers have together
    pub merged_size : (l m : List R) (bs cs : List B) → l ≡ ledger_of o join (map row bs) → m ≡ ledger_of o join (map row cs) → length (merge_rows o join l m) ≡ distinct o (keys (bs ++ cs))
    merged_size l m bs cs e f =
        ap (λ x. length (merge_rows o join x m)) e
        ∙ (ap (λ x. length (merge_rows o join (ledger_of o join (map row bs)) x)) f
        ∙ (ap length (ledger_dealt o laws join joins (map row bs) (map row cs))
        ∙ (ap (λ x. length (ledger_of o join x)) (sym (map_append row bs cs)) ∙ distinct_ledger (bs ++ cs))))

    held_as : (l : List R) (k : K) (bs : List B) → l ≡ ledger_of o join (map row bs) → is_some (find_row o k l) ≡ is_among o k (keys bs)
    held_as l k bs e = ap (λ x. is_some (find_row o k x)) e ∙ among_ledger k bs

    -- a ledger of these rows that refuses a row: its key is new, and there is no room
    pub room_none : (l : Ledger R) (r : R) (bs : List B) → l.rows ≡ ledger_of o join (map row bs) → takes o r l ≡ false
        → (is_among o (o.key_of r) (keys bs) ≡ false) × (l.most ≤ distinct o (keys bs))
    room_none l r bs e h = go (is_among o (o.key_of r) (keys bs)) refl
      where
        go : (b : Bool) → is_among o (o.key_of r) (keys bs) ≡ b → (is_among o (o.key_of r) (keys bs) ≡ false) × (l.most ≤ distinct o (keys bs))
        go true f = absurd (true≢false (rw (held_as l.rows (o.key_of r) bs e, f) at h))
        go false f =
            let t : ltb (length l.rows) l.most ≡ false = rw (held_as l.rows (o.key_of r) bs e, f) at h in
            let z = ap length e ∙ distinct_ledger bs in
            (f, grind (arith, nat_tests))

    -- and one that takes it: its key is there, or there is room
    pub room_some : (l : Ledger R) (r : R) (bs : List B) → l.rows ≡ ledger_of o join (map row bs) → takes o r l ≡ true
        → (is_among o (o.key_of r) (keys bs) ≡ true) ⊎ (distinct o (keys bs) < l.most)
    room_some l r bs e h = go (is_among o (o.key_of r) (keys bs)) refl
      where
        go : (b : Bool) → is_among o (o.key_of r) (keys bs) ≡ b → (is_among o (o.key_of r) (keys bs) ≡ true) ⊎ (distinct o (keys bs) < l.most)
        go true f = inl f
        go false f =
            let t : ltb (length l.rows) l.most ≡ true = rw (held_as l.rows (o.key_of r) bs e, f) at h in
            let z = ap length e ∙ distinct_ledger bs in
            inr (grind (arith, nat_tests))

    -- every element has its row
    some_left : (r : R) (v : Option R) → (x : R) × (meet join (Some r) v ≡ Some x)
    some_left r None = (r, refl)
    some_left r (Some x) = (join r x, refl)

    some_right : (v : Option R) (r : R) → (x : R) × (meet join v (Some r) ≡ Some x)
    some_right None r = (r, refl)
    some_right (Some x) r = (join x r, refl)

    present : (bs : List B) (b : B) → Has bs b → (r : R) × (joined_at o join (o.key_of (row b)) (map row bs) ≡ Some r)
    present [] b h = absurd (not-suc-le-zero h.1)
    present (x ∷ xs) b h = go h.0 h.1 h.2 (λ g. present xs b g)
      where
        go : (k : ℕ) → k < length (x ∷ xs) → ((d : B) → get_or (x ∷ xs) k d ≡ b) → (Has xs b → (r : R) × (joined_at o join (o.key_of (row b)) (map row xs) ≡ Some r))
            → (r : R) × (joined_at o join (o.key_of (row b)) (map row (x ∷ xs)) ≡ Some r)
        go zero l e ih =
            let t : o.order (o.key_of (row x)) (o.key_of (row b)) ≡ Equal = rw (e x) (laws.same (o.key_of (row b))) in
            rw t (some_left (row x) (joined_at o join (o.key_of (row b)) (map row xs)))
        go (suc k) l e ih =
            let g = ih (k, le_of_suc-le-suc l, e) in
            rw g.1 (some_right (only o (o.key_of (row b)) (row x)) g.0)

    pub each_row : (l : List R) (bs : List B) → l ≡ ledger_of o join (map row bs) → All (λ b. HasRow o l (o.key_of (row b))) bs
    each_row l bs e =
        All-weaker (Has bs) (λ b. HasRow o l (o.key_of (row b)))
        (λ b h. let g = present bs b h in (g.0, ap (find_row o (o.key_of (row b))) e ∙ (find_ledger o laws join joins (o.key_of (row b)) (map row bs) ∙ g.1)))
        bs (all_has_itself bs)

    -- what stands for the elements of a key: nothing for none
    abbrev pub Stands : (R → List B → Type 0) → Option R → List B → Type 0
    Stands P None bs = bs ≡ []
    Stands P (Some r) bs = P r bs

    -- a fact of a row and its elements holds of what is joined, if it holds of one element's row and is carried over one more
    pub stands : (P : R → List B → Type 0) → ((b : B) → P (row b) (b ∷ [])) → ((b : B) (r : R) (bs : List B) → o.key_of (row b) ≡ o.key_of r → P r bs → P (join (row b) r) (b ∷ bs))
        → (k : K) (bs : List B) → Stands P (joined_at o join k (map row bs)) (of k bs)
    stands P one more k [] = refl
    stands P one more k (b ∷ bs) = go (sameness o laws (o.key_of (row b)) k) (joined_at o join k (map row bs)) (at_joined o laws join joins k (map row bs)) (stands P one more k bs)
      where
        go : Same o (o.key_of (row b)) k → (v : Option R) → At o k v → Stands P v (of k bs) → Stands P (meet join (only o k (row b)) v) (of k (b ∷ bs))
        go (are p e) None h ih = rw (e, ih) (one b)
        go (are p e) (Some r) h ih = rw e (more b r (of k bs) (p ∙ sym h) ih)
        go (below n e) None h ih = rw e ih
        go (below n e) (Some r) h ih = rw e ih
        go (above n e) None h ih = rw e ih
        go (above n e) (Some r) h ih = rw e ih

    -- the same of each row of the ledger
    pub all_stand : (P : R → List B → Type 0) → ((b : B) → P (row b) (b ∷ [])) → ((b : B) (r : R) (bs : List B) → o.key_of (row b) ≡ o.key_of r → P r bs → P (join (row b) r) (b ∷ bs))
        → (l : List R) (bs : List B) → l ≡ ledger_of o join (map row bs) → All (λ r. P r (of (o.key_of r) bs)) l
    all_stand P one more l bs e = all_found o laws (λ r. P r (of (o.key_of r) bs)) l (subst (Rising o) (sym e) (rising_ledger o laws join joins (map row bs))) found
      where
        found : (r : R) → find_row o (o.key_of r) l ≡ Some r → P r (of (o.key_of r) bs)
        found r f =
            let g : joined_at o join (o.key_of r) (map row bs) ≡ Some r = sym (find_ledger o laws join joins (o.key_of r) (map row bs)) ∙ (ap (find_row o (o.key_of r)) (sym e) ∙ f) in
            subst (λ v. Stands P v (of (o.key_of r) bs)) g (stands P one more (o.key_of r) bs)
