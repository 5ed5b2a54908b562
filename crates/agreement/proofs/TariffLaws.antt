-- The row of a point and a descriptor with the latest first day not after a day, found by the search and told of all rows.
use Rattle.std.proofs.Common.{◌≡◌, ℕ, zero, suc, ◌+◌, ◌^◌, ◌<◌, ◌≤◌, Bool, true, false, cond, ◌&&◌, eqb, ltb, leb, List, [], ◌∷◌, ◌++◌, length, get_or, take, drop, is_some, Some, None, Option, Ordering, Less, Equal, Greater, sym, refl, ap, ◌∙◌, subst, ⊎_elim, append_assoc, arith, take-add}
use Rattle.std.proofs.lemmas.List.{get_or_default, length-append, length-drop, length-take-le, take_at, drop_at}
use Rattle.std.proofs.lemmas.Bool.{and_parts, and_from, cases_Bool, cases_lt, cases_eq, leb-true, cond-true, cond-false, le-leb, lt-ltb, le-ltb}
use Rattle.std.proofs.lemmas.Cmp.{nat_list_cmp_total, tied_itself}
use Rattle.std.proofs.lemmas.Slice.Eq.{bytes_eq-Decides}
use Rattle.std.specs.List.{between}
use Rattle.std.specs.List.Sorted.{IsPartitionedBy, IsPartitionPoint}
use Rattle.std.specs.Ordering.{nat_cmp, is_le, ordering_then, ordering_reverse}
use Rattle.std.specs.Str.{bytes_eq}
use Rattle.digits.specs.Positional.{decimal, are_digits, all_decimal, bytes_of, write_decimal, read_decimal, numeral}
use Rattle.digits.proofs.Positional.{number_places, length_places, digits_places}
use Rattle.values.specs.Checked.{and_then}
use Rattle.values.specs.Values.{day_of, day_in, point_in, descriptor_in, tariff_in}
use Rattle.values.specs.declared.calendar.Day.{Day}
use Rattle.values.specs.declared.labels.Descriptor.{Descriptor}
use Rattle.values.specs.declared.labels.Point.{Point}
use Rattle.agreement.specs.declared.parts.Part.TheVariants.{Tariffs}
use Rattle.agreement.specs.Books.{first_day, begun, later_of, latest, tariff_table}
use Rattle.agreement.specs.Keys.{tariff_key}
use Rattle.agreement.specs.Sound.{is_sound}
use Rattle.agreement.proofs.OrderLaws.{order, at_most, at_most_is, absurd_bool, equal_texts, below_all, order_parts, order_digits, less_nat, nat_not_above, not_above_nat, key_at, later_above}
use Rattle.agreement.proofs.SoundLaws.{rows_sound, rows_rise}

-- the latest of rows that pass a test is one of them
abbrev IsOne : (List ℕ → Bool) → List (List ℕ) → List ℕ → Type 0
IsOne test rows row = (j : ℕ) × (j < length rows) × (get_or rows j [] ≡ row) × (test row ≡ true)

one_more : (test : List ℕ → Bool) (x : List ℕ) (xs : List (List ℕ)) (row : List ℕ) → IsOne test xs row → IsOne test (x ∷ xs) row
one_more test x xs row r = let l = r.1 in (suc r.0, omega arith, r.2, r.3)

one_first : (test : List ℕ → Bool) (x : List ℕ) (xs : List (List ℕ)) (row : List ℕ) → Some x ≡ Some row → test x ≡ true → IsOne test (x ∷ xs) row
one_first test x xs row e t = let q : x ≡ row = cc in (0, omega arith, q, ap test (sym q) ∙ t)

one_later : (test : List ℕ → Bool) (x : List ℕ) (xs : List (List ℕ)) (row : List ℕ) (o : Option (List ℕ)) → (o ≡ Some row → IsOne test xs row) → later_of x o ≡ Some row → test x ≡ true → IsOne test (x ∷ xs) row
one_later test x xs row None rest e t = one_first test x xs row e t
one_later test x xs row (Some y) rest e t =
    ⊎_elim
    (λ b. one_more test x xs row (rest (sym (cond-true (ltb (first_day x) (first_day y)) (Some y) (Some x) b) ∙ e)))
    (λ b. one_first test x xs row (sym (cond-false (ltb (first_day x) (first_day y)) (Some y) (Some x) b) ∙ e) t)
    (cases_Bool (ltb (first_day x) (first_day y)))

latest_is : (test : List ℕ → Bool) (rows : List (List ℕ)) (row : List ℕ) → latest test rows ≡ Some row → IsOne test rows row
latest_is test [] row e = let z : ◌≡◌ {A = ℕ} 0 1 = cc in absurd (omega arith)
latest_is test (x ∷ xs) row e =
    ⊎_elim
    (λ t. one_later test x xs row (latest test xs) (latest_is test xs row) (sym (cond-true (test x) (later_of x (latest test xs)) (latest test xs) t) ∙ e) t)
    (λ t. one_more test x xs row (latest_is test xs row (sym (cond-false (test x) (later_of x (latest test xs)) (latest test xs) t) ∙ e)))
    (cases_Bool (test x))

latest_none : (test : List ℕ → Bool) (rows : List (List ℕ)) → ((j : ℕ) → j < length rows → test (get_or rows j []) ≡ false) → latest test rows ≡ None
latest_none test [] h = refl
latest_none test (x ∷ xs) h =
    cond-false (test x) (later_of x (latest test xs)) (latest test xs) (h 0 (omega arith)) ∙ latest_none test xs (λ j l. h (suc j) (omega arith))

-- the first row, where each other that passes has an earlier day
later_first : (test : List ℕ → Bool) (x : List ℕ) (xs : List (List ℕ)) (o : Option (List ℕ)) → latest test xs ≡ o → ((j : ℕ) → j < length xs → test (get_or xs j []) ≡ true → first_day (get_or xs j []) < first_day x) → later_of x o ≡ Some x
later_first test x xs None q h = refl
later_first test x xs (Some y) q h =
    let r = latest_is test xs y q in
    let k : first_day y < first_day x = subst (λ (v : List ℕ). first_day v < first_day x) r.2 (h r.0 r.1 (ap test r.2 ∙ r.3)) in
    cond-false (ltb (first_day x) (first_day y)) (Some y) (Some x) (le-ltb (first_day x) (first_day y) (omega arith))

latest_at : (test : List ℕ → Bool) (rows : List (List ℕ)) (i : ℕ) → i < length rows → test (get_or rows i []) ≡ true
    → ((j : ℕ) → j < length rows → test (get_or rows j []) ≡ true → (j ≡ i → ⊥) → first_day (get_or rows j []) < first_day (get_or rows i [])) → latest test rows ≡ Some (get_or rows i [])
latest_at test [] i l t h = absurd (omega arith)
latest_at test (x ∷ xs) zero l t h =
    cond-true (test x) (later_of x (latest test xs)) (latest test xs) t
    ∙ later_first test x xs (latest test xs) refl (λ j k u. h (suc j) (omega arith) u (λ e. omega arith))
latest_at test (x ∷ xs) (suc i) l t h =
    let y = get_or xs i [] in
    let rest : latest test xs ≡ Some y = latest_at test xs i (omega arith) t (λ j k u ne. h (suc j) (omega arith) u (λ e. ne (omega arith))) in
    ⊎_elim
    (λ u.
    let k : first_day x < first_day y = h 0 (omega arith) u (λ e. omega arith) in
    cond-true (test x) (later_of x (latest test xs)) (latest test xs) u
    ∙ ap (later_of x) rest
    ∙ cond-true (ltb (first_day x) (first_day y)) (Some y) (Some x) (lt-ltb (first_day x) (first_day y) k))
    (λ u. cond-false (test x) (later_of x (latest test xs)) (latest test xs) u ∙ rest)
    (cases_Bool (test x))

-- the text of a day is digits
some_of : {A B : Type 0} (o : Option A) (f : A → Option B) → is_some (and_then o f) ≡ true → is_some o ≡ true
some_of None f e = e
some_of (Some x) f e = refl

some_cond : {A : Type 0} (b : Bool) (o : Option A) → is_some (cond b o None) ≡ true → (b ≡ true) × (is_some o ≡ true)
some_cond true o e = (refl, e)
some_cond false o e = let z : ◌≡◌ {A = ℕ} 0 1 = cc in absurd (omega arith)

day_digits : (cs : List ℕ) → is_some (day_in cs) ≡ true → are_digits 10 48 cs ≡ true
day_digits cs e =
    let n = some_of (numeral 8 cs) day_of e in
    let r = (some_cond (eqb (length cs) 8 && leb 8 19) (read_decimal cs) n).1 in
    (some_cond (all_decimal cs) (Some (decimal cs)) r).0

day_small : (y : Day) → y.number < 10 ^ 8
day_small y = let h = y.ok.0.1 in omega arith

not_true_false : (b : Bool) → (b ≡ true → ⊥) → b ≡ false
not_true_false true h = absurd (h refl)
not_true_false false h = refl

-- an order in two parts
then_equal : (o p : Ordering) → o ≡ Equal → ordering_then o p ≡ p
then_equal o p e = ap (λ v. ordering_then v p) e

-- of two that follow one another, the first parts are equal where the outer ones are
first_equal : (o p q v : Ordering) → o ≡ ordering_reverse q → ordering_then o p ≡ Less → is_le (ordering_then q v) ≡ true → q ≡ Equal
first_equal o p Equal v e h k = refl
first_equal o p Less v e h k = absurd_bool (sym (ap is_le h) ∙ ap (λ u. is_le (ordering_then u p)) e)
first_equal o p Greater v e h k = absurd_bool (sym k)

-- a key of point, descriptor and day, in its parts
abbrev label : Point → Descriptor → List ℕ
label p d = bytes_of 10 p.number ++ bytes_of 5 d.number

label_long : (p : Point) (d : Descriptor) → length (label p d) ≡ 15
label_long p d =
    let a = length_places 256 0 10 p.number in
    let b = length_places 256 0 5 d.number in
    length-append (bytes_of 10 p.number) (bytes_of 5 d.number) ∙ omega arith

key_parts : (p : Point) (d : Descriptor) (y : Day) (key : List ℕ) → key ≡ tariff_key p d y → key ≡ label p d ++ write_decimal 8 y.number
key_parts p d y key is = is ∙ sym (append_assoc (bytes_of 10 p.number) (bytes_of 5 d.number) (write_decimal 8 y.number))

key_label : (p : Point) (d : Descriptor) (y : Day) (key : List ℕ) → key ≡ tariff_key p d y → take 15 key ≡ label p d
key_label p d y key is = ap (take 15) (key_parts p d y key is) ∙ take_at (label p d) (write_decimal 8 y.number) 15 (label_long p d)

module _ (rows : List (List ℕ)) (sound : is_sound Tariffs rows ≡ true) (long : (i : ℕ) → i < length rows → length (get_or rows i []) ≡ 30) where
  day_text : ℕ → List ℕ
  day_text i = between 15 23 (get_or rows i [])

  days_are : (i : ℕ) → i < length rows → are_digits 10 48 (between 15 23 (get_or rows i [])) ≡ true
  days_are i h =
      let r = get_or rows i [] in
      let a = (and_parts (is_some (point_in (between 0 10 r))) _ (rows_sound Tariffs rows sound i h)).1 in
      let b = (and_parts (is_some (descriptor_in (between 10 15 r))) _ a).1 in
      day_digits (between 15 23 r) (and_parts (is_some (day_in (between 15 23 r))) (is_some (tariff_in (between 23 30 r))) b).0

  day_long : (i : ℕ) → i < length rows → length (between 15 23 (get_or rows i [])) ≡ 8
  day_long i h =
      let l = long i h in
      let m = length-drop 15 (get_or rows i []) in
      length-take-le 8 (drop 15 (get_or rows i [])) (omega arith)

  front_long : (k i : ℕ) → k ≤ 30 → i < length rows → length (key_at k rows i) ≡ k
  front_long k i s h = let l = long i h in length-take-le k (get_or rows i []) (omega arith)

  row_key : (i : ℕ) → key_at 23 rows i ≡ key_at 15 rows i ++ between 15 23 (get_or rows i [])
  row_key i = take-add 15 8 (get_or rows i [])

  -- two rows are ordered by their labels, and then by their days
  rows_order : (i j : ℕ) → i < length rows → j < length rows → order (key_at 23 rows i) (key_at 23 rows j) ≡ ordering_then (order (key_at 15 rows i) (key_at 15 rows j)) (nat_cmp (first_day (get_or rows i [])) (first_day (get_or rows j [])))
  rows_order i j hi hj =
      ap (λ v. order v (key_at 23 rows j)) (row_key i)
      ∙ ap (order (key_at 15 rows i ++ between 15 23 (get_or rows i []))) (row_key j)
      ∙ order_parts (key_at 15 rows i) (key_at 15 rows j) _ _ (front_long 15 i (omega arith) hi ∙ sym (front_long 15 j (omega arith) hj))
      ∙ ap (ordering_then (order (key_at 15 rows i) (key_at 15 rows j))) (order_digits 10 48 0 _ _ (day_long i hi ∙ sym (day_long j hj)) (days_are i hi) (days_are j hj))

  module _ (p : Point) (d : Descriptor) (y : Day) (key : List ℕ) (is : key ≡ tariff_key p d y) where
    -- and so are a row and the key
    key_order : (i : ℕ) → i < length rows → order (key_at 23 rows i) key ≡ ordering_then (order (key_at 15 rows i) (label p d)) (nat_cmp (first_day (get_or rows i [])) y.number)
    key_order i h =
        let dy = digits_places 10 48 8 y.number (omega arith) in
        ap (λ v. order v key) (row_key i)
        ∙ ap (order (key_at 15 rows i ++ between 15 23 (get_or rows i []))) (key_parts p d y key is)
        ∙ order_parts (key_at 15 rows i) (label p d) _ _ (front_long 15 i (omega arith) h ∙ sym (label_long p d))
        ∙ ap (ordering_then (order (key_at 15 rows i) (label p d))) (order_digits 10 48 0 _ _ (day_long i h ∙ sym (length_places 10 48 8 y.number)) (days_are i h) dy)
        ∙ ap (λ v. ordering_then (order (key_at 15 rows i) (label p d)) (nat_cmp (first_day (get_or rows i [])) v)) (number_places 10 48 8 y.number (omega arith) (day_small y))

    -- a row has begun exactly if it has the label and its first day is not after the day
    begun_parts : (i : ℕ) → begun p d y (get_or rows i []) ≡ true → (key_at 15 rows i ≡ label p d) × (first_day (get_or rows i []) ≤ y.number)
    begun_parts i t =
        let r = get_or rows i [] in
        let a = and_parts (bytes_eq (between 0 10 r) (bytes_of 10 p.number)) _ t in
        let b = and_parts (bytes_eq (between 10 15 r) (bytes_of 5 d.number)) (leb (first_day r) y.number) a.1 in
        let e = (bytes_eq-Decides (between 0 10 r) (bytes_of 10 p.number)).0 a.0 in
        let f = (bytes_eq-Decides (between 10 15 r) (bytes_of 5 d.number)).0 b.0 in
        (take-add 10 5 r ∙ ap (λ v. v ++ between 10 15 r) e ∙ ap (λ v. bytes_of 10 p.number ++ v) f, leb-true (first_day r) y.number b.1)

    has_begun : (i : ℕ) → i < length rows → key_at 15 rows i ≡ label p d → first_day (get_or rows i []) ≤ y.number → begun p d y (get_or rows i []) ≡ true
    has_begun i h e k =
        let r = get_or rows i [] in
        let parts : take 10 r ++ between 10 15 r ≡ label p d = sym (take-add 10 5 r) ∙ e in
        let l10 = front_long 10 i (omega arith) h in
        let m10 = length_places 256 0 10 p.number in
        let a : take 10 r ≡ bytes_of 10 p.number = sym (take_at (take 10 r) (between 10 15 r) 10 l10) ∙ ap (take 10) parts ∙ take_at (bytes_of 10 p.number) (bytes_of 5 d.number) 10 m10 in
        let b : between 10 15 r ≡ bytes_of 5 d.number = sym (drop_at (take 10 r) (between 10 15 r) 10 l10) ∙ ap (drop 10) parts ∙ drop_at (bytes_of 10 p.number) (bytes_of 5 d.number) 10 m10 in
        and_from (bytes_eq (between 0 10 r) (bytes_of 10 p.number)) (bytes_eq (between 10 15 r) (bytes_of 5 d.number) && leb (first_day r) y.number)
        ((bytes_eq-Decides (between 0 10 r) (bytes_of 10 p.number)).1 a)
        (and_from (bytes_eq (between 10 15 r) (bytes_of 5 d.number)) (leb (first_day r) y.number)
        ((bytes_eq-Decides (between 10 15 r) (bytes_of 5 d.number)).1 b)
        (le-leb (first_day r) y.number k))

    labelled : (i : ℕ) → key_at 15 rows i ≡ label p d → order (key_at 15 rows i) (label p d) ≡ Equal
    labelled i e = ap (λ v. order v (label p d)) e ∙ tied_itself nat_list_cmp_total (label p d)

    begun_up_to : (i : ℕ) → i < length rows → begun p d y (get_or rows i []) ≡ true → is_le (order (key_at 23 rows i) key) ≡ true
    begun_up_to i h t =
        let b = begun_parts i t in
        ap is_le (key_order i h ∙ then_equal _ _ (labelled i b.0)) ∙ nat_not_above _ _ b.1

    up_to_is : (row : List ℕ) → at_most (take 23 row) key ≡ is_le (order (take 23 row) key)
    up_to_is row = refl

    pub keys_parted : IsPartitionedBy (λ row. at_most (take 23 row) key) rows
    keys_parted i j x h l t =
        ⊎_elim
        (λ k.
        let u : is_le (order (key_at 23 rows j) key) ≡ true = ap (λ row. is_le (order (take 23 row) key)) (get_or_default rows j [] x l) ∙ sym (up_to_is (get_or rows j x)) ∙ t in
        up_to_is (get_or rows i x)
        ∙ ap (λ row. is_le (order (take 23 row) key)) (get_or_default rows i x [] (omega arith))
        ∙ ap is_le (below_all (key_at 23 rows i) (key_at 23 rows j) key (later_above 23 rows (rows_rise Tariffs rows sound) i j k l) u))
        (λ k. let e : i ≡ j = omega arith in ap (λ v. at_most (take 23 (get_or rows v x)) key) e ∙ t)
        (cases_lt i j)

    module _ (after : ℕ) (parted : IsPartitionPoint (λ row. at_most (take 23 row) key ≡ true) (λ row. at_most (take 23 row) key ≡ false) rows after) where
      -- a row that has begun is among the first
      early : (j : ℕ) → j < length rows → begun p d y (get_or rows j []) ≡ true → j < after
      early j h t = ⊎_elim (λ k. k) (λ k. absurd_bool (sym (begun_up_to j h t) ∙ sym (up_to_is (get_or rows j [])) ∙ parted.1 j [] k h)) (cases_lt j after)

      pub tariff_none : ((j : ℕ) → j < length rows → j < after → begun p d y (get_or rows j []) ≡ true → ⊥) → tariff_table rows p d y ≡ None
      unfolding tariff_table
      tariff_none none =
          ap (λ o. and_then o (λ r. tariff_in (between 23 30 r)))
          (latest_none (begun p d y) rows (λ j l. not_true_false (begun p d y (get_or rows j [])) (λ t. none j l (early j l t) t)))

      pub tariff_no_rows : after ≡ 0 → tariff_table rows p d y ≡ None
      tariff_no_rows e = tariff_none (λ j l k t. omega arith)

      module _ (i : ℕ) (last : i + 1 ≡ after) (within : i < length rows) where
        pub tariff_other : (key_at 15 rows i ≡ take 15 key → ⊥) → tariff_table rows p d y ≡ None
        tariff_other other =
            tariff_none
            (λ j l k t.
            let b = begun_parts j t in
            let lab = key_label p d y key is in
            ⊎_elim
            (λ q.
            let a = sym (rows_order j i l within) ∙ later_above 23 rows (rows_rise Tariffs rows sound) j i q within in
            let u = ap is_le (sym (key_order i within)) ∙ sym (up_to_is (get_or rows i [])) ∙ parted.0 i [] (omega arith) (omega arith) in
            let v : order (key_at 15 rows j) (key_at 15 rows i) ≡ ordering_reverse (order (key_at 15 rows i) (label p d)) =
            ap (λ w. order w (key_at 15 rows i)) b.0 ∙ nat_list_cmp_total.antisymm (label p d) (key_at 15 rows i) in
            let z = first_equal _ _ _ _ v a u in
            other (equal_texts (key_at 15 rows i) (label p d) z ∙ sym lab))
            (λ q. let e : i ≡ j = omega arith in other (ap (key_at 15 rows) e ∙ b.0 ∙ sym lab))
            (cases_lt j i))

        pub tariff_found : key_at 15 rows i ≡ take 15 key → tariff_table rows p d y ≡ tariff_in (between 23 30 (get_or rows i []))
        unfolding tariff_table
        tariff_found e =
            let same = e ∙ key_label p d y key is in
            let u = ap is_le (sym (key_order i within ∙ then_equal _ _ (labelled i same))) ∙ sym (up_to_is (get_or rows i [])) ∙ parted.0 i [] (omega arith) (omega arith) in
            ap (λ o. and_then o (λ r. tariff_in (between 23 30 r)))
            (latest_at (begun p d y) rows i within (has_begun i within same (not_above_nat _ _ u))
            (λ j l t ne.
            let k = early j l t in
            let b = begun_parts j t in
            let q : j < i = ⊎_elim (λ z. absurd (ne z)) (λ z. omega arith) (cases_eq j i) in
            let eq : order (key_at 15 rows j) (key_at 15 rows i) ≡ Equal = ap (order (key_at 15 rows j)) same ∙ labelled j b.0 in
            less_nat _ _ (sym (then_equal _ _ eq) ∙ sym (rows_order j i l within) ∙ later_above 23 rows (rows_rise Tariffs rows sound) j i q within)))
