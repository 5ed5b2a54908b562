-- The order of texts, and the order in which rows rise by their first bytes.
use Rattle.std.proofs.Common.{◌≡◌, ℕ, zero, suc, ◌-◌, ◌*◌, ◌+◌, ◌<◌, ◌≤◌, Bool, true, false, cond, not, ◌&&◌, eqb, ltb, leb, List, [], ◌∷◌, ◌++◌, length, get_or, take, Some, Ordering, Less, Equal, Greater, sym, refl, ap, ◌∙◌, ⊎_elim, arith}
use Rattle.std.proofs.lemmas.Bool.{and_parts, cases_lt, cases_order, leb-true, lt-ltb, le-ltb, eq-eqb, ne_eqb}
use Rattle.std.proofs.lemmas.Cmp.{nat_list_cmp_total}
use Rattle.std.proofs.lemmas.Map.Text.{is_eq-slice_cmp}
use Rattle.std.proofs.lemmas.Slice.Eq.{bytes_eq-Decides}
use Rattle.std.specs.Cmp.Lexicographic.{slice_cmp, slice_partial_cmp, lists_agrees}
use Rattle.std.specs.Ordering.{nat_cmp, as_partial_cmp, is_some_and, is_eq, is_le, is_ge, is_lt, ordering_then, ordering_index}
use Rattle.digits.specs.Positional.{number_after, are_digits}
use Rattle.digits.proofs.Positional.{lower_start}

abbrev pub order : List ℕ → List ℕ → Ordering
order xs ys = slice_cmp nat_cmp xs ys

pub absurd_bool : {A : Type 0} → true ≡ false → A
absurd_bool e = let z : ◌≡◌ {A = ℕ} 0 1 = cc in absurd (omega arith)

pub not_false : (b : Bool) → false ≡ not b → b ≡ true
not_false true e = refl
not_false false e = absurd_bool (sym e)

-- what `<=` and `>=` of slices answer
agrees : (xs ys : List ℕ) → slice_partial_cmp (as_partial_cmp nat_cmp) xs ys ≡ Some (order xs ys)
agrees xs ys = lists_agrees (λ x y. refl) xs ys

abbrev pub at_most : List ℕ → List ℕ → Bool
at_most xs ys = is_le (order xs ys)

pub at_most_is : (xs ys : List ℕ) → is_some_and is_le (slice_partial_cmp (as_partial_cmp nat_cmp) xs ys) ≡ at_most xs ys
at_most_is xs ys = ap (is_some_and is_le) (agrees xs ys)

pub not_lower : (o : Ordering) → is_ge o ≡ not (is_lt o)
not_lower Less = refl
not_lower Equal = refl
not_lower Greater = refl

pub at_least_is : (xs ys : List ℕ) → is_some_and is_ge (slice_partial_cmp (as_partial_cmp nat_cmp) xs ys) ≡ not (is_lt (order xs ys))
at_least_is xs ys = ap (is_some_and is_ge) (agrees xs ys) ∙ not_lower (order xs ys)

pub equal_texts : (xs ys : List ℕ) → order xs ys ≡ Equal → xs ≡ ys
equal_texts xs ys e = (bytes_eq-Decides xs ys).0 (sym (is_eq-slice_cmp xs ys) ∙ ap is_eq e)

pub below_all : (xs ys zs : List ℕ) → order xs ys ≡ Less → is_le (order ys zs) ≡ true → order xs zs ≡ Less
below_all xs ys zs e h = go (order ys zs) refl h
  where
    go : (o : Ordering) → order ys zs ≡ o → is_le o ≡ true → order xs zs ≡ Less
    go Less q h = nat_list_cmp_total.trans xs ys zs e q
    go Equal q h = ap (order xs) (sym (equal_texts ys zs q)) ∙ e
    go Greater q h = absurd_bool (sym h)

pub index_rises : (xs ys zs : List ℕ) → order xs ys ≡ Less → ordering_index (order xs zs) ≤ ordering_index (order ys zs)
index_rises xs ys zs e = go (order ys zs) refl
  where
    small : (o : Ordering) → ordering_index o ≤ 2
    small Less = omega arith
    small Equal = omega arith
    small Greater = omega arith

    go : (o : Ordering) → order ys zs ≡ o → ordering_index (order xs zs) ≤ ordering_index o
    go Less q = let r = ap ordering_index (below_all xs ys zs e (ap is_le q)) in omega arith
    go Equal q = let r = ap ordering_index (below_all xs ys zs e (ap is_le q)) in omega arith
    go Greater q = small (order xs zs)

-- texts in two parts: the first that differ decide
then_assoc : (o p q : Ordering) → ordering_then o (ordering_then p q) ≡ ordering_then (ordering_then o p) q
then_assoc Less p q = refl
then_assoc Equal p q = refl
then_assoc Greater p q = refl

pub order_parts : (xs ys us vs : List ℕ) → length xs ≡ length ys → order (xs ++ us) (ys ++ vs) ≡ ordering_then (order xs ys) (order us vs)
order_parts [] [] us vs l = refl
order_parts [] (y ∷ ys) us vs l = absurd (omega arith)
order_parts (x ∷ xs) [] us vs l = absurd (omega arith)
order_parts (x ∷ xs) (y ∷ ys) us vs l =
    ap (ordering_then (nat_cmp x y)) (order_parts xs ys us vs (omega arith)) ∙ then_assoc (nat_cmp x y) (order xs ys) (order us vs)

-- of texts of digits, it is the order of their numbers
nat_less : (x y : ℕ) → x < y → nat_cmp x y ≡ Less
nat_less x y h = ap (λ b. cond b Less (cond (eqb x y) Equal Greater)) (lt-ltb x y h)

nat_equal : (x y : ℕ) → x ≡ y → nat_cmp x y ≡ Equal
nat_equal x y h = ap (λ b. cond b Less (cond (eqb x y) Equal Greater)) (le-ltb x y (omega arith)) ∙ ap (λ b. cond b Equal Greater) (eq-eqb x y h)

nat_greater : (x y : ℕ) → y < x → nat_cmp x y ≡ Greater
nat_greater x y h = ap (λ b. cond b Less (cond (eqb x y) Equal Greater)) (le-ltb x y (omega arith)) ∙ ap (λ b. cond b Equal Greater) (ne_eqb x y (λ e. omega arith))

pub order_digits : (b z n : ℕ) (xs ys : List ℕ) → length xs ≡ length ys → are_digits b z xs ≡ true → are_digits b z ys ≡ true → order xs ys ≡ nat_cmp (number_after b z n xs) (number_after b z n ys)
order_digits b z n [] [] l s t = sym (nat_equal n n refl)
order_digits b z n [] (y ∷ ys) l s t = absurd (omega arith)
order_digits b z n (x ∷ xs) [] l s t = absurd (omega arith)
order_digits b z n (x ∷ xs) (y ∷ ys) l s t =
    let p = and_parts (leb z x && ltb x (z + b)) (are_digits b z xs) s in
    let q = and_parts (leb z y && ltb y (z + b)) (are_digits b z ys) t in
    let zx : z ≤ x = leb-true z x (and_parts (leb z x) (ltb x (z + b)) p.0).0 in
    let zy : z ≤ y = leb-true z y (and_parts (leb z y) (ltb y (z + b)) q.0).0 in
    let first : Ordering → Ordering = λ o. ordering_then o (order xs ys) in
    ⊎_elim
    (λ e.
    ap first (nat_equal x y e)
    ∙ order_digits b z (n * b + (x - z)) xs ys (omega arith) p.1 q.1
    ∙ ap (λ v. nat_cmp (number_after b z (n * b + (x - z)) xs) (number_after b z (n * b + (v - z)) ys)) e)
    (⊎_elim
    (λ k. ap first (nat_less x y k) ∙ sym (nat_less _ _ (lower_start b z (n * b + (x - z)) (n * b + (y - z)) xs ys (omega arith) p.1 q.1 (omega arith))))
    (λ k. ap first (nat_greater x y k) ∙ sym (nat_greater _ _ (lower_start b z (n * b + (y - z)) (n * b + (x - z)) ys xs (omega arith) q.1 p.1 (omega arith)))))
    (cases_order x y)

pub less_nat : (x y : ℕ) → nat_cmp x y ≡ Less → x < y
less_nat x y e = ⊎_elim (λ k. k) (λ k. let r = index_not_less x y k in let s = ap ordering_index e in absurd (omega arith)) (cases_lt x y)
  where
    index_not_less : (x y : ℕ) → y ≤ x → 1 ≤ ordering_index (nat_cmp x y)
    index_not_less x y h =
        ⊎_elim
        (λ e. let r = ap ordering_index (nat_equal x y e) in omega arith)
        (⊎_elim
        (λ k. absurd (omega arith))
        (λ k. let r = ap ordering_index (nat_greater x y k) in omega arith))
        (cases_order x y)

pub nat_not_above : (x y : ℕ) → x ≤ y → is_le (nat_cmp x y) ≡ true
nat_not_above x y h =
    ⊎_elim (λ e. ap is_le (nat_equal x y e)) (⊎_elim (λ k. ap is_le (nat_less x y k)) (λ k. absurd (omega arith))) (cases_order x y)

pub not_above_nat : (x y : ℕ) → is_le (nat_cmp x y) ≡ true → x ≤ y
not_above_nat x y e =
    ⊎_elim (λ k. absurd_bool (sym e ∙ ap is_le (nat_greater x y k))) (λ k. k) (cases_lt y x)

-- the first k bytes of rows rise
abbrev pub key_at : ℕ → List (List ℕ) → ℕ → List ℕ
key_at k rows i = take k (get_or rows i [])

abbrev pub Rise : ℕ → List (List ℕ) → Type 0
Rise k rows = (i : ℕ) → suc i < length rows → order (key_at k rows i) (key_at k rows (suc i)) ≡ Less

pub later_above : (k : ℕ) (rows : List (List ℕ)) → Rise k rows → (i j : ℕ) → i < j → j < length rows → order (key_at k rows i) (key_at k rows j) ≡ Less
later_above k rows up i zero h l = absurd (omega arith)
later_above k rows up i (suc j) h l =
    ⊎_elim
    (λ q. nat_list_cmp_total.trans (key_at k rows i) (key_at k rows j) (key_at k rows (suc j)) (later_above k rows up i j q (omega arith)) (up j l))
    (λ q. let e : i ≡ j = omega arith in ap (λ v. order (key_at k rows v) (key_at k rows (suc j))) e ∙ up j l)
    (cases_lt i j)
