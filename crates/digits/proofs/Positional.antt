-- Laws of numbers in a fixed number of places, over the base and the symbol of 0.
use Rattle.std.proofs.Common.{◌≡◌, ℕ, zero, suc, ◌+◌, ◌-◌, ◌*◌, ◌/◌, ◌%◌, ◌^◌, ◌<◌, ◌≤◌, Bool, true, false, ◌&&◌, ◌||◌, eqb, ltb, leb, ◌⊎◌, List, [], ◌∷◌, ◌++◌, length, get_or, drop, IfSome, Some, None, Option, sym, refl, ap, ◌∙◌, subst, ⊎_elim, append_assoc, lt_of_lt_of_le, add-zero, mod-lt, div-lt_iff_lt-mul, pow-suc, div-add-mod', add-one, arith}
use native.Mathlib.Nat.{pow-zero, pow-le-pow_right}
use lib.Arith.{digits_lt, digits_div, digits_mod}
use Rattle.std.proofs.lemmas.List.{append-nil, length_push, at_drop_more, at_drop_all}
use Rattle.std.proofs.lemmas.Bool.{and_parts, and_from, leb-true, ltb-true, le-leb, lt-ltb, le-ltb, eq-eqb, ne_eqb, eqb-true, cond-true, cond-false, cases_Bool, cases_order}
use Rattle.std.proofs.lemmas.Bool.Decides.{nat_tests}
use Rattle.digits.specs.Positional.{number_after, are_digits, places, decimal, all_decimal, read_decimal, numeral, write_decimal, big_endian, bytes_of, lex_less, ReadsBack, WritesBack, KeepsOrder}

-- one more digit
pub below_more : (b i n d : ℕ) → n < b ^ i → d < b → n * b + d < b ^ (i + 1)
below_more b i n d h k = rw (add-one, pow-suc) (digits_lt h k)

-- a number of i places fits k
pub below_fits : (b i k n : ℕ) → 0 < b → i ≤ k → n < b ^ i → n < b ^ k
below_fits b i k n p h l = lt_of_lt_of_le l (pow-le-pow_right p h)

pub places_more : (b z w n : ℕ) → places b z (w + 1) n ≡ places b z w (n / b) ++ ((z + n % b) ∷ [])
unfolding places
places_more b z w n = rw add-one refl

pub places_none : (b z n : ℕ) → places b z 0 n ≡ []
unfolding places
places_none b z n = refl

pub length_places : (b z w n : ℕ) → length (places b z w n) ≡ w
unfolding places
length_places b z zero n = refl
length_places b z (suc w) n =
    length_push (places b z w (n / b)) (z + n % b) ∙ (ap (λ m. m + 1) (length_places b z w (n / b)) ∙ add-one w)

-- one turn of a reader: the place i goes into the number
pub read_more : (b z n i : ℕ) (cs : List ℕ) (m : ℕ) → i < length cs → number_after b z n (drop i cs) ≡ m → number_after b z (n * b + (get_or cs i 0 - z)) (drop (i + 1) cs) ≡ m
read_more b z n i cs m h e =
    let s : number_after b z n (drop i cs) ≡ number_after b z (n * b + (get_or cs i 0 - z)) (drop (i + 1) cs) =
    at_drop_more (number_after b z n) cs i 0 h in
    sym s ∙ e

pub read_all : (b z n i : ℕ) (cs : List ℕ) (m : ℕ) → length cs ≤ i → number_after b z n (drop i cs) ≡ m → n ≡ m
read_all b z n i cs m h e = let s : number_after b z n (drop i cs) ≡ n = at_drop_all (number_after b z n) cs i h in sym s ∙ e

-- the same of the test: a symbol that is a digit is passed over, and one that is not settles it
abbrev pub is_digit : ℕ → ℕ → ℕ → Bool
is_digit b z c = leb z c && ltb c (z + b)

pub test_more : (b z i : ℕ) (cs : List ℕ) (t : Bool) → i < length cs → are_digits b z (drop i cs) ≡ t → z ≤ get_or cs i 0 → get_or cs i 0 < z + b → are_digits b z (drop (i + 1) cs) ≡ t
test_more b z i cs t h e low high =
    let s : are_digits b z (drop i cs) ≡ (is_digit b z (get_or cs i 0) && are_digits b z (drop (i + 1) cs)) =
    at_drop_more (are_digits b z) cs i 0 h in
    let d : is_digit b z (get_or cs i 0) ≡ true =
    and_from (leb z (get_or cs i 0)) (ltb (get_or cs i 0) (z + b)) (le-leb z (get_or cs i 0) low) (lt-ltb (get_or cs i 0) (z + b) high) in
    let s2 : are_digits b z (drop i cs) ≡ (true && are_digits b z (drop (i + 1) cs)) = s ∙ ap (λ x. x && are_digits b z (drop (i + 1) cs)) d in
    sym s2 ∙ e

pub test_stops : (b z i : ℕ) (cs : List ℕ) (t : Bool) → i < length cs → are_digits b z (drop i cs) ≡ t → (get_or cs i 0 < z) ⊎ (z + b ≤ get_or cs i 0) → t ≡ false
test_stops b z i cs t h e o =
    let s : are_digits b z (drop i cs) ≡ (is_digit b z (get_or cs i 0) && are_digits b z (drop (i + 1) cs)) =
    at_drop_more (are_digits b z) cs i 0 h in
    let d : is_digit b z (get_or cs i 0) ≡ false = grind (arith, nat_tests) in
    sym e ∙ (s ∙ ap (λ x. x && are_digits b z (drop (i + 1) cs)) d)

pub test_all : (b z i : ℕ) (cs : List ℕ) (t : Bool) → length cs ≤ i → are_digits b z (drop i cs) ≡ t → t ≡ true
test_all b z i cs t h e = let s : are_digits b z (drop i cs) ≡ true = at_drop_all (are_digits b z) cs i h in sym e ∙ s

pub reads_some : (cs : List ℕ) (n : ℕ) → all_decimal cs ≡ true → n ≡ decimal cs → Some n ≡ read_decimal cs
reads_some cs n t e = ap Some e ∙ sym (cond-true (all_decimal cs) (Some (decimal cs)) None t)

pub reads_none : (cs : List ℕ) → all_decimal cs ≡ false → None ≡ read_decimal cs
reads_none cs t = sym (cond-false (all_decimal cs) (Some (decimal cs)) None t)

-- a symbol at the end
pub number_push : (b z n : ℕ) (cs : List ℕ) (c : ℕ) → number_after b z n (cs ++ (c ∷ [])) ≡ number_after b z n cs * b + (c - z)
number_push b z n [] c = refl
number_push b z n (x ∷ cs) c = number_push b z (n * b + (x - z)) cs c

pub digits_push : (b z : ℕ) (cs : List ℕ) (c : ℕ) → are_digits b z cs ≡ true → z ≤ c → c < z + b → are_digits b z (cs ++ (c ∷ [])) ≡ true
digits_push b z [] c t low high = grind (arith, nat_tests)
digits_push b z (x ∷ cs) c t low high =
    let p = and_parts (is_digit b z x) (are_digits b z cs) t in
    and_from (is_digit b z x) (are_digits b z (cs ++ (c ∷ []))) p.0 (digits_push b z cs c p.1 low high)

pub digits_places : (b z w n : ℕ) → 0 < b → are_digits b z (places b z w n) ≡ true
unfolding places
digits_places b z zero n p = refl
digits_places b z (suc w) n p =
    let r : n % b < b = mod-lt n p in
    digits_push b z (places b z w (n / b)) (z + n % b) (digits_places b z w (n / b) p) (omega arith) (omega arith)

pub number_places : (b z w n : ℕ) → 0 < b → n < b ^ w → number_after b z 0 (places b z w n) ≡ n
unfolding places
number_places b z zero n p h = omega (arith, pow-zero b)
number_places b z (suc w) n p h =
    let less : n / b < b ^ w = (div-lt_iff_lt-mul p).1 (rw pow-suc at h) in
    let step : number_after b z 0 (places b z w (n / b) ++ ((z + n % b) ∷ [])) ≡ number_after b z 0 (places b z w (n / b)) * b + ((z + n % b) - z) =
    number_push b z 0 (places b z w (n / b)) (z + n % b) in
    let d : (z + n % b) - z ≡ n % b = omega arith in
    rw (step, number_places b z w (n / b) p less, d) (div-add-mod' n b)

pub places_number : (b z k n : ℕ) (cs : List ℕ) → 0 < b → are_digits b z cs ≡ true → places b z (k + length cs) (number_after b z n cs) ≡ places b z k n ++ cs
places_number b z k n [] p t = rw (add-zero, append-nil)
places_number b z k n (c ∷ cs) p t =
    let q = and_parts (is_digit b z c) (are_digits b z cs) t in
    let qs = and_parts (leb z c) (ltb c (z + b)) q.0 in
    let low : z ≤ c = leb-true z c qs.0 in
    let high : c < z + b = ltb-true c (z + b) qs.1 in
    let d : c - z < b = omega arith in
    let e1 : (n * b + (c - z)) / b ≡ n = digits_div n d in
    let e2 : (n * b + (c - z)) % b ≡ c - z = digits_mod n d in
    let e3 : z + (c - z) ≡ c = omega arith in
    let here : places b z (k + 1) (n * b + (c - z)) ≡ places b z k n ++ (c ∷ []) =
    places_more b z k (n * b + (c - z)) ∙ rw (e1, e2, e3) in
    let l : k + suc (length cs) ≡ (k + 1) + length cs = omega arith in
    rw l (places_number b z (k + 1) (n * b + (c - z)) cs p q.1 ∙ (ap (λ ys. ys ++ cs) here ∙ append_assoc (places b z k n) (c ∷ []) cs))

pub number_lt : (b z k n : ℕ) (cs : List ℕ) → are_digits b z cs ≡ true → n < b ^ k → number_after b z n cs < b ^ (k + length cs)
number_lt b z k n [] t h = rw add-zero h
number_lt b z k n (c ∷ cs) t h =
    let q = and_parts (is_digit b z c) (are_digits b z cs) t in
    let qs = and_parts (leb z c) (ltb c (z + b)) q.0 in
    let low : z ≤ c = leb-true z c qs.0 in
    let high : c < z + b = ltb-true c (z + b) qs.1 in
    let l : k + suc (length cs) ≡ (k + 1) + length cs = omega arith in
    rw l (number_lt b z (k + 1) (n * b + (c - z)) cs q.1 (below_more b k n (c - z) h (omega arith)))

-- a numeral of the right width is what its digits write
pub numeral_is : (w : ℕ) (cs : List ℕ) → length cs ≡ w → w ≤ 19 → numeral w cs ≡ read_decimal cs
numeral_is w cs e few =
    cond-true (eqb (length cs) w && leb w 19) (read_decimal cs) None
    (and_from (eqb (length cs) w) (leb w 19) (eq-eqb (length cs) w e) (le-leb w 19 few))

pub reads_back : ReadsBack
reads_back w n few h =
    numeral_is w (write_decimal w n) (length_places 10 48 w n) few
    ∙ sym (reads_some (write_decimal w n) n (digits_places 10 48 w n (omega arith)) (sym (number_places 10 48 w n (omega arith) h)))

-- what a reading says of the symbols
pub read_is : (cs : List ℕ) (n : ℕ) → read_decimal cs ≡ Some n → (all_decimal cs ≡ true) × (decimal cs ≡ n)
read_is cs n e =
    ⊎_elim
    (λ t. let s : Some (decimal cs) ≡ Some n = reads_some cs (decimal cs) t refl ∙ e in (t, cc))
    (λ t. let s : None ≡ Some n = reads_none cs t ∙ e in let z : ◌≡◌ {A = ℕ} 0 1 = cc in absurd (omega arith))
    (cases_Bool (all_decimal cs))

-- a text that is a numeral has its width and digits
pub numeral_of : (w : ℕ) (cs : List ℕ) (n : ℕ) → numeral w cs ≡ Some n → (length cs ≡ w) × (w ≤ 19) × (read_decimal cs ≡ Some n)
numeral_of w cs n e =
    ⊎_elim
    (λ t.
    let p = and_parts (eqb (length cs) w) (leb w 19) t in
    (eqb-true (length cs) w p.0, leb-true w 19 p.1, sym (cond-true (eqb (length cs) w && leb w 19) (read_decimal cs) None t) ∙ e))
    (λ t.
    let s : None ≡ Some n = sym (cond-false (eqb (length cs) w && leb w 19) (read_decimal cs) None t) ∙ e in
    let z : ◌≡◌ {A = ℕ} 0 1 = cc in
    absurd (omega arith))
    (cases_Bool (eqb (length cs) w && leb w 19))

-- what reads is written back, over the text's own length
read_back : (cs : List ℕ) (n : ℕ) → read_decimal cs ≡ Some n → (write_decimal (length cs) n ≡ cs) × (n < 10 ^ length cs)
read_back cs n e =
    let r = read_is cs n e in
    let zl : 0 + length cs ≡ length cs = omega arith in
    let p : places 10 48 (0 + length cs) (decimal cs) ≡ places 10 48 0 0 ++ cs = places_number 10 48 0 0 cs (omega arith) r.0 in
    let q : decimal cs < 10 ^ (0 + length cs) = number_lt 10 48 0 0 cs r.0 (omega arith) in
    let p2 : places 10 48 (length cs) n ≡ places 10 48 0 0 ++ cs = rw (zl, r.1) at p in
    let q2 : n < 10 ^ length cs = rw (zl, r.1) at q in
    (p2 ∙ ap (λ ys. ys ++ cs) (places_none 10 48 0), q2)

pub writes_back : WritesBack
writes_back w cs n e =
    let o = numeral_of w cs n e in
    let back = read_back cs n o.2 in
    rw o.0 at back

-- what a text of w digits writes has at most w places
pub numeral_fits : (w : ℕ) (cs : List ℕ) (r : Option ℕ) → r ≡ numeral w cs → IfSome r (λ n. n < 10 ^ w)
numeral_fits w cs None e = tt
numeral_fits w cs (Some n) e = (writes_back w cs n (sym e)).1

-- bytes are digits of base 256, so their number gives them back
pub bytes_are : (cs : List ℕ) → ((i : ℕ) → get_or cs i 0 < 256) → are_digits 256 0 cs ≡ true
bytes_are [] h = refl
bytes_are (c ∷ cs) h =
    let k : c < 256 = h 0 in
    let d : is_digit 256 0 c ≡ true = grind (arith, nat_tests) in
    and_from (is_digit 256 0 c) (are_digits 256 0 cs) d (bytes_are cs (λ i. h (suc i)))

pub bytes_back : (cs : List ℕ) → ((i : ℕ) → get_or cs i 0 < 256) → (bytes_of (length cs) (big_endian cs) ≡ cs) × (big_endian cs < 256 ^ length cs)
bytes_back cs h =
    let zl : 0 + length cs ≡ length cs = omega arith in
    let p : places 256 0 (0 + length cs) (big_endian cs) ≡ places 256 0 0 0 ++ cs = places_number 256 0 0 0 cs (omega arith) (bytes_are cs h) in
    let q : big_endian cs < 256 ^ (0 + length cs) = number_lt 256 0 0 0 cs (bytes_are cs h) (omega arith) in
    ((rw zl at p) ∙ ap (λ ys. ys ++ cs) (places_none 256 0 0), rw zl at q)

-- a smaller start stays smaller, whatever digits follow
pub lower_start : (b z m n : ℕ) (xs ys : List ℕ) → length xs ≡ length ys → are_digits b z xs ≡ true → are_digits b z ys ≡ true → m < n → number_after b z m xs < number_after b z n ys
lower_start b z m n [] [] l s t h = h
lower_start b z m n [] (y ∷ ys) l s t h = absurd (omega arith)
lower_start b z m n (x ∷ xs) [] l s t h = absurd (omega arith)
lower_start b z m n (x ∷ xs) (y ∷ ys) l s t h =
    let p = and_parts (is_digit b z x) (are_digits b z xs) s in
    let q = and_parts (is_digit b z y) (are_digits b z ys) t in
    let ps = and_parts (leb z x) (ltb x (z + b)) p.0 in
    let low : z ≤ x = leb-true z x ps.0 in
    let high : x < z + b = ltb-true x (z + b) ps.1 in
    let d : m * b + (x - z) < n * b = digits_lt h (omega arith) in
    lower_start b z (m * b + (x - z)) (n * b + (y - z)) xs ys (omega arith) p.1 q.1 (omega arith)

keeps : (b z n : ℕ) (xs ys : List ℕ) → length xs ≡ length ys → are_digits b z xs ≡ true → are_digits b z ys ≡ true → lex_less xs ys ≡ ltb (number_after b z n xs) (number_after b z n ys)
keeps b z n [] [] l s t = sym (le-ltb n n (omega arith))
keeps b z n [] (y ∷ ys) l s t = absurd (omega arith)
keeps b z n (x ∷ xs) [] l s t = absurd (omega arith)
keeps b z n (x ∷ xs) (y ∷ ys) l s t =
    let p = and_parts (is_digit b z x) (are_digits b z xs) s in
    let q = and_parts (is_digit b z y) (are_digits b z ys) t in
    let lowx : z ≤ x = leb-true z x (and_parts (leb z x) (ltb x (z + b)) p.0).0 in
    let lowy : z ≤ y = leb-true z y (and_parts (leb z y) (ltb y (z + b)) q.0).0 in
    let rest : lex_less xs ys ≡ ltb (number_after b z (n * b + (x - z)) xs) (number_after b z (n * b + (x - z)) ys) =
    keeps b z (n * b + (x - z)) xs ys (omega arith) p.1 q.1 in
    ⊎_elim
    (λ e. let r : (ltb x y || (eqb x y && lex_less xs ys)) ≡ lex_less xs ys = rw (le-ltb x y (omega arith), eq-eqb x y e) in
    r ∙ subst (λ (v : ℕ). lex_less xs ys ≡ ltb (number_after b z (n * b + (x - z)) xs) (number_after b z (n * b + (v - z)) ys)) e rest)
    (⊎_elim
    (λ h. let r : (ltb x y || (eqb x y && lex_less xs ys)) ≡ true = rw (lt-ltb x y h) in
    r ∙ sym (lt-ltb (number_after b z (n * b + (x - z)) xs) (number_after b z (n * b + (y - z)) ys)
    (lower_start b z (n * b + (x - z)) (n * b + (y - z)) xs ys (omega arith) p.1 q.1 (omega arith))))
    (λ h. let r : (ltb x y || (eqb x y && lex_less xs ys)) ≡ false = rw (le-ltb x y (omega arith), ne_eqb x y (λ e. omega arith)) in
    let g : number_after b z (n * b + (y - z)) ys < number_after b z (n * b + (x - z)) xs =
    lower_start b z (n * b + (y - z)) (n * b + (x - z)) ys xs (omega arith) q.1 p.1 (omega arith) in
    r ∙ sym (le-ltb (number_after b z (n * b + (x - z)) xs) (number_after b z (n * b + (y - z)) ys) (omega arith))))
    (cases_order x y)

pub keeps_order : KeepsOrder
keeps_order xs ys l s t = keeps 256 0 0 xs ys l s t
