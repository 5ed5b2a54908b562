-- The bytes of a row and of the count in an image.
use Rattle.std.proofs.Common.{◌≡◌, ℕ, ◌+◌, ◌-◌, ◌*◌, ◌<◌, ◌≤◌, cond, ◌&&◌, eqb, leb, List, length, take, drop, Some, None, Option, sym, refl, ap, ◌∙◌, mul_comm, div-lt_iff_lt-mul, mul-le-mul_left, mul-suc, div-le_self, arith}
use native.Mathlib.Nat.{mul-div-le}
use Rattle.std.proofs.lemmas.List.{length-take, length-drop, length-take-le, take_all}
use Rattle.std.proofs.lemmas.Bool.{cond-false, ne_eqb, and_left}
use Rattle.digits.specs.Positional.{read_decimal}
use Rattle.values.specs.Checked.{and_then}
use Rattle.images.specs.Format.{slot_at, whole_in, most_in, count_in}

-- a field that is tested by its length
pub none_unless : {R : Type 0} (n w : ℕ) (v : Option R) → (n ≡ w → ⊥) → None ≡ cond (eqb n w) v None
none_unless n w v h = sym (cond-false (eqb n w) v None (ne_eqb n w h))

-- a row below the whole rows lies within the bytes
pub slot_fits : (w i : ℕ) (bs : List ℕ) → i < whole_in w bs → 7 + w * i + w ≤ length bs
slot_fits w i bs h =
    let a = mul-le-mul_left w h in
    let b = mul-div-le (length bs - 7) w in
    let e = mul-suc w i in
    let s = div-le_self (length bs - 7) w in
    omega arith

pub slot_length : (w i : ℕ) (bs : List ℕ) → i < whole_in w bs → length (slot_at w i bs) ≡ w
slot_length w i bs h =
    let f = slot_fits w i bs h in
    let d = length-drop (7 + w * i) bs in
    ap (λ k. length (take k (drop (7 + w * i) bs))) (omega arith) ∙ length-take-le w (drop (7 + w * i) bs) (omega arith)

-- past the whole rows there is no row
pub no_slot : {R : Type 0} (w i : ℕ) (bs : List ℕ) (of : List ℕ → Option R) → 0 < w → ((cs : List ℕ) (r : R) → of cs ≡ Some r → length cs ≡ w) → whole_in w bs ≤ i → None ≡ of (slot_at w i bs)
no_slot {R} w i bs of wide sized h = is (of (slot_at w i bs)) refl
  where
    short : length (slot_at w i bs) ≡ w → ⊥
    short e =
        let lt : length bs - 7 < (i + 1) * w = (div-lt_iff_lt-mul {k = w} {x = length bs - 7} {y = i + 1} wide).0 (omega arith) in
        let c = mul_comm (i + 1) w in
        let s = mul-suc w i in
        let s' : w * (i + 1) ≡ w * i + w = ap (λ k. w * k) (omega arith) ∙ s in
        let on : 7 + w * i + w - (7 + w * i) ≡ w = omega arith in
        let t : length (slot_at w i bs) ≤ length (drop (7 + w * i) bs) = length_le (7 + w * i + w - (7 + w * i)) (drop (7 + w * i) bs) in
        let d = length-drop (7 + w * i) bs in
        omega arith
      where
        length_le : (n : ℕ) (xs : List ℕ) → length (take n xs) ≤ length xs
        length_le n xs = let l = length-take n xs in omega arith

    is : (v : Option R) → of (slot_at w i bs) ≡ v → None ≡ v
    is None e = refl
    is (Some r) e = absurd (short (sized (slot_at w i bs) r e))

-- under seven bytes there is no count
pub no_count : (w : ℕ) (bs : List ℕ) → length bs < 7 → None ≡ count_in w bs
no_count w bs h =
    let long : length (take 7 bs) ≡ length bs = ap length (take_all 7 bs (omega arith)) in
    sym (ap (λ v. and_then v (λ n. cond (leb n (most_in w bs)) (Some n) None))
    (cond-false (eqb (length (take 7 bs)) 7 && leb 7 19) (read_decimal (take 7 bs)) None (and_left (eqb (length (take 7 bs)) 7) (leb 7 19) (ne_eqb (length (take 7 bs)) 7 (λ e. omega arith)))))
