-- What an image holds after bytes are written.
use Rattle.std.proofs.Common.{◌≡◌, ℕ, suc, ◌+◌, ◌-◌, ◌*◌, ◌/◌, ◌<◌, ◌≤◌, min, Bool, true, false, cond, eqb, ltb, leb, List, ◌++◌, length, take, drop, Some, None, Option, unwrap_or, sym, refl, ap, ◌∙◌, subst, ⊎_elim, mul-le-mul_left, mul-suc, arith}
use lib.Seq.{drop-append-add}
use borrow.Rule.Slice.PartMut.{put_mid}
use Rattle.std.proofs.lemmas.List.{append_assoc, length-append, length-take-le, length-drop, take-append-le, take-take, take_at, drop-drop}
use Rattle.std.proofs.lemmas.Slice.{between_is}
use Rattle.std.proofs.lemmas.Bool.{cases_lt, cond-true, cond-false, eq-eqb, le-leb, leb-true, lt-ltb, le-ltb}
use Rattle.digits.specs.Positional.{numeral, write_decimal}
use Rattle.digits.proofs.Positional.{length_places, reads_back}
use Rattle.values.specs.Checked.{and_then}
use Rattle.images.specs.Fields.{written}
use Rattle.images.specs.Format.{slot_at, most_in, count_in, blank_bytes}
use Rattle.images.proofs.Slots.{no_count}
use Rattle.images.specs.Written.{part_at, written_part}
use Rattle.imagestore.specs.Images.{row_count}

pub length_written : (at : ℕ) (b xs : List ℕ) → at + length b ≤ length xs → length (written at b xs) ≡ length xs
length_written at b xs h =
    let t = length-take-le at xs (omega arith) in
    let d = length-drop (at + length b) xs in
    let r = length-append b (drop (at + length b) xs) in
    length-append (take at xs) (b ++ drop (at + length b) xs) ∙ omega arith

-- what stands before the bytes written, and behind them
pub take_written : (e at : ℕ) (b xs : List ℕ) → e ≤ at → at ≤ length xs → take e (written at b xs) ≡ take e xs
take_written e at b xs h l =
    let t = length-take-le at xs l in
    take-append-le e (take at xs) (b ++ drop (at + length b) xs) (omega arith) ∙ take-take e at xs h

pub drop_written : (d at : ℕ) (b xs : List ℕ) → at + length b ≤ d → at ≤ length xs → drop d (written at b xs) ≡ drop d xs
drop_written d at b xs h l =
    let front = take at xs ++ b in
    let rest = drop (at + length b) xs in
    let long : length front ≡ at + length b = length-append (take at xs) b ∙ ap (λ k. k + length b) (length-take-le at xs l) in
    let past : d ≡ length front + (d - (at + length b)) = omega arith in
    ap (λ k. drop k (written at b xs)) past
    ∙ ap (drop (length front + (d - (at + length b)))) (sym (append_assoc (take at xs) b rest))
    ∙ drop-append-add front rest (d - (at + length b))
    ∙ drop-drop (d - (at + length b)) (at + length b) xs
    ∙ ap (λ k. drop k xs) (omega arith)

-- the rows of an image in which one row was written
module _ (w i : ℕ) (b bs : List ℕ) (long : length b ≡ w) (fits : 7 + w * i + w ≤ length bs) where
  pub slot_written : slot_at w i (written (7 + w * i) b bs) ≡ b
  slot_written =
      part_at (take (7 + w * i) bs) b (drop (7 + w * i + length b) bs) (7 + w * i) (7 + w * i + w) (length-take-le (7 + w * i) bs (omega arith)) (omega arith)

  pub slot_kept : (j : ℕ) → (j ≡ i → ⊥) → slot_at w j (written (7 + w * i) b bs) ≡ slot_at w j bs
  slot_kept j ne =
      ⊎_elim
      (λ l.
      let m = mul-le-mul_left w l in
      let s = mul-suc w j in
      between_is (written (7 + w * i) b bs) (7 + w * j) (7 + w * j + w)
      ∙ ap (drop (7 + w * j)) (take_written (7 + w * j + w) (7 + w * i) b bs (omega arith) (omega arith))
      ∙ sym (between_is bs (7 + w * j) (7 + w * j + w)))
      (λ l.
      let m = mul-le-mul_left w (above l) in
      let s = mul-suc w i in
      ap (take (7 + w * j + w - (7 + w * j))) (drop_written (7 + w * j) (7 + w * i) b bs (omega arith) (omega arith)))
      (cases_lt j i)
    where
      above : i ≤ j → suc i ≤ j
      above l = ⊎_elim (λ z. z) (λ z. absurd (ne (omega arith))) (cases_lt i j)

-- a slot that was filled
pub slot_filled : (w v i : ℕ) (b bs ys old : List ℕ) → w ≡ v → length b ≡ v → 7 + w * i + w ≤ length bs
    → ys ≡ cond (eqb (length (take (7 + w * i + w - (7 + w * i)) (drop (7 + w * i) bs))) v) b old → put_mid (7 + w * i) (7 + w * i + w - (7 + w * i)) bs ys ≡ written (7 + v * i) b bs
slot_filled w v i b bs ys old q long fits e =
    let part = take (7 + w * i + w - (7 + w * i)) (drop (7 + w * i) bs) in
    let rest = length-drop (7 + w * i) bs in
    let on : 7 + w * i + w - (7 + w * i) ≡ w = omega arith in
    let wide : length part ≡ v = ap (λ k. length (take k (drop (7 + w * i) bs))) on ∙ length-take-le w (drop (7 + w * i) bs) (omega arith) ∙ q in
    written_part (7 + w * i) (7 + w * i + w - (7 + w * i)) b bs ys (e ∙ cond-true (eqb (length part) v) b old (eq-eqb (length part) v wide)) (on ∙ q ∙ sym long)
    ∙ ap (λ k. written (7 + k * i) b bs) q

-- the rows stay where the count is written
pub slot_counted : (w j : ℕ) (c bs : List ℕ) → length c ≡ 7 → slot_at w j (written 0 c bs) ≡ slot_at w j bs
slot_counted w j c bs long = ap (take (7 + w * j + w - (7 + w * j))) (drop_written (7 + w * j) 0 c bs (omega arith) (omega arith))

-- the count is told by the first seven bytes and the length
count_by : (w : ℕ) (a b : List ℕ) → take 7 a ≡ take 7 b → length a ≡ length b → count_in w a ≡ count_in w b
count_by w a b e f =
    ap (λ v. and_then (numeral 7 v) (λ n. cond (leb n (most_in w a)) (Some n) None)) e
    ∙ ap (λ l. and_then (numeral 7 (take 7 b)) (λ n. cond (leb n (min ((l - 7) / w) 9999999)) (Some n) None)) f

pub most_by : (w : ℕ) (a b : List ℕ) → length a ≡ length b → most_in w a ≡ most_in w b
most_by w a b f = ap (λ l. min ((l - 7) / w) 9999999) f

pub count_kept : (w k : ℕ) (b bs : List ℕ) → 7 ≤ k → k + length b ≤ length bs → count_in w (written k b bs) ≡ count_in w bs
count_kept w k b bs h l = count_by w (written k b bs) bs (take_written 7 k b bs h (omega arith)) (length_written k b bs l)

pub count_new : (w m : ℕ) (bs : List ℕ) → m ≤ most_in w bs → 7 ≤ length bs → count_in w (written 0 (write_decimal 7 m) bs) ≡ Some m
count_new w m bs h l =
    let c = write_decimal 7 m in
    let seven = length_places 10 48 7 m in
    let all : length (written 0 c bs) ≡ length bs = length_written 0 c bs (omega arith) in
    let small : m < 10000000 = omega arith in
    ap (λ v. and_then (numeral 7 v) (λ n. cond (leb n (most_in w (written 0 c bs))) (Some n) None)) (take_at c (drop (0 + length c) bs) 7 seven)
    ∙ ap (λ v. and_then v (λ n. cond (leb n (most_in w (written 0 c bs))) (Some n) None)) (reads_back 7 m (omega arith) small)
    ∙ cond-true (leb m (most_in w (written 0 c bs))) (Some m) None (le-leb m (most_in w (written 0 c bs)) (subst (λ (x : ℕ). m ≤ x) (sym (most_by w (written 0 c bs) bs all)) h))

-- the count is not above the most
pub count_under : (w : ℕ) (bs : List ℕ) → row_count w bs ≤ most_in w bs
count_under w bs = by (numeral 7 (take 7 bs))
  where
    one : (n : ℕ) (t : Bool) → leb n (most_in w bs) ≡ t → unwrap_or (cond t (Some n) None) 0 ≤ most_in w bs
    one n true e = leb-true n (most_in w bs) e
    one n false e = omega arith

    by : (v : Option ℕ) → unwrap_or (and_then v (λ n. cond (leb n (most_in w bs)) (Some n) None)) 0 ≤ most_in w bs
    by None = omega arith
    by (Some n) = one n (leb n (most_in w bs)) refl

-- a count above 0 is sound
pub count_stated : (w : ℕ) (bs : List ℕ) → 0 < row_count w bs → count_in w bs ≡ Some (row_count w bs)
count_stated w bs = by (count_in w bs)
  where
    by : (v : Option ℕ) → 0 < unwrap_or v 0 → v ≡ Some (unwrap_or v 0)
    by None h = absurd (omega arith)
    by (Some n) h = refl

-- what is made empty
pub blank_short : (bs : List ℕ) → length bs < 7 → blank_bytes bs ≡ bs
blank_short bs h = cond-true (ltb (length bs) 7) bs (written 0 (write_decimal 7 0) bs) (lt-ltb (length bs) 7 h)

pub blank_long : (bs : List ℕ) → 7 ≤ length bs → blank_bytes bs ≡ written 0 (write_decimal 7 0) bs
blank_long bs h = cond-false (ltb (length bs) 7) bs (written 0 (write_decimal 7 0) bs) (le-ltb (length bs) 7 h)

pub short_count : (w : ℕ) (bs : List ℕ) → length bs < 7 → row_count w bs ≡ 0
short_count w bs h = sym (ap (λ v. unwrap_or v 0) (no_count w bs h))
