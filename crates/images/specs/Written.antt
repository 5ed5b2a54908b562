-- Bytes written from a place on: what a buffer holds then, and what its parts are.
use Rattle.std.specs.Prelude.{◌≡◌, ℕ, ◌+◌, ◌-◌, ◌≤◌, List, [], ◌++◌, length, take, drop, refl}
use Rattle.std.proofs.Common.{sym, ap, ◌∙◌, arith}
use borrow.Rule.Slice.PartMut.{put_mid}
use Rattle.std.specs.List.{between}
use Rattle.std.proofs.lemmas.List.{append_assoc, append-nil, length-append, length-take-le, length-drop, take_at, take_all, drop_at, drop-drop, drop_all}
use Rattle.digits.specs.Positional.{places}
use Rattle.digits.proofs.Positional.{length_places}
use Rattle.images.specs.Fields.{written}

-- a part of the buffer was filled
pub written_part : (at k : ℕ) (bytes xs ys : List ℕ) → ys ≡ bytes → k ≡ length bytes → put_mid at k xs ys ≡ written at bytes xs
written_part at k bytes xs ys e n = rw (e, n) (ap (λ zs. take at xs ++ (bytes ++ zs)) (drop-drop (length bytes) at xs))

-- with the places of a number
pub places_part : (b z at w n : ℕ) (xs ys : List ℕ) → at + w ≤ length xs → ys ≡ places b z (length (take (at + w - at) (drop at xs))) n → put_mid at (at + w - at) xs ys ≡ written at (places b z w n) xs
places_part b z at w n xs ys h e =
    let on : at + w - at ≡ w = omega arith in
    let rest = length-drop at xs in
    let long : length (take (at + w - at) (drop at xs)) ≡ w = ap (λ k. length (take k (drop at xs))) on ∙ length-take-le w (drop at xs) (omega arith) in
    written_part at (at + w - at) (places b z w n) xs ys (e ∙ ap (λ k. places b z k n) long) (on ∙ sym (length_places b z w n))

-- bytes, and more bytes after them
pub written_on : (at i : ℕ) (a b xs : List ℕ) → at ≤ length xs → at + length a ≡ i → written i b (written at a xs) ≡ written at (a ++ b) xs
written_on at i a b xs h e =
    let front = take at xs ++ a in
    let n : length front ≡ i = length-append (take at xs) a ∙ ap (λ k. k + length a) (length-take-le at xs h) ∙ e in
    let whole : written at a xs ≡ front ++ drop i xs = sym (append_assoc (take at xs) a (drop (at + length a) xs)) ∙ ap (λ k. front ++ drop k xs) e in
    let start : take i (written at a xs) ≡ front = ap (take i) whole ∙ take_at front (drop i xs) i n in
    let rest : drop i (written at a xs) ≡ drop i xs = ap (drop i) whole ∙ drop_at front (drop i xs) i n in
    let both = length-append a b in
    let tail : drop (i + length b) (written at a xs) ≡ drop (at + length (a ++ b)) xs =
    sym (drop-drop (length b) i (written at a xs))
    ∙ ap (drop (length b)) rest
    ∙ drop-drop (length b) i xs
    ∙ ap (λ k. drop k xs) (omega arith) in
    ap (λ zs. zs ++ (b ++ drop (i + length b) (written at a xs))) start
    ∙ ap (λ zs. front ++ (b ++ zs)) tail
    ∙ append_assoc (take at xs) a (b ++ drop (at + length (a ++ b)) xs)
    ∙ ap (λ zs. take at xs ++ zs) (sym (append_assoc a b (drop (at + length (a ++ b)) xs)))

-- bytes that fill the whole buffer
pub written_whole : (bytes xs : List ℕ) → length bytes ≡ length xs → written 0 bytes xs ≡ bytes
written_whole bytes xs e = ap (λ zs. bytes ++ zs) (drop_all (0 + length bytes) xs (omega arith)) ∙ append-nil bytes

-- bytes between others
pub part_at : (p q s : List ℕ) (i j : ℕ) → length p ≡ i → length q ≡ j - i → between i j (p ++ (q ++ s)) ≡ q
part_at p q s i j e f = ap (take (j - i)) (drop_at p (q ++ s) i e) ∙ take_at q s (j - i) f

pub part_last : (p q : List ℕ) (i j : ℕ) → length p ≡ i → length q ≡ j - i → between i j (p ++ q) ≡ q
part_last p q i j e f = ap (take (j - i)) (drop_at p q i e) ∙ take_all (j - i) q (omega arith)

-- five fields that fill a buffer, the i-th from its place on
pub record Five (a b c d e : List ℕ) (i j k l n : ℕ) : Type 0 where
  pub first : length a ≡ i
  pub second : length b ≡ j - i
  pub third : length c ≡ k - j
  pub fourth : length d ≡ l - k
  pub fifth : length e ≡ n - l

module _ (a b c d e : List ℕ) (i j k l n : ℕ) (f : Five a b c d e i j k l n) (ij : i ≤ j) (jk : j ≤ k) (kl : k ≤ l) (ln : l ≤ n) where
  two : length (a ++ b) ≡ j
  two = let p = f.first in let q = f.second in length-append a b ∙ omega arith

  three : length ((a ++ b) ++ c) ≡ k
  three = let p = two in let q = f.third in length-append (a ++ b) c ∙ omega arith

  four : length (((a ++ b) ++ c) ++ d) ≡ l
  four = let p = three in let q = f.fourth in length-append ((a ++ b) ++ c) d ∙ omega arith

  by_two : a ++ (b ++ (c ++ (d ++ e))) ≡ (a ++ b) ++ (c ++ (d ++ e))
  by_two = sym (append_assoc a b (c ++ (d ++ e)))

  by_three : a ++ (b ++ (c ++ (d ++ e))) ≡ ((a ++ b) ++ c) ++ (d ++ e)
  by_three = by_two ∙ sym (append_assoc (a ++ b) c (d ++ e))

  by_four : a ++ (b ++ (c ++ (d ++ e))) ≡ (((a ++ b) ++ c) ++ d) ++ e
  by_four = by_three ∙ sym (append_assoc ((a ++ b) ++ c) d e)

  pub all_long : length (a ++ (b ++ (c ++ (d ++ e)))) ≡ n
  all_long = let p = four in let q = f.fifth in ap length by_four ∙ length-append (((a ++ b) ++ c) ++ d) e ∙ omega arith

  pub five_written : (xs x1 x2 x3 x4 x5 : List ℕ) → length xs ≡ n → x1 ≡ written 0 a xs → x2 ≡ written i b x1 → x3 ≡ written j c x2 → x4 ≡ written k d x3 → x5 ≡ written l e x4 → x5 ≡ a ++ (b ++ (c ++ (d ++ e)))
  five_written xs x1 x2 x3 x4 x5 long w1 w2 w3 w4 w5 =
      let y2 : x2 ≡ written 0 (a ++ b) xs = w2 ∙ ap (written i b) w1 ∙ written_on 0 i a b xs (omega arith) (let z = f.first in omega arith) in
      let y3 : x3 ≡ written 0 ((a ++ b) ++ c) xs = w3 ∙ ap (written j c) y2 ∙ written_on 0 j (a ++ b) c xs (omega arith) (let z = two in omega arith) in
      let y4 : x4 ≡ written 0 (((a ++ b) ++ c) ++ d) xs = w4 ∙ ap (written k d) y3 ∙ written_on 0 k ((a ++ b) ++ c) d xs (omega arith) (let z = three in omega arith) in
      let y5 : x5 ≡ written 0 ((((a ++ b) ++ c) ++ d) ++ e) xs = w5 ∙ ap (written l e) y4 ∙ written_on 0 l (((a ++ b) ++ c) ++ d) e xs (omega arith) (let z = four in omega arith) in
      y5 ∙ written_whole ((((a ++ b) ++ c) ++ d) ++ e) xs (sym (ap length by_four) ∙ all_long ∙ sym long) ∙ sym by_four

  pub first_read : between 0 i (a ++ (b ++ (c ++ (d ++ e)))) ≡ a
  first_read = part_at [] a (b ++ (c ++ (d ++ e))) 0 i refl (let p = f.first in omega arith)

  pub second_read : between i j (a ++ (b ++ (c ++ (d ++ e)))) ≡ b
  second_read = part_at a b (c ++ (d ++ e)) i j f.first f.second

  pub third_read : between j k (a ++ (b ++ (c ++ (d ++ e)))) ≡ c
  third_read = ap (between j k) by_two ∙ part_at (a ++ b) c (d ++ e) j k two f.third

  pub fourth_read : between k l (a ++ (b ++ (c ++ (d ++ e)))) ≡ d
  fourth_read = ap (between k l) by_three ∙ part_at ((a ++ b) ++ c) d e k l three f.fourth

  pub fifth_read : between l n (a ++ (b ++ (c ++ (d ++ e)))) ≡ e
  fifth_read = ap (between l n) by_four ∙ part_last (((a ++ b) ++ c) ++ d) e l n four f.fifth
