-- A key written in three parts.
use Rattle.std.proofs.Common.{◌≡◌, ℕ, ◌≤◌, List, ◌++◌, length, take, drop, sym, ap, ◌∙◌, append_assoc, arith}
use borrow.Rule.Slice.PartMut.{put_mid, post_of}
use Rattle.std.proofs.lemmas.List.{append-nil, length-append, length-drop, length-take-le, take_at, drop_at, drop_all}
use Rattle.digits.specs.Positional.{places}
use Rattle.digits.proofs.Positional.{length_places}

-- what fills a part has the part's length
filled : (b z n w : ℕ) (part xs : List ℕ) → xs ≡ places b z (length (take w part)) n → w ≤ length part → (xs ≡ places b z w n) × (length xs ≡ w)
filled b z n w part xs e h =
    let q : xs ≡ places b z w n = e ∙ ap (λ v. places b z v n) (length-take-le w part h) in
    (q, ap length q ∙ length_places b z w n)

pub key_written : (b z : ℕ) (out xs ys zs : List ℕ) (p d y : ℕ) → length out ≡ 23
    → xs ≡ places 256 0 (length (take 10 out)) p
    → ys ≡ places 256 0 (length (take 5 (drop 10 (xs ++ post_of 0 10 out)))) d
    → zs ≡ places b z (length (take 8 (drop 15 (put_mid 10 5 (xs ++ post_of 0 10 out) ys)))) y
    → put_mid 15 8 (put_mid 10 5 (xs ++ post_of 0 10 out) ys) zs ≡ places 256 0 10 p ++ (places 256 0 5 d ++ places b z 8 y)
key_written b z out xs ys zs p d y lo ex ey ez =
    let rest = drop 5 (drop 10 out) in
    let l10 : length (drop 10 out) ≡ 13 = length-drop 10 out ∙ omega arith in
    let l15 : length rest ≡ 8 = length-drop 5 (drop 10 out) ∙ omega arith in
    let fx = filled 256 0 p 10 out xs ex (omega arith) in
    let after : drop 10 (xs ++ post_of 0 10 out) ≡ drop 10 out = drop_at xs (drop 10 out) 10 fx.1 in
    let la = ap length after in
    let fy = filled 256 0 d 5 (drop 10 (xs ++ post_of 0 10 out)) ys ey (omega arith) in
    let lx = fx.1 in
    let ly = fy.1 in
    let lxy : length (xs ++ ys) ≡ 15 = length-append xs ys ∙ omega arith in
    let inner : put_mid 10 5 (xs ++ post_of 0 10 out) ys ≡ (xs ++ ys) ++ rest =
    ap (λ v. v ++ (ys ++ drop 5 (drop 10 (xs ++ drop 10 out)))) (take_at xs (drop 10 out) 10 fx.1)
    ∙ ap (λ v. xs ++ (ys ++ drop 5 v)) after
    ∙ sym (append_assoc xs ys rest) in
    let over : drop 15 (put_mid 10 5 (xs ++ post_of 0 10 out) ys) ≡ rest = ap (drop 15) inner ∙ drop_at (xs ++ ys) rest 15 lxy in
    let lv = ap length over in
    let fz = filled b z y 8 (drop 15 (put_mid 10 5 (xs ++ post_of 0 10 out) ys)) zs ez (omega arith) in
    ap (λ v. put_mid 15 8 v zs) inner
    ∙ ap (λ v. v ++ (zs ++ drop 8 (drop 15 ((xs ++ ys) ++ rest)))) (take_at (xs ++ ys) rest 15 lxy)
    ∙ ap (λ v. (xs ++ ys) ++ (zs ++ drop 8 v)) (drop_at (xs ++ ys) rest 15 lxy)
    ∙ ap (λ v. (xs ++ ys) ++ (zs ++ v)) (drop_all 8 rest (omega arith))
    ∙ ap (λ v. (xs ++ ys) ++ v) (append-nil zs)
    ∙ append_assoc xs ys zs
    ∙ ap (λ v. v ++ (ys ++ zs)) fx.0
    ∙ ap (λ v. places 256 0 10 p ++ (v ++ zs)) fy.0
    ∙ ap (λ v. places 256 0 10 p ++ (places 256 0 5 d ++ v)) fz.0
