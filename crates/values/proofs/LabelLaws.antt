-- A text of a label has the number of a label.
use Rattle.std.proofs.Common.{◌≡◌, ℕ, ◌^◌, ◌<◌, Bool, true, cond, ◌&&◌, eqb, ltb, leb, List, length, get_or, Some, None, Option, sym, ap, ◌∙◌, ⊎_elim, arith}
use Rattle.std.proofs.lemmas.Bool.{and_parts, and_from, lt-ltb, eqb-true, cond-true, cond-false, cases_Bool}
use Rattle.digits.specs.Positional.{big_endian, bytes_of, read_bytes}
use Rattle.digits.proofs.Positional.{bytes_back}

-- over any test on texts of w bytes
module _ (w : ℕ) (label : List ℕ → Bool) (rest : List ℕ → Bool) (is : (cs : List ℕ) → label cs ≡ (eqb (length cs) w && rest cs)) where
  pub label_length : (cs : List ℕ) → label cs ≡ true → length cs ≡ w
  label_length cs h = eqb-true (length cs) w (and_parts (eqb (length cs) w) (rest cs) (sym (is cs) ∙ h)).0

  pub label_small : (cs : List ℕ) → ((i : ℕ) → get_or cs i 0 < 256) → label cs ≡ true → big_endian cs < 256 ^ w
  label_small cs bytes h = rw (label_length cs h) at (bytes_back cs bytes).1

  pub label_number_lem : (cs : List ℕ) → ((i : ℕ) → get_or cs i 0 < 256) → label cs ≡ true → (ltb (big_endian cs) (256 ^ w) && label (bytes_of w (big_endian cs))) ≡ true
  label_number_lem cs bytes h =
      let back : bytes_of w (big_endian cs) ≡ cs = rw (label_length cs h) at (bytes_back cs bytes).0 in
      and_from (ltb (big_endian cs) (256 ^ w)) (label (bytes_of w (big_endian cs)))
      (lt-ltb (big_endian cs) (256 ^ w) (label_small cs bytes h)) (ap label back ∙ h)

-- at most 16 bytes have their number
pub bytes_read : (cs : List ℕ) (n : ℕ) → Some n ≡ read_bytes cs → n ≡ big_endian cs
bytes_read cs n e =
    ⊎_elim
    (λ t. let s : Some n ≡ Some (big_endian cs) = e ∙ cond-true (leb (length cs) 16) (Some (big_endian cs)) None t in cc)
    (λ t.
    let s : Some n ≡ None = e ∙ cond-false (leb (length cs) 16) (Some (big_endian cs)) None t in
    let z : ◌≡◌ {A = ℕ} 0 1 = cc in
    absurd (omega arith))
    (cases_Bool (leb (length cs) 16))

-- a text that is a label names the value of its number
pub label_named : {V : Type 0} (t : Bool) (of : ℕ → Option V) (cs : List ℕ) (n : ℕ) (v : V) → true ≡ t → n ≡ big_endian cs → of n ≡ Some v → Some v ≡ cond t (of (big_endian cs)) None
label_named t of cs n v h e b = sym (cond-true t (of (big_endian cs)) None (sym h) ∙ ap of (sym e) ∙ b)
