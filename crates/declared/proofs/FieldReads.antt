-- A field as it is written has its form, and reads back.
use Rattle.std.proofs.Common.{◌≡◌, ℕ, ◌^◌, ◌<◌, ◌≤◌, Bool, true, cond, ◌&&◌, eqb, ltb, leb, List, length, get_or, drop, is_some, Some, None, Option, unwrap_or, sym, ap, ◌∙◌, arith}
use Rattle.std.proofs.lemmas.List.{get_or-take, get_or-drop}
use Rattle.std.proofs.lemmas.Bool.{and_parts, cond-true, le-leb, ltb-true}
use Rattle.digits.specs.Positional.{numeral, write_decimal, big_endian, read_bytes, bytes_of}
use Rattle.digits.proofs.Positional.{reads_back, length_places, number_places}
use Rattle.values.specs.Checked.{and_then, numbered}
use Rattle.values.specs.Labels.{is_point, is_descriptor}
use Rattle.values.specs.Values.{point_of, point_in, descriptor_of, descriptor_in}
use Rattle.values.specs.declared.labels.Descriptor.{Descriptor}
use Rattle.values.specs.declared.labels.Point.{Point}
use Rattle.values.proofs.Backs.{point_back, descriptor_back}
use Rattle.detraf.specs.Columns.{columns}
use Rattle.declared.specs.Forms.{is_total}

-- digits
module _ (w n : ℕ) (few : w ≤ 19) (fits : n < 10 ^ w) (cs : List ℕ) (e : cs ≡ write_decimal w n) where
  numeral_reads : numeral w cs ≡ Some n
  numeral_reads = ap (numeral w) e ∙ reads_back w n few fits

  pub number_reads : unwrap_or (numeral w cs) 0 ≡ n
  number_reads = ap (λ o. unwrap_or o 0) numeral_reads

  pub digits_form : is_some (numeral (length cs) cs) ≡ true
  digits_form = ap (λ k. is_some (numeral k cs)) (ap length e ∙ length_places 10 48 w n) ∙ ap is_some numeral_reads

  pub numbered_form : {A : Type 0} (of : ℕ → Option A) (a : A) → of n ≡ Some a → is_some (numbered w of cs) ≡ true
  numbered_form of a f = ap (λ o. is_some (and_then o of)) numeral_reads ∙ ap is_some f

-- labels: of bytes that a number gives
pub label_reads : (w n : ℕ) → w ≤ 16 → n < 256 ^ w → read_bytes (bytes_of w n) ≡ Some n
label_reads w n few fits =
    let l : length (bytes_of w n) ≡ w = length_places 256 0 w n in
    cond-true (leb (length (bytes_of w n)) 16) (Some (big_endian (bytes_of w n))) None (le-leb (length (bytes_of w n)) 16 (omega arith))
    ∙ ap Some (number_places 256 0 w n (omega arith) fits)

label_form : {V : Type 0} (w n : ℕ) (is : List ℕ → Bool) (of : ℕ → Option V) (v : V) → n < 256 ^ w → is (bytes_of w n) ≡ true → of n ≡ Some v → (cs : List ℕ) → cs ≡ bytes_of w n → is_some (cond (is cs) (of (big_endian cs)) None) ≡ true
label_form w n is of v fits t f cs e =
    ap (λ xs. is_some (cond (is xs) (of (big_endian xs)) None)) e
    ∙ (ap is_some (cond-true (is (bytes_of w n)) (of (big_endian (bytes_of w n))) None t)
    ∙ (ap (λ m. is_some (of m)) (number_places 256 0 w n (omega arith) fits) ∙ ap is_some f))

pub point_fits : (p : Point) → (p.number < 256 ^ 10) × (is_point (bytes_of 10 p.number) ≡ true)
point_fits p =
    let q = and_parts (ltb p.number (256 ^ 10)) (is_point (bytes_of 10 p.number)) p.ok in
    (ltb-true p.number (256 ^ 10) q.0, q.1)

pub descriptor_fits : (d : Descriptor) → (d.number < 256 ^ 5) × (is_descriptor (bytes_of 5 d.number) ≡ true)
descriptor_fits d =
    let q = and_parts (ltb d.number (256 ^ 5)) (is_descriptor (bytes_of 5 d.number)) d.ok in
    (ltb-true d.number (256 ^ 5) q.0, q.1)

pub point_form : (p : Point) (cs : List ℕ) → cs ≡ bytes_of 10 p.number → is_some (point_in cs) ≡ true
point_form p cs e = let q = point_fits p in label_form 10 p.number is_point point_of p q.0 q.1 (point_back p) cs e

pub descriptor_form : (d : Descriptor) (cs : List ℕ) → cs ≡ bytes_of 5 d.number → is_some (descriptor_in cs) ≡ true
descriptor_form d cs e = let q = descriptor_fits d in label_form 5 d.number is_descriptor descriptor_of d q.0 q.1 (descriptor_back d) cs e

-- the type by its two columns
pub type_of : (line : List ℕ) → is_total line ≡ (eqb (get_or (columns 29 30 line) 0 0) 48 && eqb (get_or (columns 29 30 line) 1 0) 49)
type_of line =
    ap (λ a. eqb a 48 && eqb (get_or line 29 0) 49) (sym (get_or-take 2 (drop 28 line) 0 0 (omega arith) ∙ get_or-drop 28 line 0 0))
    ∙ ap (λ b. eqb (get_or (columns 29 30 line) 0 0) 48 && eqb b 49) (sym (get_or-take 2 (drop 28 line) 1 0 (omega arith) ∙ get_or-drop 28 line 1 0))
