-- A field that has its form is written back to the same bytes.
use Rattle.std.proofs.Common.{◌≡◌, ℕ, zero, suc, ◌+◌, ◌≤◌, true, ◌&&◌, eqb, ltb, leb, List, [], ◌∷◌, ◌++◌, length, get_or, take, drop, replicate, is_some, Some, None, Option, unwrap_or, sym, refl, ap, ◌∙◌, subst, arith}
use Rattle.std.specs.Str.{bytes_eq}
use Rattle.std.proofs.lemmas.Slice.Eq.{bytes_eq-Decides}
use Rattle.std.proofs.lemmas.List.{drop_all, drop-drop, drop_more, length-drop, length-take-le, take-append-drop}
use Rattle.std.proofs.lemmas.Bool.{and_parts, and_from, cond-true, eqb-true, le-leb, false≢true}
use Rattle.digits.specs.Positional.{are_digits, places, numeral, write_decimal, big_endian, read_bytes, bytes_of}
use Rattle.digits.proofs.Positional.{writes_back, places_number, places_none}
use Rattle.values.specs.Checked.{and_then, numbered}
use Rattle.detraf.specs.Fields.{field_width, field_bytes, fields_bytes}
use Rattle.detraf.specs.declared.field.Field.{Field}
use Rattle.detraf.specs.declared.field.Field.TheVariants.{Text}
use Rattle.declared.specs.Forms.{all_are, is_total}

-- fields that stand in a line, one behind the other from a place on
abbrev pub Fit : List Field → ℕ → List ℕ → Type 0
Fit [] at line = length line ≤ at
Fit (f ∷ fs) at line = (field_bytes f ≡ take (field_width f) (drop at line)) × Fit fs (at + field_width f) line

pub fits_back : (fs : List Field) (at : ℕ) (line : List ℕ) → Fit fs at line → fields_bytes fs ≡ drop at line
fits_back [] at line h = sym (drop_all at line h)
fits_back (f ∷ fs) at line h =
    ap (λ b. b ++ fields_bytes fs) h.0
    ∙ (ap (λ r. take (field_width f) (drop at line) ++ r) (fits_back fs (at + field_width f) line h.1 ∙ sym (drop-drop (field_width f) at line))
    ∙ take-append-drop (field_width f) (drop at line))

pub some_was : {A : Type 0} (o : Option A) → is_some o ≡ true → (x : A) × (o ≡ Some x)
some_was None e = absurd (false≢true e)
some_was (Some x) e = (x, refl)

pub length_part : (m k : ℕ) (line : List ℕ) → m + k ≤ length line → length (take k (drop m line)) ≡ k
length_part m k line h = let d = length-drop m line in length-take-le k (drop m line) (omega arith)

-- digits
pub number_back : (w : ℕ) (cs : List ℕ) → is_some (numeral w cs) ≡ true → write_decimal w (unwrap_or (numeral w cs) 0) ≡ cs
number_back w cs h =
    let p = some_was (numeral w cs) h in
    ap (λ o. write_decimal w (unwrap_or o 0)) p.1 ∙ (writes_back w cs p.0 p.1).0

pub digits_back : (w : ℕ) (cs : List ℕ) → length cs ≡ w → is_some (numeral (length cs) cs) ≡ true → write_decimal w (unwrap_or (numeral w cs) 0) ≡ cs
digits_back w cs n h = number_back w cs (subst (λ (v : ℕ). is_some (numeral v cs) ≡ true) n h)

then_some : {A B : Type 0} (o : Option A) (f : A → Option B) → is_some (and_then o f) ≡ true → is_some o ≡ true
then_some None f e = e
then_some (Some x) f e = refl

pub numbered_back : {A : Type 0} (w : ℕ) (of : ℕ → Option A) (cs : List ℕ) → is_some (numbered w of cs) ≡ true → write_decimal w (unwrap_or (numeral w cs) 0) ≡ cs
numbered_back w of cs h = number_back w cs (then_some (numeral w cs) of h)

-- bytes
pub digits_drop : (b z n : ℕ) (xs : List ℕ) → are_digits b z xs ≡ true → are_digits b z (drop n xs) ≡ true
digits_drop b z zero xs e = e
digits_drop b z (suc n) [] e = refl
digits_drop b z (suc n) (x ∷ xs) e = digits_drop b z n xs (and_parts (leb z x && ltb x (z + b)) (are_digits b z xs) e).1

pub digits_take : (b z n : ℕ) (xs : List ℕ) → are_digits b z xs ≡ true → are_digits b z (take n xs) ≡ true
digits_take b z zero xs e = refl
digits_take b z (suc n) [] e = refl
digits_take b z (suc n) (x ∷ xs) e =
    let p = and_parts (leb z x && ltb x (z + b)) (are_digits b z xs) e in
    and_from (leb z x && ltb x (z + b)) (are_digits b z (take n xs)) p.0 (digits_take b z n xs p.1)

pub text_back : (w m : ℕ) (line : List ℕ) → w ≤ 16 → m + w ≤ length line → are_digits 256 0 line ≡ true → field_bytes (Text w (read_bytes (take w (drop m line)))) ≡ take w (drop m line)
text_back w m line s h e =
    let cs = take w (drop m line) in
    let n : length cs ≡ w = length_part m w line h in
    let z : 0 + length cs ≡ w = omega arith in
    let d : are_digits 256 0 cs ≡ true = digits_take 256 0 w (drop m line) (digits_drop 256 0 m line e) in
    let p : places 256 0 (0 + length cs) (big_endian cs) ≡ places 256 0 0 0 ++ cs = places_number 256 0 0 0 cs (omega arith) d in
    ap (λ o. field_bytes (Text w o)) (cond-true (leb (length cs) 16) (Some (big_endian cs)) None (le-leb (length cs) 16 (omega arith)))
    ∙ (ap (λ k. bytes_of k (big_endian cs)) (sym z) ∙ (p ∙ ap (λ ys. ys ++ cs) (places_none 256 0 0)))

-- one byte throughout
pub filled_is : (b : ℕ) (cs : List ℕ) → all_are b cs ≡ true → replicate (length cs) b ≡ cs
filled_is b [] e = refl
filled_is b (c ∷ cs) e =
    let p = and_parts (eqb c b) (all_are b cs) e in
    ap (λ x. x ∷ replicate (length cs) b) (sym (eqb-true c b p.0)) ∙ ap (λ ys. c ∷ ys) (filled_is b cs p.1)

pub filled_back : (b w m : ℕ) (line : List ℕ) → m + w ≤ length line → all_are b (take w (drop m line)) ≡ true → replicate w b ≡ take w (drop m line)
filled_back b w m line h e = ap (λ k. replicate k b) (sym (length_part m w line h)) ∙ filled_is b (take w (drop m line)) e

pub same_is : (xs ys : List ℕ) → bytes_eq xs ys ≡ true → xs ≡ ys
same_is xs ys e = (bytes_eq-Decides xs ys).0 e

-- the types
pub type_00 : write_decimal 2 0 ≡ replicate 2 48
unfolding places
type_00 = refl

pub no_tariff : write_decimal 7 0 ≡ replicate 7 48
unfolding places
no_tariff = refl

pub type_01 : write_decimal 2 1 ≡ 48 ∷ (49 ∷ [])
unfolding places
type_01 = refl

pub total_type : (line : List ℕ) → 30 ≤ length line → is_total line ≡ true → take 2 (drop 28 line) ≡ 48 ∷ (49 ∷ [])
total_type line h e =
    let p = and_parts (eqb (get_or line 28 0) 48) (eqb (get_or line 29 0) 49) e in
    ap (take 2) (drop_more line 28 0 (omega arith) ∙ ap (λ xs. get_or line 28 0 ∷ xs) (drop_more line 29 0 (omega arith)))
    ∙ (ap (λ x. x ∷ (get_or line 29 0 ∷ [])) (eqb-true (get_or line 28 0) 48 p.0) ∙ ap (λ x. 48 ∷ (x ∷ [])) (eqb-true (get_or line 29 0) 49 p.1))
