-- In an accepted file each line but the last is a detail line; and what a contest of such a file answers.
use Rattle.std.proofs.Common.{◌≡◌, ℕ, suc, ◌+◌, ◌-◌, Bool, true, false, cond, List, [], ◌∷◌, ◌++◌, length, take, drop, Some, Ok, Err, Option, Result, sym, refl, ap, ◌∙◌, subst, zero-add, arith}
use Rattle.values.specs.declared.calendar.Month.{Month}
use Rattle.values.specs.declared.terms.Terms.{Terms}
use Rattle.rating.specs.Rating.{Book}
use Rattle.detraf.specs.Fields.{written}
use Rattle.detraf.specs.declared.totals.Totals.{Totals}
use Rattle.declared.specs.File.{File, read_file, shown_in, sound_from, detail_count}
use Rattle.declared.specs.Lines.{Line, detail, total}
use Rattle.declared.specs.declared.lines.Head.{Head}
use Rattle.declared.proofs.ReadLaws.{was_accepted}
use Rattle.verdicts.specs.Contests.{admitted, admits, counted, filled, verdict_bytes, contest_answer, contest_after}
use Rattle.declared.specs.Details.{details_in, details}
use Rattle.verdicts.specs.declared.faults.ContestFault.{ContestFault}

err_not_ok : {A E : Type 0} {x : A} {f : E} → ◌≡◌ {A = Result A E} (Err f) (Ok x) → ⊥
err_not_ok e = let z : ◌≡◌ {A = ℕ} 0 1 = cc in omega arith

passed : {E : Type 0} (b : Bool) (f : E) (r : Result (Unit {0}) E) → cond b (Err f) r ≡ Ok tt → r ≡ Ok tt
passed true f r e = absurd (err_not_ok e)
passed false f r e = e

standing_details : (sums : Totals) (before : Option Line) (i : ℕ) (ls : List Line) → sound_from sums before i ls ≡ Ok tt → length (details_in (take (length ls - 1) ls)) ≡ length ls - 1
standing_details sums before i [] e = refl
standing_details sums before i (l ∷ []) e = refl
standing_details sums before i (detail d ∷ (m ∷ ls)) e =
    let n : length (detail d ∷ (m ∷ ls)) - 1 ≡ suc (length (m ∷ ls) - 1) = omega arith in
    let h = standing_details sums (Some (detail d)) (i + 1) (m ∷ ls) (passed _ _ _ e) in
    ap (λ k. length (details_in (take k (detail d ∷ (m ∷ ls))))) n ∙ (ap suc h ∙ sym n)
standing_details sums before i (total t ∷ (m ∷ ls)) e = absurd (err_not_ok e)

pub file_details : (bytes : List ℕ) (file : File) → Ok file ≡ read_file bytes → length (details file) ≡ detail_count file
file_details bytes file e =
    let p = was_accepted bytes file (sym e) in
    subst (λ (f : File). length (details f) ≡ detail_count f) p.is (standing_details _ _ 0 (shown_in bytes) p.standing)

-- what `admit` answered, of values that are the statement's and the file's
pub record Asked (terms : Terms) (reference : Month) (bytes out : List ℕ) : Type 0 where
  pub file : File
  pub its_terms : Terms
  pub its_reference : Month
  pub head : Head
  pub count : ℕ
  pub is_read : Ok file ≡ read_file bytes
  pub terms_are : its_terms ≡ terms
  pub reference_is : its_reference ≡ reference
  pub head_is : head ≡ file.head
  pub count_is : count ≡ detail_count file

abbrev pub asks : {terms : Terms} {reference : Month} {bytes : List ℕ} (out : List ℕ) (file : File) {t : Terms} {m : Month} {h : Head} {n : ℕ} → Ok file ≡ read_file bytes → t ≡ terms → m ≡ reference → h ≡ file.head → n ≡ detail_count file → Asked terms reference bytes out
asks out file {t} {m} {h} {n} a b c d e = record {
  file = file;
  its_terms = t;
  its_reference = m;
  head = h;
  count = n;
  is_read = a;
  terms_are = b;
  reference_is = c;
  head_is = d;
  count_is = e;
}

module _ {terms : Terms} {reference : Month} {bytes out : List ℕ} (a : Asked terms reference bytes out) where
  all_counted : a.count ≡ length (details a.file)
  all_counted = a.count_is ∙ sym (file_details bytes a.file a.is_read)

  asked : admitted a.its_terms a.its_reference a.head a.count (length out) ≡ admits terms reference a.file out
  asked =
      ap (λ t. admitted t a.its_reference a.head a.count (length out)) a.terms_are
      ∙ (ap (λ m. admitted terms m a.head a.count (length out)) a.reference_is
      ∙ (ap (λ h. admitted terms reference h a.count (length out)) a.head_is
      ∙ ap (λ n. admitted terms reference a.file.head n (length out)) all_counted))

  module _ (f : ContestFault) (e : Err f ≡ admitted a.its_terms a.its_reference a.head a.count (length out)) where
    pub refused_answer : Err f ≡ contest_answer terms reference (read_file bytes) out
    refused_answer = ap (λ r. counted r (length (details a.file))) (e ∙ asked) ∙ ap (λ r. contest_answer terms reference r out) a.is_read

    pub refused_after : (book : Book) → out ≡ contest_after book terms reference (read_file bytes) out
    refused_after book = ap (λ r. filled r (verdict_bytes book terms reference a.file) out) (e ∙ asked) ∙ ap (λ r. contest_after book terms reference r out) a.is_read

  module _ (e : Ok tt ≡ admitted a.its_terms a.its_reference a.head a.count (length out)) where
    pub given_answer : Ok a.count ≡ contest_answer terms reference (read_file bytes) out
    given_answer =
        ap Ok all_counted
        ∙ (ap (λ r. counted r (length (details a.file))) (e ∙ asked) ∙ ap (λ r. contest_answer terms reference r out) a.is_read)

    pub given_after : (book : Book) (zs : List ℕ) → zs ≡ written 0 (verdict_bytes book a.its_terms a.its_reference a.file) out → zs ≡ contest_after book terms reference (read_file bytes) out
    given_after book zs w =
        w
        ∙ (ap (λ t. written 0 (verdict_bytes book t a.its_reference a.file) out) a.terms_are
        ∙ (ap (λ m. written 0 (verdict_bytes book terms m a.file) out) a.reference_is
        ∙ (ap (λ n. verdict_bytes book terms reference a.file ++ drop n out) (zero-add (length (verdict_bytes book terms reference a.file)))
        ∙ (ap (λ r. filled r (verdict_bytes book terms reference a.file) out) (e ∙ asked) ∙ ap (λ r. contest_after book terms reference r out) a.is_read))))
