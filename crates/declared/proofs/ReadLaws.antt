-- What reading answers, by what each check answers.
use Rattle.std.proofs.Common.{◌≡◌, ℕ, zero, suc, ◌*◌, ◌/◌, ◌%◌, ◌<◌, not, ◌||◌, eqb, List, length, Ok, Err, Result, sym, refl, ap, ◌∙◌, ⊎_elim, arith}
use Rattle.std.proofs.lemmas.Bool.{cond-true, cases_Bool, or_parts, eqb-true, eqb-false, not-false}
use Rattle.declared.specs.File.{File, lines_in, shown_in, file_in, whole_lines, well_formed, sound, onward, read_file}
use Rattle.declared.specs.declared.faults.ReadFault.{ReadFault}
use Rattle.declared.specs.declared.faults.ReadFault.TheVariants.{Length}

-- what is left to judge
abbrev after_forms : List ℕ → Result File ReadFault
after_forms bytes = onward (sound (shown_in bytes)) (Ok (file_in bytes))

abbrev after_length : List ℕ → Result File ReadFault
after_length bytes = onward (well_formed (lines_in bytes)) (after_forms bytes)

module _ (bytes : List ℕ) where
  pub no_lines : (f : ReadFault) → Err f ≡ whole_lines (length bytes) → Err f ≡ read_file bytes
  unfolding read_file
  no_lines f e = ap (λ r. onward r (after_length bytes)) e

  module _ (u : Ok tt ≡ whole_lines (length bytes)) where
    pub not_formed : (f : ReadFault) → Err f ≡ well_formed (lines_in bytes) → Err f ≡ read_file bytes
    unfolding read_file
    not_formed f e = ap (λ r. onward r (after_forms bytes)) e ∙ ap (λ r. onward r (after_length bytes)) u

    module _ (v : Ok tt ≡ well_formed (lines_in bytes)) where
      pub not_sound : (f : ReadFault) → Err f ≡ sound (shown_in bytes) → Err f ≡ read_file bytes
      unfolding read_file
      not_sound f e = ap (λ r. onward r (Ok (file_in bytes))) e ∙ (ap (λ r. onward r (after_forms bytes)) v ∙ ap (λ r. onward r (after_length bytes)) u)

      pub accepted : Ok tt ≡ sound (shown_in bytes) → Ok (file_in bytes) ≡ read_file bytes
      unfolding read_file
      accepted e = ap (λ r. onward r (Ok (file_in bytes))) e ∙ (ap (λ r. onward r (after_forms bytes)) v ∙ ap (λ r. onward r (after_length bytes)) u)

-- what was accepted passed each check
onward_was : {B E : Type 0} (r : Result (Unit {0}) E) (next : Result B E) (x : B) → onward r next ≡ Ok x → (r ≡ Ok tt) × (next ≡ Ok x)
onward_was (Ok u) next x e = (refl, e)
onward_was (Err f) next x e = absurd (let z : ◌≡◌ {A = ℕ} 0 1 = cc in omega arith)

pub record Passed (bytes : List ℕ) (file : File) : Type 0 where
  pub whole : whole_lines (length bytes) ≡ Ok tt
  pub formed : well_formed (lines_in bytes) ≡ Ok tt
  pub standing : sound (shown_in bytes) ≡ Ok tt
  pub is : file_in bytes ≡ file

pub was_accepted : (bytes : List ℕ) (file : File) → read_file bytes ≡ Ok file → Passed bytes file
unfolding read_file
was_accepted bytes file e =
    let a = onward_was (whole_lines (length bytes)) (after_length bytes) file e in
    let b = onward_was (well_formed (lines_in bytes)) (after_forms bytes) file a.1 in
    let d = onward_was (sound (shown_in bytes)) (Ok (file_in bytes)) file b.1 in
    let same : file_in bytes ≡ file = let f = d.1 in cc in
    record { whole = a.0; formed = b.0; standing = d.0; is = same }

pub lines_whole : (n : ℕ) → whole_lines n ≡ Ok tt → (0 < n) × (n ≡ n / 129 * 129)
lines_whole n e =
    ⊎_elim
    (λ t. absurd (let w : Err (Length n) ≡ Ok tt = sym (cond-true (eqb n 0 || not (eqb (n % 129) 0)) (Err (Length n)) (Ok tt) t) ∙ e in let z : ◌≡◌ {A = ℕ} 0 1 = cc in omega arith))
    (λ t.
    let p = or_parts (eqb n 0) (not (eqb (n % 129) 0)) t in
    let some = eqb-false n 0 p.0 in
    let even : n % 129 ≡ 0 = eqb-true (n % 129) 0 (not-false (eqb (n % 129) 0) p.1) in
    (positive n some, omega arith))
    (cases_Bool (eqb n 0 || not (eqb (n % 129) 0)))
  where
    positive : (m : ℕ) → (m ≡ 0 → ⊥) → 0 < m
    positive zero h = absurd (h refl)
    positive (suc m) h = omega arith
