-- Searching a table of fields for the first that has not its form.
use Rattle.std.proofs.Common.{◌≡◌, ℕ, zero, suc, ◌<◌, true, false, not, cond, List, [], ◌∷◌, ◌++◌, length, get_or, Some, None, Option, sym, refl, ◌∙◌, ⊎_elim, arith}
use Rattle.std.specs.List.{find}
use Rattle.std.specs.Option.{option_map}
use Rattle.std.proofs.lemmas.Bool.{cond-true, cond-false, and_parts, cases_Bool}
use Rattle.declared.specs.Forms.{is_sound, first_malformed, is_within, all_within}
use Rattle.declared.specs.declared.forms.FieldForm.{FieldForm}

-- every field of a table lies in a line
pub within_at : (fs : List FieldForm) (k : ℕ) (f : FieldForm) → all_within fs ≡ true → k < length fs → f ≡ get_or fs k f → is_within f ≡ true
within_at [] k f e h p = absurd (omega arith)
within_at (g ∷ fs) zero f e h p = rw p (and_parts (is_within g) (all_within fs) e).0
within_at (g ∷ fs) (suc k) f e h p = within_at fs k f (and_parts (is_within g) (all_within fs) e).1 (omega arith) p

-- the first field that has not its form
pub find_malformed : (first line : List ℕ) (fs : List FieldForm) → option_map (λ f. f.number) (find (λ f. not (is_sound first line f)) fs) ≡ first_malformed first line fs
find_malformed first line [] = refl
find_malformed first line (f ∷ fs) =
    elim (is_sound first line f) as (λ b. option_map (λ f. f.number) (cond (not b) (Some f) (find (λ f. not (is_sound first line f)) fs)) ≡ cond b (first_malformed first line fs) (Some f.number))
    [ true ↦ find_malformed first line fs | false ↦ refl ]

-- one table after another
malformed_first : (first line : List ℕ) (xs ys : List FieldForm) (n : ℕ) → Some n ≡ first_malformed first line xs → Some n ≡ first_malformed first line (xs ++ ys)
malformed_first first line [] ys n e = absurd (let z : ◌≡◌ {A = ℕ} 0 1 = cc in omega arith)
malformed_first first line (x ∷ xs) ys n e =
    ⊎_elim
    (λ t. malformed_first first line xs ys n (e ∙ cond-true _ (first_malformed first line xs) (Some x.number) t) ∙ sym (cond-true _ (first_malformed first line (xs ++ ys)) (Some x.number) t))
    (λ t. e ∙ (cond-false _ (first_malformed first line xs) (Some x.number) t ∙ sym (cond-false _ (first_malformed first line (xs ++ ys)) (Some x.number) t)))
    (cases_Bool (is_sound first line x))

malformed_next : (first line : List ℕ) (xs ys : List FieldForm) → None ≡ first_malformed first line xs → first_malformed first line ys ≡ first_malformed first line (xs ++ ys)
malformed_next first line [] ys e = refl
malformed_next first line (x ∷ xs) ys e =
    ⊎_elim
    (λ t. malformed_next first line xs ys (e ∙ cond-true _ (first_malformed first line xs) (Some x.number) t) ∙ sym (cond-true _ (first_malformed first line (xs ++ ys)) (Some x.number) t))
    (λ t. absurd (let w : None ≡ Some x.number = e ∙ cond-false _ (first_malformed first line xs) (Some x.number) t in let z : ◌≡◌ {A = ℕ} 0 1 = cc in omega arith))
    (cases_Bool (is_sound first line x))

pub malformed_either : (first line : List ℕ) (xs ys : List FieldForm) (o r : Option ℕ) → o ≡ first_malformed first line xs → (o ≡ None → r ≡ first_malformed first line ys) → ((n : ℕ) → o ≡ Some n → r ≡ Some n) → r ≡ first_malformed first line (xs ++ ys)
malformed_either first line xs ys None r e f g = f refl ∙ malformed_next first line xs ys e
malformed_either first line xs ys (Some n) r e f g = g n refl ∙ malformed_first first line xs ys n e

-- a fact, and those that come after it
abbrev pub ◌▸◌ : {A B : Type 0} → A → B → A × B
◌▸◌ a b = (a, b)

infixr 20 ◌▸◌
-- every field of a table has its form
abbrev pub AllSound : List ℕ → List ℕ → List FieldForm → Type 0
AllSound first line [] = Unit {0}
AllSound first line (f ∷ fs) = (is_sound first line f ≡ true) × AllSound first line fs

pub all_sound : (first line : List ℕ) (fs : List FieldForm) → first_malformed first line fs ≡ None → AllSound first line fs
all_sound first line [] e = tt
all_sound first line (f ∷ fs) e =
    ⊎_elim
    (λ t. (t, all_sound first line fs (sym (cond-true _ (first_malformed first line fs) (Some f.number) t) ∙ e)))
    (λ t. absurd (let w : Some f.number ≡ None = sym (cond-false _ (first_malformed first line fs) (Some f.number) t) ∙ e in let z : ◌≡◌ {A = ℕ} 0 1 = cc in omega arith))
    (cases_Bool (is_sound first line f))

pub none_malformed : (first line : List ℕ) (fs : List FieldForm) → AllSound first line fs → first_malformed first line fs ≡ None
none_malformed first line [] e = refl
none_malformed first line (f ∷ fs) e = cond-true _ (first_malformed first line fs) (Some f.number) e.0 ∙ none_malformed first line fs e.1

pub sound_parts : (first line : List ℕ) (xs ys : List FieldForm) → AllSound first line (xs ++ ys) → AllSound first line xs × AllSound first line ys
sound_parts first line [] ys e = (tt, e)
sound_parts first line (x ∷ xs) ys e = let p = sound_parts first line xs ys e.1 in ((e.0, p.0), p.1)

pub sound_both : (first line : List ℕ) (xs ys : List FieldForm) → AllSound first line xs → AllSound first line ys → AllSound first line (xs ++ ys)
sound_both first line [] ys e f = f
sound_both first line (x ∷ xs) ys e f = (e.0, sound_both first line xs ys e.1 f)
