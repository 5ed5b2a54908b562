-- What it takes for bodies to be accepted, and what accepted rows are.
use Rattle.std.proofs.Common.{◌≡◌, ℕ, zero, suc, ◌+◌, ◌<◌, Bool, true, false, cond, not, List, [], ◌∷◌, length, get_or, take, drop, is_ok, Some, None, Ok, Err, Option, Result, Ordering, Less, Equal, Greater, refl, ap, arith}
use Rattle.std.proofs.lemmas.Bool.{and_from, and_parts}
use Rattle.std.specs.List.{position_from, zip}
use Rattle.std.specs.Ordering.{is_lt}
use Rattle.values.specs.declared.terms.Terms.{Terms}
use Rattle.agreement.specs.declared.faults.AgreementFault.{AgreementFault}
use Rattle.agreement.specs.declared.parts.Part.{Part}
use Rattle.agreement.specs.declared.parts.Part.TheVariants.{Scenarios, Tariffs}
use Rattle.agreement.specs.Agreement.{faulted, stated_terms, well_formed, rising, judged}
use Rattle.agreement.specs.Contents.{Bodies, onward}
use Rattle.agreement.specs.Parts.{key_length}
use Rattle.agreement.specs.RowFields.{is_row}
use Rattle.agreement.specs.Sound.{is_sound}
use Rattle.agreement.specs.Tables.{first_malformed, steps_up, first_not_rising}
use Rattle.agreement.proofs.OrderLaws.{order, Rise}

onward_ok : {A B E : Type 0} (r : Result A E) (f : A → Result B E) (y : B) → Ok y ≡ onward r f → (x : A) × (r ≡ Ok x) × (Ok y ≡ f x)
onward_ok (Ok x) f y e = (x, refl, e)
onward_ok (Err x) f y e = let z : ◌≡◌ {A = ℕ} 0 1 = cc in absurd (omega arith)

pub judged_sound : (b : Bodies) (terms : Terms) → Ok terms ≡ judged b → (is_sound Scenarios b.scenarios ≡ true) × (is_sound Tariffs b.tariffs ≡ true)
judged_sound v terms e =
    let a = onward_ok (stated_terms v.parties) _ terms e in
    let b = onward_ok (well_formed Scenarios v.scenarios) _ terms a.2 in
    let c = onward_ok (well_formed Tariffs v.tariffs) _ terms b.2 in
    let d = onward_ok (rising Scenarios v.scenarios) _ terms c.2 in
    let f = onward_ok (rising Tariffs v.tariffs) _ terms d.2 in (
      and_from (is_ok (well_formed Scenarios v.scenarios)) (is_ok (rising Scenarios v.scenarios)) (ap is_ok b.1) (ap is_ok d.1),
      and_from (is_ok (well_formed Tariffs v.tariffs)) (is_ok (rising Tariffs v.tariffs)) (ap is_ok c.1) (ap is_ok f.1),
    )

-- no row is at fault
no_fault : (fault : ℕ → AgreementFault) (o : Option ℕ) → is_ok (faulted fault o) ≡ true → o ≡ None
no_fault fault None e = refl
no_fault fault (Some row) e = let z : ◌≡◌ {A = ℕ} 0 1 = cc in absurd (omega arith)

goes_on : (b : Bool) (n : ℕ) (o : Option ℕ) → cond (not b) (Some n) o ≡ None → (b ≡ true) × (o ≡ None)
goes_on true n o e = (refl, e)
goes_on false n o e = let z : ◌≡◌ {A = ℕ} 0 1 = cc in absurd (omega arith)

none_fails : (ok : List ℕ → Bool) (n : ℕ) (rows : List (List ℕ)) → position_from (λ row. not (ok row)) n rows ≡ None → (i : ℕ) → i < length rows → ok (get_or rows i []) ≡ true
none_fails ok n [] e i h = absurd (omega arith)
none_fails ok n (row ∷ rows) e zero h = (goes_on (ok row) n _ e).0
none_fails ok n (row ∷ rows) e (suc i) h = none_fails ok (n + 1) rows (goes_on (ok row) n _ e).1 i (omega arith)

steps_less : (o : Ordering) → is_lt o ≡ true → o ≡ Less
steps_less Less e = refl
steps_less Equal e = let z : ◌≡◌ {A = ℕ} 0 1 = cc in absurd (omega arith)
steps_less Greater e = let z : ◌≡◌ {A = ℕ} 0 1 = cc in absurd (omega arith)

none_falls : (k n : ℕ) (rows : List (List ℕ)) → position_from (λ pair. not (steps_up k pair)) n (zip rows (drop 1 rows)) ≡ None → Rise k rows
none_falls k n [] e i h = absurd (omega arith)
none_falls k n (row ∷ []) e i h = absurd (omega arith)
none_falls k n (row ∷ (next ∷ rows)) e zero h = steps_less (order (take k row) (take k next)) (goes_on (steps_up k (row, next)) n _ e).0
none_falls k n (row ∷ (next ∷ rows)) e (suc i) h = none_falls k (n + 1) (next ∷ rows) (goes_on (steps_up k (row, next)) n _ e).1 i (omega arith)

-- sound rows: every one is well formed, and they rise
module _ (part : Part) (rows : List (List ℕ)) (e : is_sound part rows ≡ true) where
  both : (is_ok (well_formed part rows) ≡ true) × (is_ok (rising part rows) ≡ true)
  both = and_parts (is_ok (well_formed part rows)) (is_ok (rising part rows)) e

  pub rows_sound : (i : ℕ) → i < length rows → is_row part (get_or rows i []) ≡ true
  rows_sound = none_fails (is_row part) 1 rows (no_fault _ (first_malformed part rows) both.0)

  pub rows_rise : Rise (key_length part) rows
  rows_rise = none_falls (key_length part) 2 rows (no_fault _ (first_not_rising (key_length part) rows) both.1)
