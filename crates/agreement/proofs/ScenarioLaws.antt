-- The row of a descriptor, found by the search and told of all rows.
use Rattle.std.proofs.Common.{◌≡◌, ℕ, zero, suc, ◌<◌, true, false, List, [], ◌∷◌, length, get_or, take, None, Ok, Err, Result, Less, Equal, Greater, sym, refl, ap, ◌∙◌, ⊎_elim, arith}
use Rattle.std.proofs.lemmas.Bool.{cond-true, cond-false, cases_lt}
use Rattle.std.proofs.lemmas.List.{get_or_default}
use Rattle.std.proofs.lemmas.Map.Text.{is_eq-slice_cmp}
use Rattle.std.specs.List.{between, AllWithin, HoldsAt}
use Rattle.std.specs.List.Sorted.{IsNonDecreasingBy, IsSearchInRange, IsBinarySearchResult}
use Rattle.std.specs.Ordering.{is_eq, ordering_index}
use Rattle.digits.specs.Positional.{bytes_of}
use Rattle.std.specs.Result.{result_ok}
use Rattle.values.specs.Checked.{and_then}
use Rattle.values.specs.declared.labels.Descriptor.{Descriptor}
use Rattle.agreement.specs.declared.parts.Part.TheVariants.{Scenarios}
use Rattle.agreement.specs.Books.{is_of, scenario_among, scenario_table}
use Rattle.agreement.specs.RowFields.{scenario_in}
use Rattle.agreement.specs.Sound.{is_sound}
use Rattle.agreement.proofs.OrderLaws.{order, key_at, equal_texts, index_rises, later_above}
use Rattle.agreement.proofs.SoundLaws.{rows_rise}

among_none : (d : Descriptor) (rows : List (List ℕ)) → ((j : ℕ) → j < length rows → is_of d (get_or rows j []) ≡ false) → scenario_among d rows ≡ None
among_none d [] h = refl
among_none d (row ∷ rows) h =
    cond-false (is_of d row) (scenario_in (between 5 14 row)) (scenario_among d rows) (h 0 (omega arith))
    ∙ among_none d rows (λ j l. h (suc j) (omega arith))

among_at : (d : Descriptor) (rows : List (List ℕ)) (i : ℕ) → i < length rows → is_of d (get_or rows i []) ≡ true → ((j : ℕ) → j < i → is_of d (get_or rows j []) ≡ false) → scenario_among d rows ≡ scenario_in (between 5 14 (get_or rows i []))
among_at d [] i l e h = absurd (omega arith)
among_at d (row ∷ rows) zero l e h = cond-true (is_of d row) (scenario_in (between 5 14 row)) (scenario_among d rows) e
among_at d (row ∷ rows) (suc i) l e h =
    cond-false (is_of d row) (scenario_in (between 5 14 row)) (scenario_among d rows) (h 0 (omega arith))
    ∙ among_at d rows i (omega arith) e (λ j k. h (suc j) (omega arith))

module _ (rows : List (List ℕ)) (d : Descriptor) (sound : is_sound Scenarios rows ≡ true) (key : List ℕ) (is : key ≡ bytes_of 5 d.number) where
  told : (row : List ℕ) → is_of d row ≡ is_eq (order (take 5 row) key)
  told row = sym (is_eq-slice_cmp (take 5 row) (bytes_of 5 d.number)) ∙ ap (λ v. is_eq (order (take 5 row) v)) (sym is)

  answers_rise : IsNonDecreasingBy (λ row. ordering_index (order (take 5 row) key)) rows
  answers_rise i j x h l =
      ⊎_elim
      (λ k.
      let a = ap (λ row. ordering_index (order (take 5 row) key)) (get_or_default rows i x [] (omega arith)) in
      let b = ap (λ row. ordering_index (order (take 5 row) key)) (get_or_default rows j x [] l) in
      let r = index_rises (key_at 5 rows i) (key_at 5 rows j) key (later_above 5 rows (rows_rise Scenarios rows sound) i j k l) in
      omega arith)
      (λ k. let e = ap (λ v. ordering_index (order (take 5 (get_or rows v x)) key)) (let q : i ≡ j = omega arith in q) in omega arith)
      (cases_lt i j)

  scenario_none : (i : ℕ) → AllWithin (λ row. order (take 5 row) key ≡ Less) rows 0 i × AllWithin (λ row. order (take 5 row) key ≡ Greater) rows i (length rows) → scenario_table rows d ≡ None
  unfolding scenario_table
  scenario_none i split =
      among_none d rows
      (λ j l. told (get_or rows j []) ∙ ⊎_elim (λ k. ap is_eq (split.0 j [] (omega arith) k)) (λ k. ap is_eq (split.1 j [] k l)) (cases_lt j i))

  scenario_at : (i : ℕ) → i < length rows → HoldsAt (λ row. order (take 5 row) key ≡ Equal) rows i → scenario_table rows d ≡ scenario_in (between 5 14 (get_or rows i []))
  unfolding scenario_table
  scenario_at i l found =
      among_at d rows i l (told (get_or rows i []) ∙ ap is_eq (found []))
      (λ j h.
      told (get_or rows j [])
      ∙ ap (λ v. is_eq (order (key_at 5 rows j) v)) (sym (equal_texts (key_at 5 rows i) key (found [])))
      ∙ ap is_eq (later_above 5 rows (rows_rise Scenarios rows sound) j i h l))

  -- what a search answers is what the table does
  pub scenario_found : (r : Result ℕ ℕ) → IsSearchInRange r (length rows) → IsBinarySearchResult (λ row. order (take 5 row) key) rows r → and_then (result_ok r) (λ i. scenario_in (between 5 14 (get_or rows i []))) ≡ scenario_table rows d
  scenario_found (Ok i) l s = sym (scenario_at i l s)
  scenario_found (Err i) l s = sym (scenario_none i (s answers_rise))
