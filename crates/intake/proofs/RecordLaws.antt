-- How the records of an input go on with its next bytes.
use Rattle.std.proofs.Common.{◌≡◌, ℕ, suc, ◌<◌, true, false, cond, ◌||◌, eqb, List, [], ◌∷◌, ◌++◌, length, get_or, take, sym, refl, ap, ◌∙◌, inl, inr, arith}
use Rattle.std.proofs.lemmas.List.{take_all}
use Rattle.std.proofs.lemmas.Bool.{false≢true, or_parts, or_right, cond-true, cond-false, cases_Bool, eqb-true}
use Rattle.intake.specs.Lines.{line_feed, has_end, line_length}
use Rattle.intake.specs.Records.{on_first, ended_records, unended_rest, rest_record}

-- bytes with no line feed end no record, and are all unended
pub ended_none : (cs : List ℕ) → has_end cs ≡ false → ended_records cs ≡ []
ended_none [] h = refl
ended_none (c ∷ cs) h = let p = or_parts (eqb c line_feed) (has_end cs) h in rw (p.0, ended_none cs p.1)

pub rest_none : (cs : List ℕ) → has_end cs ≡ false → unended_rest cs ≡ cs
rest_none [] h = refl
rest_none (c ∷ cs) h = cond-false (has_end (c ∷ cs)) (unended_rest cs) (c ∷ cs) h

-- after other bytes they go on with the rest
has_on : (xs ys : List ℕ) → has_end ys ≡ false → has_end (xs ++ ys) ≡ has_end xs
has_on [] ys h = h
has_on (c ∷ cs) ys h = ap (λ t. eqb c line_feed || t) (has_on cs ys h)

pub ended_on : (xs ys : List ℕ) → has_end ys ≡ false → ended_records (xs ++ ys) ≡ ended_records xs
ended_on [] ys h = ended_none ys h
ended_on (c ∷ cs) ys h = ap (λ rs. cond (eqb c line_feed) ([] ∷ rs) (on_first c rs)) (ended_on cs ys h)

pub rest_on : (xs ys : List ℕ) → has_end ys ≡ false → unended_rest (xs ++ ys) ≡ unended_rest xs ++ ys
rest_on [] ys h = rest_none ys h
rest_on (c ∷ cs) ys h =
    let e : has_end (c ∷ (cs ++ ys)) ≡ has_end (c ∷ cs) = has_on (c ∷ cs) ys h in
    elim (cases_Bool (has_end (c ∷ cs))) [
      | inl t ↦
          cond-true (has_end (c ∷ (cs ++ ys))) (unended_rest (cs ++ ys)) (c ∷ (cs ++ ys)) (e ∙ t)
          ∙ (rest_on cs ys h ∙ ap (λ r. r ++ ys) (sym (cond-true (has_end (c ∷ cs)) (unended_rest cs) (c ∷ cs) t)))
      | inr f ↦
          cond-false (has_end (c ∷ (cs ++ ys))) (unended_rest (cs ++ ys)) (c ∷ (cs ++ ys)) (e ∙ f)
          ∙ ap (λ r. r ++ ys) (sym (cond-false (has_end (c ∷ cs)) (unended_rest cs) (c ∷ cs) f))
    ]

-- a line feed leaves no rest
has_line : (xs : List ℕ) → has_end (xs ++ (line_feed ∷ [])) ≡ true
has_line [] = refl
has_line (c ∷ cs) = or_right (eqb c line_feed) (has_end (cs ++ (line_feed ∷ []))) (has_line cs)

pub rest_line : (xs : List ℕ) → unended_rest (xs ++ (line_feed ∷ [])) ≡ []
rest_line [] = refl
rest_line (c ∷ cs) =
    cond-true (has_end (c ∷ (cs ++ (line_feed ∷ [])))) (unended_rest (cs ++ (line_feed ∷ []))) (c ∷ (cs ++ (line_feed ∷ []))) (has_line (c ∷ cs))
    ∙ rest_line cs

-- and makes a record of the rest
length_on_first : (c : ℕ) (rs : List (List ℕ)) → length (on_first c rs) ≡ length rs
length_on_first c [] = refl
length_on_first c (r ∷ rs) = refl

ended_some : (cs : List ℕ) → has_end cs ≡ true → 0 < length (ended_records cs)
ended_some [] h = absurd (false≢true h)
ended_some (c ∷ cs) h =
    elim (cases_Bool (eqb c line_feed)) [
      | inl t ↦ rw t (omega arith)
      | inr f ↦
          let e : has_end cs ≡ true = rw f at h in
          rw f (omega (arith, ended_some cs e, length_on_first c (ended_records cs)))
    ]

on_first_push : (c : ℕ) (rs : List (List ℕ)) (r : List ℕ) → 0 < length rs → on_first c (rs ++ (r ∷ [])) ≡ on_first c rs ++ (r ∷ [])
on_first_push c [] r h = absurd (omega arith)
on_first_push c (q ∷ rs) r h = refl

pub ended_line : (xs : List ℕ) → ended_records (xs ++ (line_feed ∷ [])) ≡ ended_records xs ++ (unended_rest xs ∷ [])
ended_line [] = refl
ended_line (c ∷ cs) =
    elim (cases_Bool (eqb c line_feed)) [
      | inl t ↦ rw t (ap (λ rs. [] ∷ rs) (ended_line cs))
      | inr f ↦
          elim (cases_Bool (has_end cs)) [
            | inl t ↦ rw (f, t, ended_line cs) (on_first_push c (ended_records cs) (unended_rest cs) (ended_some cs t))
            | inr n ↦ rw (f, n, ended_line cs, ended_none cs n, rest_none cs n)
          ]
    ]

-- the bytes before the first line feed
pub none_before : (cs : List ℕ) → has_end (take (line_length cs) cs) ≡ false
none_before [] = refl
none_before (c ∷ cs) =
    elim (cases_Bool (eqb c line_feed)) [
      | inl t ↦ rw t refl
      | inr f ↦ rw f (rw f (none_before cs))
    ]

pub feed_after : (cs : List ℕ) → line_length cs < length cs → get_or cs (line_length cs) 0 ≡ line_feed
feed_after [] h = absurd (omega arith)
feed_after (c ∷ cs) h =
    elim (cases_Bool (eqb c line_feed)) [
      | inl t ↦ rw t (eqb-true c line_feed t)
      | inr f ↦
          let l : line_length cs < length cs = omega (arith, cond-false (eqb c line_feed) 0 (suc (line_length cs)) f) in
          rw f (feed_after cs l)
    ]

pub none_in_all : (cs : List ℕ) → line_length cs ≡ length cs → has_end cs ≡ false
none_in_all cs e =
    let w : take (line_length cs) cs ≡ cs = take_all (line_length cs) cs (omega arith) in
    ap has_end (sym w) ∙ none_before cs

-- a rest that is not empty is one record
pub rest_some : (p : List ℕ) → 0 < length p → rest_record p ≡ p ∷ []
rest_some [] h = absurd (omega arith)
rest_some (c ∷ cs) h = refl
