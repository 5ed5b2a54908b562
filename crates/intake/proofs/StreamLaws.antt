-- One record of an input, and what the sink took.
use Rattle.std.proofs.Common.{◌≡◌, ℕ, ◌<◌, false, List, [], ◌∷◌, ◌++◌, length, None, Some, Option, sym, refl, ap, ◌∙◌, subst, arith}
use Rattle.std.proofs.lemmas.List.{append_assoc}
use Rattle.std.proofs.lemmas.Bool.{eqb-false}
use Rattle.arrayvec.specs.ArrayVec.{ArrayVec}
use Rattle.intake.specs.declared.Intake.{Intake}
use Rattle.intake.specs.declared.sink.RecordSink as RecordSink
use Rattle.intake.specs.Lines.{line_feed, has_end}
use Rattle.intake.specs.Records.{ended_records, unended_rest, records_of}
use Rattle.intake.specs.Stream.{IsHeld, is_nothing, Holds, holds_nothing, TakesAll, Fed}
use Rattle.intake.proofs.RecordLaws.{ended_on, rest_on, ended_line, rest_line, rest_some}

-- where something is held, the record is not empty
some_held : (held : Option (ArrayVec ℕ)) (p : List ℕ) → false ≡ is_nothing held → IsHeld held p → 0 < length p
some_held None p f h = omega (arith, h)
some_held (Some v) p f h =
    let n : length v.items ≡ 0 → ⊥ = eqb-false (length v.items) 0 (sym f) in
    let e : length v.items ≡ length p = ap length h.0 in
    omega arith

module _ {S : Type 0} (sinks : RecordSink.Ghosts S) where
  pub takes_push : (s t u : S) (rs : List (List ℕ)) (r : List ℕ) → TakesAll sinks s rs t → sinks.takes t r u → TakesAll sinks s (rs ++ (r ∷ [])) u
  takes_push s t u [] r all one = (u, subst (λ (x : S). sinks.takes x r u) (sym all) one, refl)
  takes_push s t u (q ∷ rs) r all one = (all.0, all.1, takes_push all.0 t u rs r all.2 one)

  -- bytes with no line feed
  pub fed_on : (start : S) (xs ys : List ℕ) (s t : Intake S) → has_end ys ≡ false → t.sink ≡ s.sink → ((p : List ℕ) → Holds s p → Holds t (p ++ ys)) → Fed sinks start xs s → Fed sinks start (xs ++ ys) t
  fed_on start xs ys s t none same held fed = record {
    rest = subst (λ (p : List ℕ). Holds t p) (sym (rest_on xs ys none)) (held (unended_rest xs) fed.rest);
    taken = subst (λ (rs : List (List ℕ)). TakesAll sinks start rs t.sink) (sym (ended_on xs ys none)) (subst (λ (u : S). TakesAll sinks start (ended_records xs) u) (sym same) fed.taken);
  }

  -- bytes that a line feed ends
  pub fed_line : (start : S) (xs ys : List ℕ) (s t : Intake S) → has_end ys ≡ false → ((p : List ℕ) → Holds s p → Holds t [] × sinks.takes s.sink (p ++ ys) t.sink) → Fed sinks start xs s → Fed sinks start (xs ++ (ys ++ (line_feed ∷ []))) t
  fed_line start xs ys s t none took fed =
      let all = xs ++ (ys ++ (line_feed ∷ [])) in
      let r = took (unended_rest xs) fed.rest in
      let a : (xs ++ ys) ++ (line_feed ∷ []) ≡ all = append_assoc xs ys (line_feed ∷ []) in
      let e : unended_rest all ≡ [] = ap unended_rest (sym a) ∙ rest_line (xs ++ ys) in
      let d : ended_records all ≡ ended_records xs ++ ((unended_rest xs ++ ys) ∷ []) =
      ap ended_records (sym a) ∙ (ended_line (xs ++ ys) ∙ rw (ended_on xs ys none, rest_on xs ys none)) in
      record {
        rest = subst (λ (p : List ℕ). Holds t p) (sym e) r.0;
        taken = subst (λ (rs : List (List ℕ)). TakesAll sinks start rs t.sink) (sym d) (takes_push start s.sink t.sink (ended_records xs) (unended_rest xs ++ ys) fed.taken r.1);
      }

  -- the end of the input, after a rest
  pub ends_rest : (start u : S) (xs : List ℕ) (s : Intake S) → false ≡ holds_nothing s → Fed sinks start xs s → sinks.takes s.sink (unended_rest xs) u → TakesAll sinks start (records_of xs) u
  ends_rest start u xs s some fed one =
      subst (λ (rs : List (List ℕ)). TakesAll sinks start (ended_records xs ++ rs) u) (sym (rest_some (unended_rest xs) (some_held s.held (unended_rest xs) some fed.rest)))
      (takes_push start s.sink u (ended_records xs) (unended_rest xs) fed.taken one)
