-- A file's bodies, cut by its contents, and what is told of them.
use Rattle.std.proofs.Common.{◌≡◌, ℕ, ◌-◌, List, length, take, drop, Some, Ok, Err, Option, Result, MatchOption, Bor, subst, ◌<◌, sym, ap, ◌∙◌, arith}
use Rattle.std.proofs.lemmas.Bool.{cond-true, eq-eqb}
use Rattle.std.proofs.lemmas.List.{take-take}
use Rattle.std.specs.Array.{IsFirstChunk}
use Rattle.std.specs.List.{between}
use Rattle.agreement.specs.declared.faults.AgreementFault.{AgreementFault}
use Rattle.agreement.specs.declared.faults.AgreementFault.TheVariants.{Length}
use Rattle.agreement.specs.declared.parts.Part.TheVariants.{Scenarios, Tariffs}
use Rattle.agreement.specs.Agreement.{judged, opened}
use Rattle.agreement.specs.Books.{stated_bodies, if_ok, bodies_in}
use Rattle.agreement.specs.Contents.{Bodies, contents, onward, bodies_at, tariffs_at, ends_at, sized}
use Rattle.agreement.specs.Tables.{rows_in_part}

pub cut_is : (n m : ℕ) (bs : List ℕ) → length bs ≡ ends_at n m → (p : List ℕ) (s t : List (List ℕ)) → p ≡ take 17 (take (length bs - 48) (drop 48 bs))
    → s ≡ rows_in_part Scenarios (between 65 (tariffs_at n) bs) → t ≡ rows_in_part Tariffs (take (length bs - tariffs_at n) (drop (tariffs_at n) bs))
    → sized n m bs ≡ Ok (record { parties = p; scenarios = s; tariffs = t })
cut_is n m bs l p s t ep es et =
    let first : p ≡ between 48 65 bs = ep ∙ take-take 17 (length bs - 48) (drop 48 bs) (omega arith) in
    let last : t ≡ rows_in_part Tariffs (between (tariffs_at n) (ends_at n m) bs) = et ∙ ap (λ v. rows_in_part Tariffs (take (v - tariffs_at n) (drop (tariffs_at n) bs))) l in
    let bodies : bodies_at n m bs ≡ record { parties = p; scenarios = s; tariffs = t } =
    ap (λ v. record { parties = v; scenarios = rows_in_part Scenarios (between 65 (tariffs_at n) bs); tariffs = rows_in_part Tariffs (between (tariffs_at n) (ends_at n m) bs) }) (sym first)
    ∙ ap (λ v. record { parties = p; scenarios = v; tariffs = rows_in_part Tariffs (between (tariffs_at n) (ends_at n m) bs) }) (sym es)
    ∙ ap (λ v. record { parties = p; scenarios = s; tariffs = v }) (sym last) in
    cond-true _ (Ok (bodies_at n m bs)) (Err Length) (eq-eqb (length bs) (ends_at n m) l) ∙ ap (λ v. Ok v) bodies

-- the array at the front of a slice
pub chunk_is : (xs : List ℕ) (n : ℕ) (o : Option (Bor (List ℕ))) (p : Bor (List ℕ)) → o ≡ Some p → MatchOption o (length xs < n) (λ y. IsFirstChunk xs y.now n) → p.now ≡ take n xs
chunk_is xs n o p e h = let k : IsFirstChunk xs p.now n = subst (λ (v : Option (Bor (List ℕ))). MatchOption v (length xs < n) (λ y. IsFirstChunk xs y.now n)) e h in k.same

-- a file is opened, and its book made, by its bodies
module _ (bs : List ℕ) (r : Result Bodies AgreementFault) (e : contents bs ≡ r) where
  pub opened_by : onward r judged ≡ opened bs
  unfolding opened
  opened_by = ap (λ v. onward v judged) (sym e)

  pub bodies_by : if_ok (onward r judged) (stated_bodies r) ≡ bodies_in bs
  bodies_by = ap (λ v. if_ok v (stated_bodies r)) opened_by ∙ ap (λ v. if_ok (opened bs) (stated_bodies v)) (sym e)
