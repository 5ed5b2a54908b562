-- The number of the first row that passes a test.
use Rattle.std.proofs.Common.{◌≡◌, ℕ, ◌+◌, Bool, true, false, cond, ltb, List, [], ◌∷◌, length, Some, None, Option, refl, ap, ◌∙◌, arith}
use Rattle.std.proofs.lemmas.Iterator.Adapters.{position_from-zero}
use Rattle.std.specs.List.{position_from, position_or_len}
use Rattle.std.specs.Option.{option_map}

shifted : {K : Type 0} (test : K → Bool) (k n : ℕ) (xs : List K) → option_map (λ i. i + k) (position_from test n xs) ≡ position_from test (n + k) xs
shifted test k n [] = refl
shifted test k n (x ∷ xs) = go (test x) (position_from test (n + 1) xs) (position_from test (n + k + 1) xs) (shifted test k (n + 1) xs ∙ ap (λ m. position_from test m xs) (omega arith))
  where
    go : (b : Bool) (o p : Option ℕ) → option_map (λ i. i + k) o ≡ p → option_map (λ i. i + k) (cond b (Some n) o) ≡ cond b (Some (n + k)) p
    go true o p e = refl
    go false o p e = e

-- from what `position` answers, where the first row has the number k
pub first_at : {K : Type 0} (test : K → Bool) (k : ℕ) (xs : List K) (o : Option ℕ) → o ≡ cond (ltb (position_or_len test xs) (length xs)) (Some (position_or_len test xs)) None → option_map (λ i. i + k) o ≡ position_from test k xs
first_at test k xs o e = ap (option_map (λ i. i + k)) (e ∙ position_from-zero test xs) ∙ shifted test k 0 xs ∙ ap (λ m. position_from test m xs) (omega arith)
