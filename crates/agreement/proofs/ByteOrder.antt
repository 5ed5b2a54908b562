-- The number of a text, taken in two parts.
use Rattle.std.proofs.Common.{◌≡◌, ℕ, ◌+◌, ◌-◌, ◌*◌, List, [], ◌∷◌, ◌++◌, take, drop, sym, refl, ap, ◌∙◌}
use Rattle.std.proofs.lemmas.List.{take-append-drop}
use Rattle.digits.specs.Positional.{number_after}

-- a number goes on from the number of its front
pub number_append : (b z n : ℕ) (xs ys : List ℕ) → number_after b z n (xs ++ ys) ≡ number_after b z (number_after b z n xs) ys
number_append b z n [] ys = refl
number_append b z n (x ∷ xs) ys = number_append b z (n * b + (x - z)) xs ys

pub number_cut : (b z n m : ℕ) (xs : List ℕ) → number_after b z n xs ≡ number_after b z (number_after b z n (take m xs)) (drop m xs)
number_cut b z n m xs = ap (number_after b z n) (sym (take-append-drop m xs)) ∙ number_append b z n (take m xs) (drop m xs)
