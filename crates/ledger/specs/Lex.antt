-- Numbers in order, and lists of numbers in lexical order.
use Rattle.std.specs.Prelude.{ℕ, cond, List, [], ◌∷◌, ◌==◌, nat_lt}
use Rattle.std.specs.declared.cmp.Ordering.TheVariants.{Less, Equal, Greater}
use Rattle.std.specs.declared.cmp.Ordering.{Ordering}
use Rattle.std.specs.Ordering.{ordering_then}
use Rattle.ledger.specs.Keys.{KeyOps}

abbrev pub order_of : ℕ → ℕ → Ordering
order_of x y = cond (nat_lt x y) Less (cond (x == y) Equal Greater)

abbrev pub lex_order : List ℕ → List ℕ → Ordering
lex_order [] [] = Equal
lex_order [] (y ∷ ys) = Less
lex_order (x ∷ xs) [] = Greater
lex_order (x ∷ xs) (y ∷ ys) = ordering_then (order_of x y) (lex_order xs ys)

-- keys that are compared by their figures, the first that differ deciding
abbrev pub keys_by : {K R : Type 0} → (R → K) → (K → List ℕ) → KeyOps K R
keys_by key figures = record { key_of = key; order = λ a b. lex_order (figures a) (figures b) }
