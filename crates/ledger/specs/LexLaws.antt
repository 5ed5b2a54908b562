-- The lexical order of lists of numbers has the laws of a key order.
use Rattle.std.specs.Prelude.{◌≡◌, ℕ, ◌<◌, ◌⊎◌, List, [], ◌∷◌, refl}
use Rattle.std.specs.declared.cmp.Ordering.TheVariants.{Less, Equal, Greater}
use Rattle.std.specs.declared.cmp.Ordering.{Ordering}
use Rattle.std.proofs.Common.{sym, ◌∙◌, inl, inr, ⊎_elim, arith}
use Rattle.std.specs.Ordering.{ordering_then, ordering_reverse}
use Rattle.std.proofs.lemmas.Bool.Decides.{nat_tests}
use Rattle.ledger.specs.Keys.{OrderLaws}
use Rattle.ledger.specs.Lex.{order_of, lex_order, keys_by}

order_same : (x : ℕ) → order_of x x ≡ Equal
order_same x = grind (arith, nat_tests)

order_identical : (x y : ℕ) → order_of x y ≡ Equal → x ≡ y
order_identical x y e = grind (arith, nat_tests)

order_less : (x y : ℕ) → order_of x y ≡ Less → x < y
order_less x y e = grind (arith, nat_tests)

order_flipped : (x y : ℕ) → order_of y x ≡ ordering_reverse (order_of x y)
order_flipped x y = grind (arith, nat_tests)

pub lex_same : (xs : List ℕ) → lex_order xs xs ≡ Equal
lex_same [] = refl
lex_same (x ∷ xs) = rw (order_same x) (lex_same xs)

then_flipped : (a b : Ordering) → ordering_reverse (ordering_then a b) ≡ ordering_then (ordering_reverse a) (ordering_reverse b)
then_flipped Less b = refl
then_flipped Equal b = refl
then_flipped Greater b = refl

pub lex_flipped : (xs ys : List ℕ) → lex_order ys xs ≡ ordering_reverse (lex_order xs ys)
lex_flipped [] [] = refl
lex_flipped [] (y ∷ ys) = refl
lex_flipped (x ∷ xs) [] = refl
lex_flipped (x ∷ xs) (y ∷ ys) = rw (order_flipped x y, lex_flipped xs ys) (sym (then_flipped (order_of x y) (lex_order xs ys)))

then_equal : (a b : Ordering) → ordering_then a b ≡ Equal → (a ≡ Equal) × (b ≡ Equal)
then_equal Less b e = let z : ◌≡◌ {A = ℕ} 0 1 = cc in absurd (omega arith)
then_equal Equal b e = (refl, e)
then_equal Greater b e = let z : ◌≡◌ {A = ℕ} 0 1 = cc in absurd (omega arith)

pub lex_identical : (xs ys : List ℕ) → lex_order xs ys ≡ Equal → xs ≡ ys
lex_identical [] [] e = refl
lex_identical [] (y ∷ ys) e = let z : ◌≡◌ {A = ℕ} 0 1 = cc in absurd (omega arith)
lex_identical (x ∷ xs) [] e = let z : ◌≡◌ {A = ℕ} 0 1 = cc in absurd (omega arith)
lex_identical (x ∷ xs) (y ∷ ys) e =
    let both = then_equal (order_of x y) (lex_order xs ys) e in
    let head = order_identical x y both.0 in
    let tail = lex_identical xs ys both.1 in
    cc

then_less : (a b : Ordering) → ordering_then a b ≡ Less → (a ≡ Less) ⊎ ((a ≡ Equal) × (b ≡ Less))
then_less Less b e = inl refl
then_less Equal b e = inr (refl, e)
then_less Greater b e = let z : ◌≡◌ {A = ℕ} 0 1 = cc in absurd (omega arith)

less_order : (x y : ℕ) → x < y → order_of x y ≡ Less
less_order x y h = grind (arith, nat_tests)

pub lex_transitive : (xs ys zs : List ℕ) → lex_order xs ys ≡ Less → lex_order ys zs ≡ Less → lex_order xs zs ≡ Less
lex_transitive [] [] zs e f = let z : ◌≡◌ {A = ℕ} 0 1 = cc in absurd (omega arith)
lex_transitive [] (y ∷ ys) [] e f = let z : ◌≡◌ {A = ℕ} 0 1 = cc in absurd (omega arith)
lex_transitive [] (y ∷ ys) (z ∷ zs) e f = refl
lex_transitive (x ∷ xs) [] zs e f = let z : ◌≡◌ {A = ℕ} 0 1 = cc in absurd (omega arith)
lex_transitive (x ∷ xs) (y ∷ ys) [] e f = let z : ◌≡◌ {A = ℕ} 0 1 = cc in absurd (omega arith)
lex_transitive (x ∷ xs) (y ∷ ys) (z ∷ zs) e f =
    ⊎_elim
    (λ p. ⊎_elim
    (λ q. below (omega (arith, order_less x y p, order_less y z q)))
    (λ q. below (omega (arith, order_less x y p, order_identical y z q.0)))
    (then_less (order_of y z) (lex_order ys zs) f))
    (λ p. ⊎_elim
    (λ q. below (omega (arith, order_identical x y p.0, order_less y z q)))
    (λ q.
    let head : x ≡ z = order_identical x y p.0 ∙ order_identical y z q.0 in
    rw (head, order_same z) (lex_transitive xs ys zs p.1 q.1))
    (then_less (order_of y z) (lex_order ys zs) f))
    (then_less (order_of x y) (lex_order xs ys) e)
  where
    below : x < z → lex_order (x ∷ xs) (z ∷ zs) ≡ Less
    below h = rw (less_order x z h)

-- Keys that their figures tell apart have an order that is lawful.
pub keys_lawful : {K R : Type 0} (key : R → K) (figures : K → List ℕ) → ((a b : K) → figures a ≡ figures b → a ≡ b) → OrderLaws (keys_by key figures)
keys_lawful key figures apart = record {
  same = λ a. lex_same (figures a);
  identical = λ a b e. apart a b (lex_identical (figures a) (figures b) e);
  flipped = λ a b. lex_flipped (figures a) (figures b);
  transitive = λ a b c e f. lex_transitive (figures a) (figures b) (figures c) e f;
}

-- four comparisons in a row
pub then_four : (a b c d : Ordering) → ordering_then (ordering_then (ordering_then a b) c) d ≡ ordering_then a (ordering_then b (ordering_then c (ordering_then d Equal)))
then_four Less b c d = refl
then_four Greater b c d = refl
then_four Equal Less c d = refl
then_four Equal Greater c d = refl
then_four Equal Equal Less d = refl
then_four Equal Equal Greater d = refl
then_four Equal Equal Equal Less = refl
then_four Equal Equal Equal Equal = refl
then_four Equal Equal Equal Greater = refl
