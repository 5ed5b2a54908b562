-- Reorderings by steps that a proof can follow: they are those of `Shuffled`, and what they leave as it was.
use Rattle.std.proofs.Common.{◌≡◌, ℕ, zero, suc, ◌<◌, List, [], ◌∷◌, ◌++◌, map, length, get_or, set, sum_by, refl, ap, ◌∙◌, le_of_suc-le-suc, not-suc-le-zero, arith}
use Rattle.std.specs.List.Sorted.{IsPermutation}
use Rattle.std.specs.List.{swap as exchanged}
use Rattle.std.proofs.lemmas.List.Sums.{sum_by-cons}
use Rattle.std.proofs.lemmas.List.Sorted.{IsPermutation-refl, IsPermutation-cons, IsPermutation-swap, IsPermutation-trans, IsPermutation-keeps}

-- one list is a reordering of the other
pub data Reordered {X : Type 0} : List X → List X → Type 0 where
  none : Reordered [] []
  keep : {xs ys : List X} (x : X) → Reordered xs ys → Reordered (x ∷ xs) (x ∷ ys)
  swap : (x y : X) (xs : List X) → Reordered (x ∷ y ∷ xs) (y ∷ x ∷ xs)
  then : {xs ys zs : List X} → Reordered xs ys → Reordered ys zs → Reordered xs zs

pub reordered_refl : {X : Type 0} (xs : List X) → Reordered xs xs
reordered_refl [] = none
reordered_refl (x ∷ xs) = keep x (reordered_refl xs)

to_front : {X : Type 0} (x : X) (xs : List X) (j : ℕ) (d : X) → j < length xs → Reordered (x ∷ xs) (get_or xs j d ∷ set xs j x)
to_front x [] j d l = absurd (not-suc-le-zero l)
to_front x (y ∷ ys) zero d l = swap x y ys
to_front x (y ∷ ys) (suc j) d l = then (swap x y ys) (then (keep y (to_front x ys j d (le_of_suc-le-suc l))) (swap y (get_or ys j d) (set ys j x)))

traded : {X : Type 0} (xs : List X) (i j : ℕ) (d : X) → i < length xs → j < length xs → Reordered xs (set (set xs i (get_or xs j d)) j (get_or xs i d))
traded [] i j d l m = absurd (not-suc-le-zero l)
traded (x ∷ xs) zero zero d l m = reordered_refl (x ∷ xs)
traded (x ∷ xs) zero (suc j) d l m = to_front x xs j d (le_of_suc-le-suc m)
traded (x ∷ xs) (suc i) zero d l m = to_front x xs i d (le_of_suc-le-suc l)
traded (x ∷ xs) (suc i) (suc j) d l m = keep x (traded xs i j d (le_of_suc-le-suc l) (le_of_suc-le-suc m))

step : {X : Type 0} (xs l : List X) (i j : ℕ) → i < length l → j < length l → Reordered xs l → Reordered xs (exchanged l i j)
step xs [] i j p q h = h
step xs (d ∷ l) i j p q h = then h (traded (d ∷ l) i j d p q)

pub from_shuffled : {X : Type 0} (xs ys : List X) → IsPermutation xs ys → Reordered xs ys
from_shuffled xs ys h = IsPermutation-keeps xs (λ l. Reordered xs l) (reordered_refl xs) (step xs) ys h

pub to_shuffled : {X : Type 0} {xs ys : List X} → Reordered xs ys → IsPermutation xs ys
to_shuffled none = IsPermutation-refl []
to_shuffled (keep {xs = xs} {ys = ys} x h) = IsPermutation-cons x xs ys (to_shuffled h)
to_shuffled (swap x y xs) = IsPermutation-swap (x ∷ y ∷ xs) (y ∷ x ∷ xs) 0 1 (omega arith) (omega arith) refl
to_shuffled (then {xs = xs} {ys = ys} {zs = zs} h i) = IsPermutation-trans xs ys zs (to_shuffled h) (to_shuffled i)

pub reordered_map : {X Y : Type 0} (f : X → Y) {xs ys : List X} → Reordered xs ys → Reordered (map f xs) (map f ys)
reordered_map f none = none
reordered_map f (keep x h) = keep (f x) (reordered_map f h)
reordered_map f (swap x y xs) = swap (f x) (f y) (map f xs)
reordered_map f (then h i) = then (reordered_map f h) (reordered_map f i)

pub sum_by_reordered : {X : Type 0} (f : X → ℕ) {xs ys : List X} → Reordered xs ys → sum_by f xs ≡ sum_by f ys
sum_by_reordered f none = refl
sum_by_reordered f (keep {xs = xs} {ys = ys} x h) = omega (arith, sum_by-cons f x xs, sum_by-cons f x ys, sum_by_reordered f h)
sum_by_reordered f (swap x y xs) = omega (arith, sum_by-cons f x (y ∷ xs), sum_by-cons f y xs, sum_by-cons f y (x ∷ xs), sum_by-cons f x xs)
sum_by_reordered f (then h i) = sum_by_reordered f h ∙ sum_by_reordered f i

pub to_back : {X : Type 0} (x : X) (xs : List X) → Reordered (x ∷ xs) (xs ++ (x ∷ []))
to_back x [] = keep x none
to_back x (y ∷ ys) = then (swap x y ys) (keep y (to_back x ys))

pub map_append : {X Y : Type 0} (f : X → Y) (xs ys : List X) → map f (xs ++ ys) ≡ map f xs ++ map f ys
map_append f [] ys = refl
map_append f (x ∷ xs) ys = ap (λ l. f x ∷ l) (map_append f xs ys)

pub map_map : {X Y Z : Type 0} (f : Y → Z) (g : X → Y) (xs : List X) → map f (map g xs) ≡ map (λ x. f (g x)) xs
map_map f g [] = refl
map_map f g (x ∷ xs) = ap (λ l. f (g x) ∷ l) (map_map f g xs)
