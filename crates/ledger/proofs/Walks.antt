-- A walk over the rows of a store: the first row, and then the first above the last.
use Rattle.std.proofs.Common.{◌≡◌, ℕ, zero, suc, ◌+◌, ◌<◌, cond, List, [], ◌∷◌, length, drop, is_some, Some, None, refl, ap, ◌∙◌, arith}
use Rattle.std.specs.List.{slice_get}
use Rattle.ledger.specs.Keys.{KeyOps, OrderLaws}
use Rattle.ledger.specs.Ledger.{Rising, holds, next_row, position}
use Rattle.ledger.specs.Ledgers.{none≢some, find_at, position_at, next_at}

some_is : {X : Type 0} {x y : X} → Some x ≡ Some y → x ≡ y
some_is e = cc

pub nth_lt : {X : Type 0} (xs : List X) (i : ℕ) (x : X) → slice_get xs i ≡ Some x → i < length xs
nth_lt [] i x e = absurd (none≢some refl e)
nth_lt (y ∷ ys) zero x e = omega arith
nth_lt (y ∷ ys) (suc i) x e = let h = nth_lt ys i x e in omega arith

-- what is left: the row at hand and those to come, or none
pub drop_nth : {X : Type 0} (xs : List X) (i : ℕ) (x : X) → slice_get xs i ≡ Some x → drop i xs ≡ x ∷ drop (i + 1) xs
drop_nth [] i x e = absurd (none≢some refl e)
drop_nth (y ∷ ys) zero x e = ap (λ z. z ∷ ys) (some_is e)
drop_nth (y ∷ ys) (suc i) x e = drop_nth ys i x e ∙ ap (λ n. x ∷ drop n (y ∷ ys)) (up i)
  where
    up : (i : ℕ) → suc (i + 1) ≡ suc i + 1
    up i = omega arith

pub drop_none : {X : Type 0} (xs : List X) (i : ℕ) → slice_get xs i ≡ None → drop i xs ≡ []
drop_none [] zero e = refl
drop_none [] (suc i) e = refl
drop_none (y ∷ ys) zero e = absurd (none≢some e refl)
drop_none (y ∷ ys) (suc i) e = drop_none ys i e

module _ {K R : Type 0} (o : KeyOps K R) where
  pub walk_start : (rows : List R) → next_row o None rows ≡ slice_get rows 0
  walk_start [] = refl
  walk_start (r ∷ rs) = refl

  pub walk_on : OrderLaws o → (rows : List R) (i : ℕ) (r : R) → Rising o rows → slice_get rows i ≡ Some r → next_row o (Some (o.key_of r)) rows ≡ slice_get rows (i + 1)
  walk_on laws rows i r up e =
      let k = o.key_of r in
      let same = laws.same k in
      let held : holds o k rows ≡ is_some (Some r) = ap is_some (find_at o laws k rows i r up e same) in
      let place = position_at o laws k rows i r up e same in
      next_at o laws k rows up
      ∙ (ap (λ b. slice_get rows (cond b (suc (position o k rows)) (position o k rows))) held
      ∙ (ap (λ n. slice_get rows (suc n)) place ∙ ap (slice_get rows) (next i)))
    where
      next : (n : ℕ) → suc n ≡ n + 1
      next n = omega arith
