-- Counts of a board after one refusal more.
use Rattle.std.proofs.Common.{◌≡◌, ℕ, zero, suc, ◌+◌, ◌-◌, ◌<◌, ◌≤◌, List, [], ◌∷◌, length, get_or, set, replicate, refl, ap, ◌∙◌, le_of_suc-le-suc, not-suc-le-zero, arith}
use Rattle.std.proofs.lemmas.Bool.Decides.{nat_tests}
use Rattle.statement.specs.declared.board.RefusalBoard.{RefusalBoard}
use Rattle.statement.specs.declared.board.Tally.{Tally}
use Rattle.statement.specs.Board.{no_tally, clear_board, noted, tally_at, lesser_of, tallies_joined, each_joined, boards_joined}

-- what holds of the new element and of the old one holds after the write
pub set_keeps : {A : Type 0} (P : A → Type 0) (xs : List A) (j i : ℕ) (v d : A) → P v → P (get_or xs i d) → P (get_or (set xs j v) i d)
set_keeps P [] j i v d new old = old
set_keeps P (x ∷ xs) zero zero v d new old = new
set_keeps P (x ∷ xs) zero (suc i) v d new old = old
set_keeps P (x ∷ xs) (suc j) zero v d new old = old
set_keeps P (x ∷ xs) (suc j) (suc i) v d new old = set_keeps P xs j i v d new old

pub noted_counts : (b : RefusalBoard) (n s t : ℕ) → ((i : ℕ) → (tally_at b i).count ≤ t) → (i : ℕ) → (tally_at (noted b n s) i).count ≤ t + 1
noted_counts b n s t few i =
    set_keeps (λ (u : Tally). u.count ≤ t + 1) b.tallies _ i _ no_tally (omega (arith, few (n - 2))) (omega (arith, few i))

clear_at : (n i : ℕ) → get_or (replicate n no_tally) i no_tally ≡ no_tally
clear_at zero i = refl
clear_at (suc n) zero = refl
clear_at (suc n) (suc i) = clear_at n i

pub clear_counts : (i : ℕ) → (tally_at clear_board i).count ≤ 0
clear_counts i = rw (clear_at 12 i) (omega arith)

-- the first tallies joined already, the rest joined
abbrev pub join_from : ℕ → List Tally → List Tally → List Tally
join_from zero ts us = each_joined ts us
join_from (suc i) [] us = []
join_from (suc i) (t ∷ ts) [] = t ∷ ts
join_from (suc i) (t ∷ ts) (u ∷ us) = t ∷ join_from i ts us

join_suc : (i : ℕ) (ts us : List Tally) → i < length ts → i < length us → join_from i ts us ≡ join_from (suc i) (set ts i (tallies_joined (get_or ts i no_tally) (get_or us i no_tally))) us
join_suc i [] us p q = absurd (not-suc-le-zero p)
join_suc i (t ∷ ts) [] p q = absurd (not-suc-le-zero q)
join_suc zero (t ∷ ts) (u ∷ us) p q = refl
join_suc (suc i) (t ∷ ts) (u ∷ us) p q = ap (λ l. t ∷ l) (join_suc i ts us (le_of_suc-le-suc p) (le_of_suc-le-suc q))

pub join_next : (i : ℕ) (ts us : List Tally) → i < length ts → i < length us → join_from i ts us ≡ join_from (i + 1) (set ts i (tallies_joined (get_or ts i no_tally) (get_or us i no_tally))) us
join_next i ts us p q = join_suc i ts us p q ∙ ap (λ n. join_from n (set ts i (tallies_joined (get_or ts i no_tally) (get_or us i no_tally))) us) (up i)
  where
    up : (n : ℕ) → suc n ≡ n + 1
    up n = omega arith

pub join_done : (i : ℕ) (ts us : List Tally) → length ts ≤ i → length us ≤ i → join_from i ts us ≡ ts
join_done zero [] [] p q = refl
join_done zero [] (u ∷ us) p q = absurd (not-suc-le-zero q)
join_done zero (t ∷ ts) us p q = absurd (not-suc-le-zero p)
join_done (suc i) [] us p q = refl
join_done (suc i) (t ∷ ts) [] p q = refl
join_done (suc i) (t ∷ ts) (u ∷ us) p q = ap (λ l. t ∷ l) (join_done i ts us (le_of_suc-le-suc p) (le_of_suc-le-suc q))

tally_same : (c d l m : ℕ) → c ≡ d → l ≡ m → ◌≡◌ {A = Tally} (record { count = c; least = l }) (record { count = d; least = m })
tally_same c d l m e f = λ i. record { count = e i; least = f i }

none_joined : (t : Tally) → t ≡ tallies_joined no_tally t
none_joined t = tally_same t.count (0 + t.count) t.least (lesser_of 0 t.least) (omega arith) (grind (arith, nat_tests))

joined_none : (t : Tally) → t ≡ tallies_joined t no_tally
joined_none t = tally_same t.count (t.count + 0) t.least (lesser_of t.least 0) (omega arith) (grind (arith, nat_tests))

-- the tally of each number of two boards joined
pub joined_at : (ts us : List Tally) (i : ℕ) → get_or (each_joined ts us) i no_tally ≡ tallies_joined (get_or ts i no_tally) (get_or us i no_tally)
joined_at [] us i = none_joined (get_or us i no_tally)
joined_at (t ∷ ts) [] i = joined_none (get_or (t ∷ ts) i no_tally)
joined_at (t ∷ ts) (u ∷ us) zero = refl
joined_at (t ∷ ts) (u ∷ us) (suc i) = joined_at ts us i

pub joined_counts : (a b : RefusalBoard) (s t : ℕ) → ((i : ℕ) → (tally_at a i).count ≤ s) → ((i : ℕ) → (tally_at b i).count ≤ t) → (i : ℕ) → (tally_at (boards_joined a b) i).count ≤ s + t
joined_counts a b s t few few' i = rw (joined_at a.tallies b.tallies i) (omega (arith, few i, few' i))
