-- The refusals of an account by number: how many, and the least sequential met; and what a board holds of them.
use Rattle.std.proofs.Common.{◌≡◌, ℕ, zero, suc, ◌+◌, ◌-◌, ◌<◌, ◌≤◌, Bool, true, false, cond, eqb, leb, ◌⊎◌, List, [], ◌∷◌, ◌++◌, map, length, get_or, Err, count_by, filter, sym, refl, ap, ◌∙◌, subst, inl, inr, suc-le-suc, le_of_suc-le-suc, not-suc-le-zero, arith}
use Rattle.std.specs.List.{ContainsAt as Has}
use Rattle.std.proofs.lemmas.List.Elements.{filter-append}
use Rattle.std.proofs.ByRecursion.{All-weaker}
use Rattle.std.proofs.lemmas.List.{length-set, get_or-set_same, get_or-set_other}
use Rattle.std.proofs.lemmas.List.Sums.{sum_by-append}
use Rattle.std.proofs.lemmas.Bool.Decides.{nat_tests, eqb_tells, leb_tells}
use Rattle.merging.proofs.Reorderings.{Reordered, Reordered.none, Reordered.keep, Reordered.swap, Reordered.then, reordered_refl, reordered_map, sum_by_reordered, map_append}
use Rattle.statement.specs.Account.{Entry}
use Rattle.statement.specs.Board.{lesser_of, no_tally, noted_tally, tally_at, noted, tallies_joined, each_joined}
use Rattle.statement.specs.Faults.{take_number, take_sequential}
use Rattle.statement.specs.declared.board.RefusalBoard.{RefusalBoard}
use Rattle.statement.specs.declared.board.Tally.{Tally}
use Rattle.statement.specs.declared.faults.TakeFault.{TakeFault}
use Rattle.account.specs.Postings.{refused_with, sequential_of, sequentials}
use Rattle.account.specs.Settled.{LeastMet}

-- ---- the lesser of two sequentials, and the least of many

pub lesser_none : (p : ℕ) → lesser_of p 0 ≡ p
lesser_none p = grind (arith, nat_tests)

lesser_turned : (p q : ℕ) → lesser_of p q ≡ lesser_of q p
lesser_turned p q = grind (arith, nat_tests)

lesser_grouped : (p q r : ℕ) → lesser_of (lesser_of p q) r ≡ lesser_of p (lesser_of q r)
lesser_grouped p q r = grind (arith, nat_tests)

abbrev pub least_of : List ℕ → ℕ
least_of [] = 0
least_of (x ∷ xs) = lesser_of x (least_of xs)

least_of_append : (xs ys : List ℕ) → least_of (xs ++ ys) ≡ lesser_of (least_of xs) (least_of ys)
least_of_append [] ys = refl
least_of_append (x ∷ xs) ys = ap (lesser_of x) (least_of_append xs ys) ∙ sym (lesser_grouped x (least_of xs) (least_of ys))

least_of_reordered : {xs ys : List ℕ} → Reordered xs ys → least_of xs ≡ least_of ys
least_of_reordered none = refl
least_of_reordered (keep x h) = ap (lesser_of x) (least_of_reordered h)
least_of_reordered (swap x y xs) = sym (lesser_grouped x y (least_of xs)) ∙ ap (λ n. lesser_of n (least_of xs)) (lesser_turned x y) ∙ lesser_grouped y x (least_of xs)
least_of_reordered (then h i) = least_of_reordered h ∙ least_of_reordered i

pub least_met : (xs : List ℕ) → LeastMet (least_of xs) xs
least_met [] = inl (refl, tt)
least_met (x ∷ xs) = go (least_of xs) (eqb_tells x 0) (leb_tells x (least_of xs)) (least_met xs)
  where
    here : Has (x ∷ xs) x
    here = (0, omega arith, λ d. refl)

    later : (q : ℕ) → Has xs q → Has (x ∷ xs) q
    later q h = (suc h.0, suc-le-suc h.1, h.2)

    further : (m y : ℕ) → x ≤ m → (y ≡ 0) ⊎ (m ≤ y) → (y ≡ 0) ⊎ (x ≤ y)
    further m y l (inl e) = inl e
    further m y l (inr k) = inr (omega arith)

    go : (m : ℕ) → ((eqb x 0 ≡ true) × (x ≡ 0)) ⊎ ((eqb x 0 ≡ false) × (x ≡ 0 → ⊥)) → ((leb x m ≡ true) × (x ≤ m)) ⊎ ((leb x m ≡ false) × (m < x)) → LeastMet m xs → LeastMet (lesser_of x m) (x ∷ xs)
    go m (inl z) c (inl h) = let l : lesser_of x m ≡ m = grind (arith, nat_tests) in subst (λ q. LeastMet q (x ∷ xs)) (sym l) (inl (h.0, (z.1, h.1)))
    go m (inl z) c (inr h) = let l : lesser_of x m ≡ m = grind (arith, nat_tests) in subst (λ q. LeastMet q (x ∷ xs)) (sym l) (inr (h.0, later m h.1, (inl z.1, h.2)))
    go m (inr z) c (inl h) =
        let l : lesser_of x m ≡ x = grind (arith, nat_tests) in
        subst (λ q. LeastMet q (x ∷ xs)) (sym l) (inr (grind (arith, nat_tests), here, (inr (omega arith), All-weaker (λ y. y ≡ 0) (λ y. (y ≡ 0) ⊎ (x ≤ y)) (λ y e. inl e) xs h.1)))
    go m (inr z) (inl c) (inr h) =
        let l : lesser_of x m ≡ x = grind (arith, nat_tests) in
        subst (λ q. LeastMet q (x ∷ xs)) (sym l) (inr (grind (arith, nat_tests), here, (inr (omega arith), All-weaker (λ y. (y ≡ 0) ⊎ (m ≤ y)) (λ y. (y ≡ 0) ⊎ (x ≤ y)) (λ y e. further m y c.1 e) xs h.2)))
    go m (inr z) (inr c) (inr h) = let l : lesser_of x m ≡ m = grind (arith, nat_tests) in subst (λ q. LeastMet q (x ∷ xs)) (sym l) (inr (h.0, later m h.1, (inr (omega arith), h.2)))

kept_reordered : {X : Type 0} (p : X → Bool) {xs ys : List X} → Reordered xs ys → Reordered (filter p xs) (filter p ys)
kept_reordered p none = none
kept_reordered p (keep {xs = xs} {ys = ys} x h) = go (p x) (kept_reordered p h)
  where
    go : (t : Bool) → Reordered (filter p xs) (filter p ys) → Reordered (cond t (x ∷ filter p xs) (filter p xs)) (cond t (x ∷ filter p ys) (filter p ys))
    go true i = keep x i
    go false i = i
kept_reordered p (swap x y xs) = go (p x) (p y) (filter p xs)
  where
    go : (t u : Bool) (l : _) → Reordered (cond t (x ∷ cond u (y ∷ l) l) (cond u (y ∷ l) l)) (cond u (y ∷ cond t (x ∷ l) l) (cond t (x ∷ l) l))
    go true true l = swap x y l
    go true false l = reordered_refl (x ∷ l)
    go false true l = reordered_refl (y ∷ l)
    go false false l = reordered_refl l
kept_reordered p (then h i) = then (kept_reordered p h) (kept_reordered p i)

-- ---- the refusals of an account

abbrev pub count_in : ℕ → List Entry → ℕ
count_in n a = count_by (λ e. refused_with n e.answer) a

-- how many records a number refused, and the least sequential among them
abbrev pub tally_in : ℕ → List Entry → Tally
tally_in n a = record { count = count_in n a; least = least_of (sequentials n a) }

sequentials_append : (n : ℕ) (a c : List Entry) → least_of (sequentials n (a ++ c)) ≡ lesser_of (least_of (sequentials n a)) (least_of (sequentials n c))
sequentials_append n a c =
    ap (λ l. least_of (map (λ e. sequential_of e.answer) l)) (filter-append (λ e. refused_with n e.answer) a c)
    ∙ ap least_of (map_append (λ e. sequential_of e.answer) (filter (λ e. refused_with n e.answer) a) (filter (λ e. refused_with n e.answer) c))
    ∙ least_of_append (sequentials n a) (sequentials n c)

pub tally_append : (n : ℕ) (a c : List Entry) → tally_in n (a ++ c) ≡ tallies_joined (tally_in n a) (tally_in n c)
tally_append n a c =
    let p : count_in n (a ++ c) ≡ count_in n a + count_in n c = sum_by-append (λ e. cond (refused_with n e.answer) 1 0) a c in
    let q = sequentials_append n a c in
    λ i. record { count = p i; least = q i }

pub tally_reordered : (n : ℕ) {a c : List Entry} → Reordered a c → tally_in n a ≡ tally_in n c
tally_reordered n {a} {c} h =
    let p : count_in n a ≡ count_in n c = sum_by_reordered (λ e. cond (refused_with n e.answer) 1 0) h in
    let q = least_of_reordered (reordered_map (λ e. sequential_of e.answer) (kept_reordered (λ e. refused_with n e.answer) h)) in
    λ i. record { count = p i; least = q i }

-- a tally with none
pub joined_none : (t : Tally) → tallies_joined t no_tally ≡ t
joined_none t =
    let p : t.count + 0 ≡ t.count = omega arith in
    let q = lesser_none t.least in
    λ i. record { count = p i; least = q i }

-- one refusal more
pub tally_refused : (n : ℕ) (t : Tally) (e : Entry) (f : TakeFault) → e.answer ≡ Err f → cond (eqb n (take_number f)) (noted_tally t (take_sequential f)) t ≡ tallies_joined t (tally_in n (e ∷ []))
tally_refused n t e f x = go (eqb n (take_number f)) refl
  where
    go : (y : Bool) → eqb n (take_number f) ≡ y → cond (eqb n (take_number f)) (noted_tally t (take_sequential f)) t ≡ tallies_joined t (tally_in n (e ∷ []))
    go true z = rw (x, z) (rw (lesser_none (take_sequential f)) refl)
    go false z = rw (x, z) (sym (joined_none t))

-- ---- boards

-- the places of numbers
apart : (n k : ℕ) → 2 ≤ n → 2 ≤ k → (n ≡ k → ⊥) → n - 2 ≡ k - 2 → ⊥
apart n k h l d e = d (omega arith)

pub noted_at : (b : RefusalBoard) (n k s : ℕ) → length b.tallies ≡ 12 → 2 ≤ n → n ≤ 13 → 2 ≤ k → k ≤ 13 → tally_at (noted b k s) (n - 2) ≡ cond (eqb n k) (noted_tally (tally_at b (n - 2)) s) (tally_at b (n - 2))
noted_at b n k s w h i l j = go (eqb_tells n k)
  where
    go : ((eqb n k ≡ true) × (n ≡ k)) ⊎ ((eqb n k ≡ false) × (n ≡ k → ⊥)) → tally_at (noted b k s) (n - 2) ≡ cond (eqb n k) (noted_tally (tally_at b (n - 2)) s) (tally_at b (n - 2))
    go (inl z) = rw z.0 (rw z.1 (get_or-set_same b.tallies (k - 2) (noted_tally (tally_at b (k - 2)) s) no_tally (omega arith)))
    go (inr z) = rw z.0 (get_or-set_other b.tallies (k - 2) (n - 2) (noted_tally (tally_at b (k - 2)) s) no_tally (apart n k h l z.1))

pub length_noted : (b : RefusalBoard) (k s : ℕ) → length (noted b k s).tallies ≡ length b.tallies
length_noted b k s = length-set b.tallies (k - 2) (noted_tally (tally_at b (k - 2)) s)

pub length_each_joined : (ts us : List Tally) → length ts ≡ length us → length (each_joined ts us) ≡ length ts
length_each_joined [] us e = sym e
length_each_joined (t ∷ ts) [] e = refl
length_each_joined (t ∷ ts) (u ∷ us) e = ap suc (length_each_joined ts us (omega arith))

pub joined_at : (ts us : List Tally) (i : ℕ) → i < length ts → length ts ≡ length us → get_or (each_joined ts us) i no_tally ≡ tallies_joined (get_or ts i no_tally) (get_or us i no_tally)
joined_at [] us i h e = absurd (not-suc-le-zero h)
joined_at (t ∷ ts) [] i h e = absurd (omega arith)
joined_at (t ∷ ts) (u ∷ us) zero h e = refl
joined_at (t ∷ ts) (u ∷ us) (suc i) h e = joined_at ts us i (le_of_suc-le-suc h) (omega arith)
