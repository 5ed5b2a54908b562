-- How many rows a merge leaves, and that a ledger with room for them takes each.
use Rattle.std.proofs.Common.{◌≡◌, ℕ, suc, ◌+◌, ◌≤◌, Bool, true, false, cond, ltb, List, [], ◌∷◌, length, sym, refl, ap, ◌∙◌, ⊎_elim, arith}
use Rattle.std.proofs.lemmas.Bool.{cases_Bool, cond-false, or_left}
use Rattle.std.proofs.lemmas.Bool.Decides.{nat_tests}
use Rattle.ledger.specs.Keys.{KeyOps, OrderLaws, JoinLaws}
use Rattle.ledger.specs.Ledger.{Ledger, AllAbove, Rising, find_row, put_row, holds, takes, with_rows}
use Rattle.ledger.specs.Ledgers.{put_rising, length_put, put_taken}
use Rattle.merging.specs.Merges.{merge_rows, poured}
use Rattle.merging.proofs.MergeLaws.{find_met, meet_none}

-- how many of the second rows have a key that the first hold
abbrev pub shared : {K R : Type 0} → KeyOps K R → List R → List R → ℕ
shared o l [] = 0
shared o l (r ∷ rs) = cond (holds o (o.key_of r) l) 1 0 + shared o l rs

module _ {K R : Type 0} (o : KeyOps K R) (laws : OrderLaws o) (join : R → R → R) (joins : JoinLaws o join) where
  shared_put : (r : R) (l rs : List R) → Rising o l → AllAbove o (o.key_of r) rs → shared o (put_row o join r l) rs ≡ shared o l rs
  shared_put r l [] h a = refl
  shared_put r l (x ∷ xs) h a =
      let other : find_row o (o.key_of x) (put_row o join r l) ≡ find_row o (o.key_of x) l = find_met o laws join joins (o.key_of x) r l h ∙ rw a.0 (meet_none join (find_row o (o.key_of x) l)) in
      let more = shared_put r l xs h a.1 in
      rw (other, more)

  -- two ledgers have together the rows of both, less those that both have
  pub length_merge : (l rs : List R) → Rising o l → Rising o rs → length (merge_rows o join l rs) + shared o l rs ≡ length l + length rs
  length_merge l [] h i = refl
  length_merge l (r ∷ rs) h i =
      let m = length_merge (put_row o join r l) rs (put_rising o laws join joins r l h) i.1 in
      let s = shared_put r l rs h i.0 in
      go (holds o (o.key_of r) l) (length (merge_rows o join (put_row o join r l) rs)) (shared o l rs) (length (put_row o join r l)) (length_put o laws join joins r l h) (ap (λ n. length (merge_rows o join (put_row o join r l) rs) + n) (sym s) ∙ m)
    where
      go : (b : Bool) (m s p : ℕ) → p ≡ cond b (length l) (suc (length l)) → m + s ≡ p + length rs → m + (cond b 1 0 + s) ≡ length l + suc (length rs)
      go true m s p e f = omega arith
      go false m s p e f = omega arith

  put_longer : (r : R) (l : List R) → Rising o l → length l ≤ length (put_row o join r l)
  put_longer r l h = go (holds o (o.key_of r) l) (length_put o laws join joins r l h)
    where
      go : (b : Bool) → length (put_row o join r l) ≡ cond b (length l) (suc (length l)) → length l ≤ length (put_row o join r l)
      go true e = omega arith
      go false e = omega arith

  pub merge_longer : (l rs : List R) → Rising o l → length l ≤ length (merge_rows o join l rs)
  merge_longer l [] h = omega arith
  merge_longer l (r ∷ rs) h =
      let a = put_longer r l h in
      let b = merge_longer (put_row o join r l) rs (put_rising o laws join joins r l h) in
      omega arith

  takes_fitting : (r : R) (l : Ledger R) → Rising o l.rows → length (put_row o join r l.rows) ≤ l.most → takes o r l ≡ true
  takes_fitting r l h w =
      let held = holds o (o.key_of r) l.rows in
      ⊎_elim
      (λ y. or_left held (ltb (length l.rows) l.most) y)
      (λ n.
      let e = length_put o laws join joins r l.rows h ∙ cond-false held (length l.rows) (suc (length l.rows)) n in
      let t : ltb (length l.rows) l.most ≡ true = grind (arith, nat_tests) in
      rw (n, t))
      (cases_Bool held)

  -- a ledger with room for the merged rows takes each in turn
  pub poured_fits : (l : Ledger R) (rs : List R) → Rising o l.rows → length (merge_rows o join l.rows rs) ≤ l.most → poured o join l rs ≡ with_rows l (merge_rows o join l.rows rs)
  poured_fits l [] h w = refl
  poured_fits l (r ∷ rs) h w =
      let up = put_rising o laws join joins r l.rows h in
      let a = merge_longer (put_row o join r l.rows) rs up in
      let t = takes_fitting r l h (omega arith) in
      ap (λ x. poured o join x rs) (put_taken o join r l t) ∙ poured_fits (with_rows l (put_row o join r l.rows)) rs up w
