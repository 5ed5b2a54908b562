-- A put into an image is a put into its ledger.
use Rattle.std.proofs.Common.{◌≡◌, ℕ, suc, ◌+◌, ◌*◌, ◌<◌, ◌≤◌, Bool, true, false, cond, ltb, List, [], length, is_some, IfErr, Some, None, Ok, Err, Option, Result, unwrap_or, sym, refl, ap, ◌∙◌, subst, ⊎_elim, arith}
use Rattle.std.proofs.lemmas.Bool.{cases_lt, or_left, or_right, or_from, ltb-true, ltb-false, lt-ltb, le-ltb}
use Rattle.std.specs.Coded.{Coded-set, coded_list, coded_ℕ}
use Rattle.digits.specs.Positional.{write_decimal}
use Rattle.digits.proofs.Positional.{length_places}
use Rattle.ledger.specs.Keys.{KeyOps, OrderLaws, JoinLaws}
use Rattle.ledger.specs.Ledger.{holds, takes, placed, put_in, put_row, with_rows, join_to, has_key}
use Rattle.ledger.specs.Ledgers.{length_put, put_taken, put_refused}
use Rattle.ledger.specs.Props.{own_of}
use Rattle.ledger.specs.declared.row.Row as Row
use Rattle.ledger.specs.declared.store.Full.{Full}
use Rattle.images.specs.Arrivals.{arrived, place_of, first_fault}
use Rattle.images.specs.Fields.{written}
use Rattle.images.specs.Format.{whole_in, most_in, count_in, row_at, faulted, checked_rows, checked, blank_bytes}
use Rattle.images.specs.declared.faults.ImageFault.{ImageFault}
use Rattle.images.specs.declared.row.ImageRow as ImageRow
use Rattle.images.proofs.Arrived.{arrived_rising, place_holds}
use Rattle.images.proofs.Slots.{slot_fits}
use Rattle.imagestore.specs.Images.{row_count, image_ledger, Sound, KeptImage, if_sound, image_in, joined_at, appended}
use Rattle.imagestore.proofs.BytesChanged.{length_written, slot_written, slot_kept, slot_counted, most_by, count_kept, count_new, count_under, count_stated, blank_short, blank_long, short_count}
use Rattle.imagestore.proofs.RowsCounted.{sound_counted, counted_sound, Held, has_key_lem, first_passes, first_under, arrived_more, arrived_joined}

pub err≢ok : {A E : Type 0} {v : Result A E} {e : E} {x : A} → Err e ≡ v → v ≡ Ok x → ⊥
err≢ok p q = let z : ◌≡◌ {A = ℕ} 0 1 = cc in omega arith

-- what an image keeps of its own
pub sound : {K R : Type 0} (row : Row.Ghosts R K) (image : ImageRow.Ghosts R K) {bs : List ℕ} → KeptImage row image bs → Sound row image bs
sound row image k = own_of (Coded-set (coded_list coded_ℕ) _ _) k

module _ {K R : Type 0} (row : Row.Ghosts R K) (image : ImageRow.Ghosts R K) (laws : OrderLaws row.keys) (joins : JoinLaws row.keys row.joined)
    (sized : (cs : List ℕ) (r : R) → image.row_in cs ≡ Some r → length cs ≡ image.WIDTH) (read : (r : R) → image.row_in (image.bytes_of r) ≡ Some r) where
  abbrev o : KeyOps K R
  o = row.keys

  abbrev w : ℕ
  w = image.WIDTH

  abbrev Counted : List ℕ → Type 0
  Counted bs = length (image_ledger row image bs).rows ≡ row_count w bs

  -- an image that passes the check has as many keys as its count states
  checked_counted : (bs : List ℕ) (u : Unit {0}) → Ok u ≡ checked row image bs → Counted bs
  checked_counted bs u e = by (count_in w bs) e
    where
      none_at : (n : ℕ) (v : Option ℕ) → first_fault o row.joined (row_at image bs) n ≡ v → Ok u ≡ faulted v → length (arrived o row.joined (row_at image bs) n) ≡ n
      none_at n None p q = sound_counted o laws row.joined joins (row_at image bs) n p
      none_at n (Some i) p q = let z : ◌≡◌ {A = ℕ} 0 1 = cc in absurd (omega arith)

      by : (v : Option ℕ) → Ok u ≡ checked_rows row image bs v → length (arrived o row.joined (row_at image bs) (unwrap_or v 0)) ≡ unwrap_or v 0
      by None q = let z : ◌≡◌ {A = ℕ} 0 1 = cc in absurd (omega arith)
      by (Some n) q = none_at n (first_fault o row.joined (row_at image bs) n) refl q

  pub counted : (bs : List ℕ) → Sound row image bs → Counted bs
  counted bs s = by (checked row image bs) refl s
    where
      by : (v : Result (Unit {0}) ImageFault) → checked row image bs ≡ v → if_sound v bs ≡ bs → Counted bs
      by (Ok u) p q = checked_counted bs u (sym p)
      by (Err f) p q = subst Counted q refl

  -- and an image with a sound count and as many keys passes it
  counted_sound_image : (bs : List ℕ) (n : ℕ) → count_in w bs ≡ Some n → Counted bs → Sound row image bs
  counted_sound_image bs n e h =
      let number : row_count w bs ≡ n = ap (λ v. unwrap_or v 0) e in
      let long : length (arrived o row.joined (row_at image bs) n) ≡ n = subst (λ m. length (arrived o row.joined (row_at image bs) m) ≡ m) number h in
      ap (λ v. if_sound v bs) (ap (checked_rows row image bs) e ∙ ap faulted (counted_sound o laws row.joined joins (row_at image bs) n long))

  pub kept_sound : (bs : List ℕ) → Sound row image bs → KeptImage row image bs
  kept_sound bs s = record {
    rising = arrived_rising o laws row.joined joins (row_at image bs) (row_count w bs);
    within = let u = count_under w bs in let c = counted bs s in omega arith;
    own_kept = ∣ s ∣₁;
  }

  pub bytes_long : (r : R) → length (image.bytes_of r) ≡ w
  bytes_long r = sized (image.bytes_of r) r (read r)

  -- an image that passes the check is kept
  pub checked_kept : (bs : List ℕ) (u : Unit {0}) → Ok u ≡ checked row image bs → (bs ≡ image_in row image bs) × KeptImage row image bs
  checked_kept bs u e = (ap (λ v. if_sound v bs) e, kept_sound bs (sym (ap (λ v. if_sound v bs) e)))

  -- of what the check refuses there are no bytes
  pub refused_kept : (bs : List ℕ) (f : ImageFault) → Err f ≡ checked row image bs → ([] ≡ image_in row image bs) × KeptImage row image []
  refused_kept bs f e = (ap (λ v. if_sound v bs) e, kept_sound [] refl)

  -- an image made empty has no rows and its most
  pub record Blank (bs new : List ℕ) : Type 0 where
    pub after : image_ledger row image new ≡ with_rows (image_ledger row image bs) []
    pub kept : KeptImage row image new

  blank_by : (bs new : List ℕ) → row_count w new ≡ 0 → most_in w new ≡ most_in w bs → Sound row image new → Blank bs new
  blank_by bs new none most s = record {
    after = λ i. record { rows = arrived o row.joined (row_at image new) (none i); most = most i };
    kept = kept_sound new s;
  }

  pub blank_left : (bs new : List ℕ) → KeptImage row image bs → new ≡ blank_bytes bs → Blank bs new
  blank_left bs new k e =
      ⊎_elim
      (λ h. subst (Blank bs) (sym (e ∙ blank_short bs h)) (blank_by bs bs (short_count w bs h) refl (sound row image k)))
      (λ h.
      let zeros = write_decimal 7 0 in
      let seven = length_places 10 48 7 0 in
      let count = count_new w 0 bs (omega arith) h in
      let number : row_count w (written 0 zeros bs) ≡ 0 = ap (λ v. unwrap_or v 0) count in
      subst (Blank bs) (sym (e ∙ blank_long bs h))
      (blank_by bs (written 0 zeros bs) number (most_by w (written 0 zeros bs) bs (length_written 0 zeros bs (omega arith)))
      (counted_sound_image (written 0 zeros bs) 0 count (ap (λ n. length (arrived o row.joined (row_at image (written 0 zeros bs)) n)) number ∙ sym number))))
      (cases_lt (length bs) 7)

  -- what a put leaves
  pub record Left (r : R) (bs new : List ℕ) (a : Result (Unit {0}) (Full R)) : Type 0 where
    pub answer : a ≡ placed r (takes o r (image_ledger row image bs))
    pub after : image_ledger row image new ≡ put_in o row.joined r (image_ledger row image bs)
    pub same : IfErr a (λ _. new ≡ bs)
    pub kept : KeptImage row image new

  -- the rows of the new bytes are those with the row put
  left_taken : (r : R) (bs new : List ℕ) → takes o r (image_ledger row image bs) ≡ true → length new ≡ length bs → (image_ledger row image new).rows ≡ put_row o row.joined r (image_ledger row image bs).rows
      → (n : ℕ) → count_in w new ≡ Some n → length (put_row o row.joined r (image_ledger row image bs).rows) ≡ n → Left r bs new (Ok tt)
  left_taken r bs new t long rows n count all = record {
    answer = sym (ap (placed r) t);
    after = (λ i. record { rows = rows i; most = most_by w new bs long i }) ∙ sym (put_taken o row.joined r (image_ledger row image bs) t);
    same = tt;
    kept = kept_sound new (counted_sound_image new n count (ap length rows ∙ all ∙ sym (ap (λ v. unwrap_or v 0) count)));
  }

  module _ (bs : List ℕ) (k : KeptImage row image bs) (r : R) where
    abbrev n : ℕ
    n = row_count w bs

    abbrev rows : List R
    rows = (image_ledger row image bs).rows

    count_whole : n ≤ whole_in w bs
    count_whole = let u = count_under w bs in omega arith

    held_by : (v : Option ℕ) → place_of o (o.key_of r) (row_at image bs) n ≡ v → holds o (o.key_of r) rows ≡ is_some v
    held_by v e = sym (place_holds o laws row.joined joins (o.key_of r) (row_at image bs) n) ∙ ap is_some e

    long : (b : Bool) → holds o (o.key_of r) rows ≡ b → length (put_row o row.joined r rows) ≡ cond b n (suc n)
    long b e = length_put o laws row.joined joins r rows k.rising ∙ ap (λ x. cond x (length rows) (suc (length rows))) e ∙ ap (λ x. cond b x (suc x)) (counted bs (sound row image k))

    module _ (i : ℕ) (e : place_of o (o.key_of r) (row_at image bs) n ≡ Some i) where
      under : i < n
      under = first_under (λ j. has_key o (o.key_of r) (row_at image bs j)) n i e

      pub place_whole : i < whole_in w bs
      place_whole = let u = under in let c = count_whole in omega arith

      held : Held o (o.key_of r) (row_at image bs i)
      held = has_key_lem o (o.key_of r) (row_at image bs i) (first_passes (λ j. has_key o (o.key_of r) (row_at image bs j)) n i e)

      pub left_joined : Left r bs (joined_at row image bs i r) (Ok tt)
      left_joined =
          let s = held.row in
          let b = image.bytes_of (join_to row.joined (row_at image bs i) r) in
          let new = joined_at row image bs i r in
          let f = slot_fits w i bs place_whole in
          let l : length b ≡ w = bytes_long (join_to row.joined (row_at image bs i) r) in
          let count : count_in w new ≡ count_in w bs = count_kept w (7 + w * i) b bs (omega arith) (omega arith) in
          let number : row_count w new ≡ n = ap (λ v. unwrap_or v 0) count in
          let here : row_at image new i ≡ Some (row.joined s r) =
          ap image.row_in (slot_written w i b bs l f) ∙ read (join_to row.joined (row_at image bs i) r) ∙ ap (λ v. Some (join_to row.joined v r)) held.here in
          left_taken r bs new (or_left (holds o (o.key_of r) rows) (ltb (length rows) (most_in w bs)) (held_by (Some i) e)) (length_written (7 + w * i) b bs (omega arith))
          (ap (arrived o row.joined (row_at image new)) number
          ∙ arrived_joined o laws row.joined joins (row_at image bs) (row_at image new) r s i n under held.here here held.key (λ j h ne. ap image.row_in (slot_kept w i b bs l f j ne)))
          n (count ∙ count_stated w bs (let u = under in omega arith)) (long true (held_by (Some i) e))

    module _ (e : place_of o (o.key_of r) (row_at image bs) n ≡ None) where
      left_appended : n < most_in w bs → Left r bs (appended image bs n r) (Ok tt)
      left_appended h =
          let b = image.bytes_of r in
          let one = written (7 + w * n) b bs in
          let c = write_decimal 7 (n + 1) in
          let new = appended image bs n r in
          let f = slot_fits w n bs (omega arith) in
          let l : length b ≡ w = bytes_long r in
          let seven : length c ≡ 7 = length_places 10 48 7 (n + 1) in
          let first : length one ≡ length bs = length_written (7 + w * n) b bs (omega arith) in
          let second : length new ≡ length one = length_written 0 c one (omega arith) in
          let most : most_in w one ≡ most_in w bs = most_by w one bs first in
          let count : count_in w new ≡ Some (n + 1) = count_new w (n + 1) one (omega arith) (omega arith) in
          let number : row_count w new ≡ n + 1 = ap (λ v. unwrap_or v 0) count in
          let at_n : row_at image new n ≡ Some r = ap image.row_in (slot_counted w n c one seven ∙ slot_written w n b bs l f) ∙ read r in
          left_taken r bs new
          (or_right (holds o (o.key_of r) rows) (ltb (length rows) (most_in w bs)) (ap (λ x. ltb x (most_in w bs)) (counted bs (sound row image k)) ∙ below h))
          (second ∙ first)
          (ap (arrived o row.joined (row_at image new)) number
          ∙ arrived_more o laws row.joined joins (row_at image bs) (row_at image new) r n (λ j u. ap image.row_in (slot_counted w j c one seven ∙ slot_kept w n b bs l f j (λ z. omega arith))) at_n)
          (n + 1) count (long false (held_by None e) ∙ omega arith)
        where
          below : n < most_in w bs → ltb n (most_in w bs) ≡ true
          below h = lt-ltb n (most_in w bs) h

      left_full : most_in w bs ≤ n → Left r bs bs (Err (record { row = r }))
      left_full h =
          let full : takes o r (image_ledger row image bs) ≡ false =
          or_from (holds o (o.key_of r) rows) (ltb (length rows) (most_in w bs)) (held_by None e) (le-ltb (length rows) (most_in w bs) (let c = counted bs (sound row image k) in omega arith)) in
          record {
            answer = sym (ap (placed r) full);
            after = sym (put_refused o row.joined r (image_ledger row image bs) full);
            same = refl;
            kept = k;
          }

      pub left_new : Left r bs (cond (ltb n (most_in w bs)) (appended image bs n r) bs) (placed r (ltb n (most_in w bs)))
      left_new = by (ltb n (most_in w bs)) refl
        where
          by : (b : Bool) → ltb n (most_in w bs) ≡ b → Left r bs (cond b (appended image bs n r) bs) (placed r b)
          by true q = left_appended (ltb-true n (most_in w bs) q)
          by false q = left_full (ltb-false n (most_in w bs) q)
