-- Every statement that takes and joins lead to is settled by its account.
use Rattle.std.proofs.Common.{◌≡◌, ℕ, ◌+◌, ◌<◌, ◌≤◌, Bool, true, false, leb, List, [], ◌∷◌, ◌++◌, map, length, Ok, Err, Result, sym, refl, ap, ◌∙◌, subst, ap₂, inl, inr, arith}
use Rattle.std.specs.List.{AllByRecursion}
use Rattle.std.specs.List.Sorted.{IsPermutation}
use Rattle.std.proofs.lemmas.Bool.{true≢false, leb-true, leb-false}
use Rattle.std.proofs.lemmas.Bool.Decides.{nat_tests}
use Rattle.cdr.specs.Reader.{read_record}
use Rattle.cdr.specs.declared.call.CallRecord.{CallRecord}
use Rattle.cdr.specs.declared.faults.Charged.{Charged}
use Rattle.cdr.specs.declared.faults.RecordFault.{RecordFault}
use Rattle.declared.specs.File.{read_file}
use Rattle.declared.specs.RoundTrips.{statement_file}
use Rattle.declared.proofs.LineReads.{file_reads}
use Rattle.detraf.specs.File.{file_of}
use Rattle.ledger.specs.Ledger.{Rising}
use Rattle.ledger.specs.Rows.{line_keys, join_lines, day_keys, join_days}
use Rattle.ledger.specs.RowLaws.{line_order, line_joins, day_order, day_joins}
use Rattle.merging.specs.Merges.{distinct}
use Rattle.merging.proofs.Figures.{each_row, room_none, room_some, merged_size}
use Rattle.merging.proofs.MergeLaws.{rising_ledger, ledger_reordered}
use Rattle.merging.proofs.Reorderings.{Reordered, Reordered.none, Reordered.keep, Reordered.swap, Reordered.then, reordered_refl, reordered_map, from_shuffled, to_shuffled}
use Rattle.rating.specs.Rating.{Book}
use Rattle.statement.specs.Account.{Entry, Reaches}
use Rattle.statement.specs.Joining.{is_like, lines_together, days_together, join_answer}
use Rattle.statement.specs.Postings.{line_for, day_for}
use Rattle.statement.specs.Statement.{Model, verdict, answer_of, take_answer}
use Rattle.statement.specs.declared.faults.TakeFault.{TakeFault}
use Rattle.statement.specs.declared.joining.JoinFault.{JoinFault}
use Rattle.statement.specs.declared.posting.Booked.{Booked}
use Rattle.statement.specs.declared.posting.Posting.{Posting}
use Rattle.account.specs.Postings.{brought, added, postings, line_of, day_of, refused_with, sequentials}
use Rattle.account.specs.Settled.{judged, Fair, limit, lines, days, TakeRight, TakeRight.spent, TakeRight.faulty, TakeRight.line_full, TakeRight.day_full, TakeRight.books, JoinRight, JoinRight.unlike, JoinRight.too_many, JoinRight.lines_full, JoinRight.days_full, JoinRight.joins, Right, NotForSpace, Equal, Settled}
use Rattle.account.proofs.Figures.{line_right, day_right, net_shown}
use Rattle.account.proofs.FileSums.{sums_fit}
use Rattle.account.proofs.States as states
use Rattle.account.proofs.States.{Kept, kept, postings_append, same_kind}
use Rattle.account.proofs.Tallies.{tally_reordered, least_met}

-- ---- the rows, the counts, the refusals

postings_few : (m : Model) (a : List Entry) → Kept m a → length (postings a) ≤ limit
postings_few m a k = omega (arith, k.booked, k.each, k.few)

right : (m : Model) (a : List Entry) → Reaches m a → Right m a
right m a h =
    let k = kept h in
    let ps = postings a in
    let few = postings_few m a k in
    record {
      line_order = subst (Rising line_keys) (sym k.lines) (rising_ledger line_keys line_order join_lines line_joins (map line_for ps));
      line_each = each_row line_keys line_order join_lines line_joins line_for m.lines.rows ps k.lines;
      line_right = line_right m.lines.rows ps few k.lines;
      day_order = subst (Rising day_keys) (sym k.days) (rising_ledger day_keys day_order join_days day_joins (map day_for ps));
      day_each = each_row day_keys day_order join_days day_joins day_for m.days.rows ps k.days;
      day_right = day_right m.days.rows ps few k.days;
      booked = k.booked;
      taken = k.taken;
      each = k.each;
      counts = λ n i j. ap (λ t. t.count) (k.tallies n i j);
      leasts = λ n i j. rw (k.tallies n i j) (least_met (sequentials n a));
    }

-- ---- takes

takes_right : (m : Model) (a : List Entry) → Reaches m a → (b : Book) (r : List ℕ) → TakeRight m a b r (take_answer m b r)
takes_right m a h b r = at (leb limit m.taken) refl
  where
    k : Kept m a
    k = kept h

    ps : List Posting
    ps = postings a

    answered : (v : Result Posting TakeFault) → length a < limit → states.Decided m b r v → TakeRight m a b r (answer_of v)
    answered (Err f) l (states.Decided.fault j c) = faulty l j
    answered (Err f) l (states.Decided.line_full {p = p} j c g) = line_full l j c (room_none line_keys line_order join_lines line_joins line_for m.lines (line_for p) ps k.lines g)
    answered (Err f) l (states.Decided.day_full {p = p} j c g i) =
        day_full l j c (room_some line_keys line_order join_lines line_joins line_for m.lines (line_for p) ps k.lines g)
        (room_none day_keys day_order join_days day_joins day_for m.days (day_for p) ps k.days i)
    answered (Ok p) l (states.Decided.books j s g i) =
        books l j (room_some line_keys line_order join_lines line_joins line_for m.lines (line_for p) ps k.lines g)
        (room_some day_keys day_order join_days day_joins day_for m.days (day_for p) ps k.days i)

    at : (t : Bool) → leb limit m.taken ≡ t → TakeRight m a b r (take_answer m b r)
    at true e = rw e (spent (let z = k.taken in grind (arith, nat_tests)))
    at false e = rw e (answered (verdict m b r) (let z = k.taken in grind (arith, nat_tests)) (states.decided m b r))

-- ---- joins

joins_right : (m g : Model) (a c : List Entry) → Reaches m a → Reaches g c → JoinRight m a g c (join_answer m g)
joins_right m g a c h i = at (join_answer m g) (states.joins m g)
  where
    k : Kept m a
    k = kept h

    l : Kept g c
    l = kept i

    lines_size : length (lines_together m g) ≡ distinct line_keys (lines (a ++ c))
    lines_size =
        merged_size line_keys line_order join_lines line_joins line_for m.lines.rows g.lines.rows (postings a) (postings c) k.lines l.lines
        ∙ ap (λ ps. distinct line_keys (map line_of ps)) (sym (postings_append a c))

    days_size : length (days_together m g) ≡ distinct day_keys (days (a ++ c))
    days_size =
        merged_size day_keys day_order join_days day_joins day_for m.days.rows g.days.rows (postings a) (postings c) k.days l.days
        ∙ ap (λ ps. distinct day_keys (map day_of ps)) (sym (postings_append a c))

    within : leb (m.taken + g.taken) limit ≡ true → length a + length c ≤ limit
    within e = omega (arith, k.taken, l.taken, leb-true (m.taken + g.taken) limit e)

    over : leb (m.taken + g.taken) limit ≡ false → limit < length a + length c
    over e = omega (arith, k.taken, l.taken, leb-false (m.taken + g.taken) limit e)

    like : m.terms ≡ g.terms → m.reference ≡ g.reference → is_like m g ≡ true
    like p q = rw (p, q) (grind (arith, nat_tests))

    fit : (n o most : ℕ) → n ≡ o → leb n most ≡ true → o ≤ most
    fit n o most e f = omega (arith, leb-true n most f)

    full : (n o most : ℕ) → n ≡ o → leb n most ≡ false → most < o
    full n o most e f = omega (arith, leb-false n most f)

    at : (x : Result (Unit {0}) JoinFault) → states.Joins m g x → JoinRight m a g c x
    at (Err f) (states.Joins.unlike e) = unlike (λ p q. true≢false (sym (like p q) ∙ e))
    at (Err f) (states.Joins.too_many e u) = let t = same_kind m g e in too_many t.0 t.1 (over u)
    at (Err f) (states.Joins.lines_full e u v) = let t = same_kind m g e in lines_full t.0 t.1 (within u) (full _ _ m.lines.most lines_size v)
    at (Err f) (states.Joins.days_full e u v w) =
        let t = same_kind m g e in
        days_full t.0 t.1 (within u) (fit _ _ m.lines.most lines_size v) (full _ _ m.days.most days_size w)
    at (Ok x) (states.Joins.fits e u v w) =
        let t = same_kind m g e in
        joins t.0 t.1 (within u) (fit _ _ m.lines.most lines_size v) (fit _ _ m.days.most days_size w)

-- ---- the same records in another order

added_reordered : (r : List ℕ) (x : Result Booked TakeFault) {ps qs : List Posting} → Reordered ps qs → Reordered (added r x ps) (added r x qs)
added_reordered r (Err f) h = h
added_reordered r (Ok b) {ps} {qs} h = go (read_record r)
  where
    go : (y : Result CallRecord (Charged RecordFault)) → Reordered (brought b y ps) (brought b y qs)
    go (Ok call) = keep _ h
    go (Err f) = h

added_swapped : (r : List ℕ) (x : Result Booked TakeFault) (s : List ℕ) (y : Result Booked TakeFault) (ps : List Posting) → Reordered (added r x (added s y ps)) (added s y (added r x ps))
added_swapped r (Err f) s y ps = reordered_refl (added s y ps)
added_swapped r (Ok b) s (Err f) ps = reordered_refl (added r (Ok b) ps)
added_swapped r (Ok b) s (Ok d) ps = go (read_record r) (read_record s)
  where
    go : (x y : Result CallRecord (Charged RecordFault)) → Reordered (brought b x (brought d y ps)) (brought d y (brought b x ps))
    go (Ok u) (Ok v) = swap _ _ ps
    go (Ok u) (Err f) = reordered_refl (brought b (Ok u) ps)
    go (Err f) y = reordered_refl (brought d y ps)

postings_reordered : {a c : List Entry} → Reordered a c → Reordered (postings a) (postings c)
postings_reordered none = none
postings_reordered (keep e h) = added_reordered e.bytes e.answer (postings_reordered h)
postings_reordered (swap e f a) = added_swapped e.bytes e.answer f.bytes f.answer (postings a)
postings_reordered (then h i) = then (postings_reordered h) (postings_reordered i)

-- with no refusal for space an entry is known by its record
module _ (m : Model) (b : Book) where
  entry_of : List ℕ → Entry
  entry_of r = record { book = b; bytes = r; answer = answer_of (judged m.terms m.reference b r) }

  known : (e : Entry) → e.book ≡ b → Fair m.terms m.reference e → NotForSpace e → e ≡ entry_of e.bytes
  unfolding entry_of
  known e p (inl q) n = let v = q ∙ ap (λ x. answer_of (judged m.terms m.reference x e.bytes)) p in λ i. record { book = p i; bytes = e.bytes; answer = v i }
  known e p (inr (q, j, s, c, inl f)) n = absurd (true≢false (sym (ap (refused_with 12) f) ∙ n.0))
  known e p (inr (q, j, s, c, inr f)) n = absurd (true≢false (sym (ap (refused_with 13) f) ∙ n.1))

  all_known : (a : List Entry) → AllByRecursion (λ e. e.book ≡ b) a → AllByRecursion (Fair m.terms m.reference) a → AllByRecursion NotForSpace a → a ≡ map entry_of (map (λ e. e.bytes) a)
  all_known [] p f n = refl
  all_known (e ∷ a) p f n = ap₂ (λ x l. x ∷ l) (known e p.0 f.0 n.0) (all_known a p.1 f.1 n.1)

equal : (m g : Model) (a c : List Entry) → Reaches m a → Reaches g c
    → m.terms ≡ g.terms → m.reference ≡ g.reference → (b : Book) → AllByRecursion (λ e. e.book ≡ b) a → AllByRecursion (λ e. e.book ≡ b) c
    → IsPermutation (map (λ e. e.bytes) a) (map (λ e. e.bytes) c) → AllByRecursion NotForSpace a → AllByRecursion NotForSpace c → Equal m a g c
equal m g a c h i p q b one-book one-book' shuffled room room' =
    let k = kept h in
    let l = kept i in
    let fair : AllByRecursion (Fair m.terms m.reference) c = subst (λ t. AllByRecursion (Fair t m.reference) c) (sym p) (subst (λ r. AllByRecursion (Fair g.terms r) c) (sym q) l.fair) in
    let one = all_known m b a one-book k.fair room in
    let two = all_known m b c one-book' fair room' in
    let made : Reordered (map (entry_of m b) (map (λ e. e.bytes) a)) (map (entry_of m b) (map (λ e. e.bytes) c)) =
    reordered_map (entry_of m b) (from_shuffled (map (λ e. e.bytes) a) (map (λ e. e.bytes) c) shuffled) in
    let moved : Reordered a c = subst (λ x. Reordered x c) (sym one) (subst (λ y. Reordered (map (entry_of m b) (map (λ e. e.bytes) a)) y) (sym two) made) in
    let brought = postings_reordered moved in
    let line-rows : m.lines.rows ≡ g.lines.rows =
    k.lines ∙ (ledger_reordered line_keys line_order join_lines line_joins (map line_for (postings a)) (map line_for (postings c)) (reordered_map line_for brought) ∙ sym l.lines) in
    record {
      answers = to_shuffled moved;
      file = λ j. file_of (p j) (q j) (line-rows j);
      lines = line-rows;
      days = k.days ∙ (ledger_reordered day_keys day_order join_days day_joins (map day_for (postings a)) (map day_for (postings c)) (reordered_map day_for brought) ∙ sym l.days);
      refusals = λ n u v. k.tallies n u v ∙ (tally_reordered n moved ∙ sym (l.tallies n u v));
    }

-- ---- the file

reads : (m : Model) (a : List Entry) → Reaches m a → read_file (file_of m.terms m.reference m.lines.rows) ≡ Ok (statement_file m.terms m.reference m.lines.rows)
reads m a h =
    let k = kept h in
    file_reads m.terms m.reference m.lines.rows (right m a h).line_order (sums_fit m.terms m.lines.rows (postings a) (postings_few m a k) k.lines)

pub settled : Settled
settled = record {
  right = right;
  takes = takes_right;
  joins = joins_right;
  equal = equal;
  fair = λ m a h. (kept h).fair;
  net = λ m a h i row e. net_shown m a i row e (right m a h).line_right;
  reads = reads;
}
