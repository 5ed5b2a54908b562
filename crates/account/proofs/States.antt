-- What every statement that takes and joins lead to keeps, by its account.
use Rattle.std.proofs.Common.{◌≡◌, ℕ, ◌+◌, ◌-◌, ◌<◌, ◌≤◌, Bool, true, false, cond, eqb, leb, List, [], ◌∷◌, ◌++◌, map, length, Ok, Err, count_by, Result, sym, refl, ap, ◌∙◌, subst, ap₂, inl, inr, arith}
use mathlib.Core.HLevel.{is_prop→PathP}
use native.Mathlib.Bridge.{le_prop}
use Rattle.std.specs.List.{AllByRecursion}
use Rattle.std.proofs.ByRecursion.{All-append, All-push}
use Rattle.std.proofs.lemmas.List.{length-append, get_or-replicate}
use Rattle.std.proofs.lemmas.List.Sums.{sum_by-append, sum_by_push}
use Rattle.std.proofs.lemmas.Bool.{and_from, and_parts, eqb-true, leb-true, le-leb}
use Rattle.std.proofs.lemmas.Bool.Decides.{nat_tests}
use Rattle.cdr.specs.Faults.{charge, charged_to}
use Rattle.cdr.specs.Reader.{read_record}
use Rattle.cdr.specs.declared.call.CallRecord.{CallRecord}
use Rattle.cdr.specs.declared.faults.Charged.{Charged}
use Rattle.cdr.specs.declared.faults.RecordFault.{RecordFault}
use Rattle.cdr.specs.declared.faults.RecordFault.TheVariants.{Length, Malformed, Category, Selection, Sliced, Cause}
use Rattle.ledger.specs.Ledger.{takes, put_row}
use Rattle.ledger.specs.Rows.{line_keys, join_lines, day_keys, join_days}
use Rattle.ledger.specs.Ledgers.{put_taken}
use Rattle.ledger.specs.RowLaws.{line_order, line_joins, day_order, day_joins}
use Rattle.merging.specs.Merges.{merge_rows, ledger_of}
use Rattle.merging.proofs.MergeLaws.{merge_push, ledger_dealt}
use Rattle.merging.proofs.Reorderings.{map_append}
use Rattle.rating.specs.Rating.{Book, rated_by}
use Rattle.rating.specs.declared.faults.RatingFault.{RatingFault}
use Rattle.rating.specs.declared.faults.RatingFault.TheVariants.{Month as OutOfMonth, NoScenario, TooShort, NoTariff}
use Rattle.rating.specs.declared.tenths.Rated.{Rated}
use Rattle.values.proofs.Backs.{some_is, carrier_back, rates_back, same_from, same_month}
use Rattle.values.specs.Values.{carrier_of, rates_of}
use Rattle.values.specs.declared.calendar.Month.{Month}
use Rattle.values.specs.declared.rates.TaxRates.{TaxRates}
use Rattle.values.specs.declared.terms.Carrier.{Carrier}
use Rattle.values.specs.declared.terms.Terms.{Terms}
use Rattle.statement.specs.Account.{Entry, Reaches, Reaches.opening, Reaches.took, Reaches.received, Reaches.gave, entered, take_noted, receiver_noted, giver_noted}
use Rattle.statement.specs.Board.{no_tally, tally_at, tallies_joined}
use Rattle.statement.specs.Faults.{take_number, take_sequential}
use Rattle.statement.specs.Joining.{same_terms, is_like, lines_together, days_together, join_answer, united, receiver_after, giver_after}
use Rattle.statement.specs.Postings.{posting_of, line_for, day_for, booked_of}
use Rattle.statement.specs.Statement.{Model, opened, fitted, onward, verdict, counted, with_rows, with_fault, answer_of, after_of, take_answer, take_after}
use Rattle.statement.specs.declared.faults.StoreFault.TheVariants.{LinesFull, DaysFull}
use Rattle.statement.specs.declared.faults.TakeFault.{TakeFault}
use Rattle.statement.specs.declared.faults.TakeFault.TheVariants.{Spent, Record, Rating, Store}
use Rattle.statement.specs.declared.joining.JoinFault.{JoinFault}
use Rattle.statement.specs.declared.joining.JoinFault.TheVariants.{Unlike, TooMany, Lines, Days}
use Rattle.statement.specs.declared.posting.Booked.{Booked}
use Rattle.statement.specs.declared.posting.Posting.{Posting}
use Rattle.account.specs.Postings.{brought, added, postings, is_booked, is_refused}
use Rattle.account.specs.Settled.{judged, limit, ChargedTo, Fair}
use Rattle.account.proofs.Tallies.{tally_in, tally_append, tally_refused, joined_none, noted_at, length_noted, length_each_joined, joined_at}

-- ---- how a take comes to its answer

-- a refusal that is counted
abbrev pub Counted : TakeFault → Type 0
Counted f = (2 ≤ take_number f) × (take_number f ≤ 13)

-- the record shows the start of what is booked for it
abbrev pub Shows : List ℕ → Posting → Type 0
Shows r p = (call : CallRecord) × (read_record r ≡ Ok call) × (call.time ≡ p.time)

record_counted : (s : ℕ) (f : RecordFault) → Counted (Record (charged_to s f))
record_counted s (Length n) = (omega arith, omega arith)
record_counted s (Malformed f c) = (omega arith, omega arith)
record_counted s Category = (omega arith, omega arith)
record_counted s Selection = (omega arith, omega arith)
record_counted s Sliced = (omega arith, omega arith)
record_counted s Cause = (omega arith, omega arith)

rating_counted : (s : ℕ) (f : RatingFault) → Counted (Rating (charged_to s f))
rating_counted s OutOfMonth = (omega arith, omega arith)
rating_counted s NoScenario = (omega arith, omega arith)
rating_counted s TooShort = (omega arith, omega arith)
rating_counted s NoTariff = (omega arith, omega arith)

pub data Decided (m : Model) (b : Book) (r : List ℕ) : Result Posting TakeFault → Type 0 where
  fault : {f : TakeFault} → judged m.terms m.reference b r ≡ Err f → Counted f → Decided m b r (Err f)
  line_full : {p : Posting} {s : ℕ} → judged m.terms m.reference b r ≡ Ok p → ChargedTo r s
      → takes line_keys (line_for p) m.lines ≡ false → Decided m b r (Err (Store (charged_to s LinesFull)))
  day_full : {p : Posting} {s : ℕ} → judged m.terms m.reference b r ≡ Ok p → ChargedTo r s
      → takes line_keys (line_for p) m.lines ≡ true → takes day_keys (day_for p) m.days ≡ false → Decided m b r (Err (Store (charged_to s DaysFull)))
  books : {p : Posting} → judged m.terms m.reference b r ≡ Ok p → Shows r p
      → takes line_keys (line_for p) m.lines ≡ true → takes day_keys (day_for p) m.days ≡ true → Decided m b r (Ok p)

pub decided : (m : Model) (b : Book) (r : List ℕ) → Decided m b r (verdict m b r)
decided m b r = go (read_record r) refl
  where
    rooms : (call : CallRecord) (p : Posting) → read_record r ≡ Ok call → call.time ≡ p.time → judged m.terms m.reference b r ≡ Ok p
        → (x y : Bool) → takes line_keys (line_for p) m.lines ≡ x → takes day_keys (day_for p) m.days ≡ y
        → Decided m b r (onward Store (charge call.sequential (fitted x y)) (λ _. Ok p))
    rooms call p e t j true true g h = books j (call, e, t) g h
    rooms call p e t j true false g h = day_full j (call, e, refl) g h
    rooms call p e t j false y g h = line_full j (call, e, refl) g

    rated : (call : CallRecord) → read_record r ≡ Ok call → (x : Result Rated RatingFault) → rated_by b m.terms m.reference call ≡ x → Decided m b r (verdict m b r)
    rated call e (Err f) q = rw (e, q) (fault {f = Rating (charged_to call.sequential f)} (rw (e, q) refl) (rating_counted call.sequential f))
    rated call e (Ok x) q =
        let p = posting_of call x in
        rw (e, q) (rooms call p e refl (rw (e, q) refl) (takes line_keys (line_for p) m.lines) (takes day_keys (day_for p) m.days) refl refl)

    go : (x : Result CallRecord (Charged RecordFault)) → read_record r ≡ x → Decided m b r (verdict m b r)
    go (Err c) e = rw e (fault {f = Record c} (rw e refl) (record_counted c.sequential c.fault))
    go (Ok call) e = rated call e (rated_by b m.terms m.reference call) refl

-- ---- what is kept

pub record Kept (m : Model) (a : List Entry) : Type 0 where
  pub lines : m.lines.rows ≡ ledger_of line_keys join_lines (map line_for (postings a))
  pub days : m.days.rows ≡ ledger_of day_keys join_days (map day_for (postings a))
  pub taken : m.taken ≡ length a
  pub few : length a ≤ limit
  pub booked : length (postings a) ≡ count_by (λ e. is_booked e.answer) a
  pub each : length a ≡ count_by (λ e. is_booked e.answer) a + count_by (λ e. is_refused e.answer) a
  pub numbers : length m.board.tallies ≡ 12
  pub tallies : (n : ℕ) → 2 ≤ n → n ≤ 13 → tally_at m.board (n - 2) ≡ tally_in n a
  pub fair : AllByRecursion (Fair m.terms m.reference) a

-- ---- postings of two accounts, one after the other

added_append : (r : List ℕ) (x : Result Booked TakeFault) (ps qs : List Posting) → added r x (ps ++ qs) ≡ added r x ps ++ qs
added_append r (Ok b) ps qs = go (read_record r)
  where
    go : (x : Result CallRecord (Charged RecordFault)) → brought b x (ps ++ qs) ≡ brought b x ps ++ qs
    go (Ok call) = refl
    go (Err f) = refl
added_append r (Err f) ps qs = refl

pub postings_append : (a c : List Entry) → postings (a ++ c) ≡ postings a ++ postings c
postings_append [] c = refl
postings_append (e ∷ a) c = ap (added e.bytes e.answer) (postings_append a c) ∙ added_append e.bytes e.answer (postings a) (postings c)

append_none : {X : Type 0} (xs : List X) → xs ++ [] ≡ xs
append_none [] = refl
append_none (x ∷ xs) = ap (λ l. x ∷ l) (append_none xs)

pub added_booked : (r : List ℕ) (p : Posting) (ps : List Posting) → Shows r p → added r (Ok (booked_of p)) ps ≡ p ∷ ps
added_booked r p ps h = ap (λ x. brought (booked_of p) x ps) h.1 ∙ ap (λ t. record { key = p.key; day = p.day; time = t; tenths = p.tenths } ∷ ps) h.2

-- ---- a new statement

kept_opened : (t : Terms) (reference : Month) (lines days : ℕ) → Kept (opened t reference lines days) []
kept_opened t reference lines days = record {
  lines = refl;
  days = refl;
  taken = refl;
  few = omega arith;
  booked = refl;
  each = refl;
  numbers = refl;
  tallies = λ n h l. get_or-replicate 12 (n - 2) no_tally no_tally (omega arith);
  fair = tt;
}

-- ---- a take

kept_refused : {m : Model} {a : List Entry} (b : Book) (r : List ℕ) (f : TakeFault) → Kept m a → m.taken < limit → Counted f
    → Fair m.terms m.reference (record { book = b; bytes = r; answer = Err f }) → Kept (with_fault m f) (entered a b r (Err f))
kept_refused {m} {a} b r f k below c fair =
    let e : Entry = record { book = b; bytes = r; answer = Err f } in
    let same : postings (a ++ (e ∷ [])) ≡ postings a = postings_append a (e ∷ []) ∙ append_none (postings a) in
    let more : length (a ++ (e ∷ [])) ≡ length a + 1 = length-append a (e ∷ []) in
    let refused : is_refused (Err f) ≡ true = and_from (leb 2 (take_number f)) (leb (take_number f) 13) (le-leb 2 (take_number f) c.0) (le-leb (take_number f) 13 c.1) in
    let bookings : count_by (λ x. is_booked x.answer) (a ++ (e ∷ [])) ≡ count_by (λ x. is_booked x.answer) a + 0 = sum_by_push (λ x. cond (is_booked x.answer) 1 0) a e in
    let refusals : count_by (λ x. is_refused x.answer) (a ++ (e ∷ [])) ≡ count_by (λ x. is_refused x.answer) a + 1 =
    sum_by_push (λ x. cond (is_refused x.answer) 1 0) a e ∙ ap (λ y. count_by (λ x. is_refused x.answer) a + cond y 1 0) refused in
    record {
      lines = k.lines ∙ ap (λ ps. ledger_of line_keys join_lines (map line_for ps)) (sym same);
      days = k.days ∙ ap (λ ps. ledger_of day_keys join_days (map day_for ps)) (sym same);
      taken = omega (arith, k.taken, more);
      few = omega (arith, k.taken, more, below);
      booked = ap length same ∙ omega (arith, k.booked, bookings);
      each = omega (arith, k.each, more, bookings, refusals);
      numbers = length_noted m.board (take_number f) (take_sequential f) ∙ k.numbers;
      tallies = λ n h l.
          noted_at m.board n (take_number f) (take_sequential f) k.numbers h l c.0 c.1
          ∙ (tally_refused n (tally_at m.board (n - 2)) e f refl
          ∙ (ap (λ t. tallies_joined t (tally_in n (e ∷ []))) (k.tallies n h l) ∙ sym (tally_append n a (e ∷ []))));
      fair = All-push (Fair m.terms m.reference) a e k.fair fair;
    }

kept_booked : {m : Model} {a : List Entry} (b : Book) (r : List ℕ) (p : Posting) → Kept m a → m.taken < limit → Shows r p
    → takes line_keys (line_for p) m.lines ≡ true → takes day_keys (day_for p) m.days ≡ true
    → Fair m.terms m.reference (record { book = b; bytes = r; answer = Ok (booked_of p) })
    → Kept (counted (with_rows m (line_for p) (day_for p))) (entered a b r (Ok (booked_of p)))
kept_booked {m} {a} b r p k below shows line day fair =
    let e : Entry = record { book = b; bytes = r; answer = Ok (booked_of p) } in
    let ps = postings a in
    let grown : postings (a ++ (e ∷ [])) ≡ ps ++ (p ∷ []) = postings_append a (e ∷ []) ∙ ap (λ l. ps ++ l) (added_booked r p [] shows) in
    let more : length (a ++ (e ∷ [])) ≡ length a + 1 = length-append a (e ∷ []) in
    let longer : length (ps ++ (p ∷ [])) ≡ length ps + 1 = length-append ps (p ∷ []) in
    let bookings : count_by (λ x. is_booked x.answer) (a ++ (e ∷ [])) ≡ count_by (λ x. is_booked x.answer) a + 1 = sum_by_push (λ x. cond (is_booked x.answer) 1 0) a e in
    let refusals : count_by (λ x. is_refused x.answer) (a ++ (e ∷ [])) ≡ count_by (λ x. is_refused x.answer) a + 0 = sum_by_push (λ x. cond (is_refused x.answer) 1 0) a e in
    let put-line = ap (λ l. l.rows) (put_taken line_keys join_lines (line_for p) m.lines line) in
    let put-day = ap (λ l. l.rows) (put_taken day_keys join_days (day_for p) m.days day) in
    record {
      lines =
          put-line
          ∙ (ap (put_row line_keys join_lines (line_for p)) k.lines
          ∙ (sym (merge_push line_keys join_lines [] (map line_for ps) (line_for p))
          ∙ ap (ledger_of line_keys join_lines) (sym (map_append line_for ps (p ∷ [])) ∙ ap (map line_for) (sym grown))));
      days =
          put-day
          ∙ (ap (put_row day_keys join_days (day_for p)) k.days
          ∙ (sym (merge_push day_keys join_days [] (map day_for ps) (day_for p))
          ∙ ap (ledger_of day_keys join_days) (sym (map_append day_for ps (p ∷ [])) ∙ ap (map day_for) (sym grown))));
      taken = omega (arith, k.taken, more);
      few = omega (arith, k.taken, more, below);
      booked = ap length grown ∙ omega (arith, k.booked, bookings, longer);
      each = omega (arith, k.each, more, bookings, refusals);
      numbers = k.numbers;
      tallies = λ n h l. k.tallies n h l ∙ (sym (joined_none (tally_in n a)) ∙ sym (tally_append n a (e ∷ [])));
      fair = All-push (Fair m.terms m.reference) a e k.fair fair;
    }

-- a counted refusal is entered
noted_refused : (a : List Entry) (b : Book) (r : List ℕ) (f : TakeFault) → Counted f → take_noted a b r (Err f) ≡ entered a b r (Err f)
noted_refused a b r Spent c = absurd (omega (arith, c.0))
noted_refused a b r (Record x) c = refl
noted_refused a b r (Rating x) c = refl
noted_refused a b r (Store x) c = refl

kept_after : {m : Model} {a : List Entry} (b : Book) (r : List ℕ) (v : Result Posting TakeFault) → Kept m a → m.taken < limit → Decided m b r v → Kept (after_of m v) (take_noted a b r (answer_of v))
kept_after {m} {a} b r (Err f) k l (fault j c) = subst (Kept (with_fault m f)) (sym (noted_refused a b r f c)) (kept_refused b r f k l c (inl (sym (ap answer_of j))))
kept_after {m} {a} b r (Err f) k l (line_full {p = p} {s = s} j c g) = kept_refused b r f k l (omega arith, omega arith) (inr (p, j, s, c, inl refl))
kept_after {m} {a} b r (Err f) k l (day_full {p = p} {s = s} j c g h) = kept_refused b r f k l (omega arith, omega arith) (inr (p, j, s, c, inr refl))
kept_after {m} {a} b r (Ok p) k l (books j s g h) = kept_booked b r p k l s g h (inl (sym (ap answer_of j)))

kept_take : {m : Model} {a : List Entry} (b : Book) (r : List ℕ) → Kept m a → Kept (take_after m b r) (take_noted a b r (take_answer m b r))
kept_take {m} {a} b r k = go (leb limit m.taken) refl
  where
    go : (t : Bool) → leb limit m.taken ≡ t → Kept (take_after m b r) (take_noted a b r (take_answer m b r))
    go true e = rw e k
    go false e = rw e (kept_after b r (verdict m b r) k (grind (arith, nat_tests)) (decided m b r))

-- ---- a join

-- how a join comes to its answer
pub data Joins (m g : Model) : Result (Unit {0}) JoinFault → Type 0 where
  unlike : is_like m g ≡ false → Joins m g (Err Unlike)
  too_many : is_like m g ≡ true → leb (m.taken + g.taken) limit ≡ false → Joins m g (Err TooMany)
  lines_full : is_like m g ≡ true → leb (m.taken + g.taken) limit ≡ true → leb (length (lines_together m g)) m.lines.most ≡ false → Joins m g (Err Lines)
  days_full : is_like m g ≡ true → leb (m.taken + g.taken) limit ≡ true → leb (length (lines_together m g)) m.lines.most ≡ true → leb (length (days_together m g)) m.days.most ≡ false → Joins m g (Err Days)
  fits : is_like m g ≡ true → leb (m.taken + g.taken) limit ≡ true → leb (length (lines_together m g)) m.lines.most ≡ true → leb (length (days_together m g)) m.days.most ≡ true → Joins m g (Ok tt)

pub joins : (m g : Model) → Joins m g (join_answer m g)
joins m g = go (is_like m g) (leb (m.taken + g.taken) limit) (leb (length (lines_together m g)) m.lines.most) (leb (length (days_together m g)) m.days.most) refl refl refl refl
  where
    go : (t u v w : Bool) → is_like m g ≡ t → leb (m.taken + g.taken) limit ≡ u → leb (length (lines_together m g)) m.lines.most ≡ v → leb (length (days_together m g)) m.days.most ≡ w
        → Joins m g (join_answer m g)
    go false u v w e f h i = rw e (unlike e)
    go true false v w e f h i = rw (e, f) (too_many e f)
    go true true false w e f h i = rw (e, f, h) (lines_full e f h)
    go true true true false e f h i = rw (e, f, h, i) (days_full e f h i)
    go true true true true e f h i = rw (e, f, h, i) (fits e f h i)

same_carrier : (a b : Carrier) → a.code ≡ b.code → a ≡ b
same_carrier = same_from carrier_of (λ c. c.code) carrier_back

same_rates : (a b : TaxRates) → a.pis ≡ b.pis → a.icms ≡ b.icms → a ≡ b
same_rates a b e f = some_is (sym (rates_back a) ∙ (ap (λ x. rates_of x a.icms) e ∙ (ap (λ x. rates_of b.pis x) f ∙ rates_back b)))

terms_from : (t u : Terms) → t.creditor.code ≡ u.creditor.code → t.debtor.code ≡ u.debtor.code → t.back ≡ u.back → t.rates.pis ≡ u.rates.pis → t.rates.icms ≡ u.rates.icms → t ≡ u
terms_from t u c d b p q = λ i. record {
  creditor = same_carrier t.creditor u.creditor c i;
  debtor = same_carrier t.debtor u.debtor d i;
  back = b i;
  rates = same_rates t.rates u.rates p q i;
  ok = is_prop→PathP (λ j. b j ≤ 2) (λ j. le_prop) t.ok u.ok i;
}

same_terms_lem : (t u : Terms) → same_terms t u ≡ true → t ≡ u
same_terms_lem t u e = terms_from t u (grind (arith, nat_tests)) (grind (arith, nat_tests)) (grind (arith, nat_tests)) (grind (arith, nat_tests)) (grind (arith, nat_tests))

-- statements that are alike have the same terms and one reference month
pub same_kind : (m g : Model) → is_like m g ≡ true → (m.terms ≡ g.terms) × (m.reference ≡ g.reference)
same_kind m g e =
    let s = and_parts (same_terms m.terms g.terms) (eqb m.reference.number g.reference.number) e in
    (same_terms_lem m.terms g.terms s.0, same_month m.reference g.reference (eqb-true _ _ s.1))

kept_joined : {m g : Model} {a c : List Entry} → Kept m a → Kept g c → m.terms ≡ g.terms → m.reference ≡ g.reference → m.taken + g.taken ≤ limit → Kept (united m g) (a ++ c)
kept_joined {m} {g} {a} {c} k h p q l =
    let both = postings_append a c in
    let more = length-append a c in
    let booked-both = sum_by-append (λ x. cond (is_booked x.answer) 1 0) a c in
    let refused-both = sum_by-append (λ x. cond (is_refused x.answer) 1 0) a c in
    let longer = ap length both ∙ length-append (postings a) (postings c) in
    record {
      lines =
          ap₂ (merge_rows line_keys join_lines) k.lines h.lines
          ∙ (ledger_dealt line_keys line_order join_lines line_joins (map line_for (postings a)) (map line_for (postings c))
          ∙ ap (ledger_of line_keys join_lines) (sym (map_append line_for (postings a) (postings c)) ∙ ap (map line_for) (sym both)));
      days =
          ap₂ (merge_rows day_keys join_days) k.days h.days
          ∙ (ledger_dealt day_keys day_order join_days day_joins (map day_for (postings a)) (map day_for (postings c))
          ∙ ap (ledger_of day_keys join_days) (sym (map_append day_for (postings a) (postings c)) ∙ ap (map day_for) (sym both)));
      taken = omega (arith, k.taken, h.taken, more);
      few = omega (arith, k.taken, h.taken, more, l);
      booked = omega (arith, k.booked, h.booked, longer, booked-both);
      each = omega (arith, k.each, h.each, more, booked-both, refused-both);
      numbers = length_each_joined m.board.tallies g.board.tallies (k.numbers ∙ sym h.numbers) ∙ k.numbers;
      tallies = λ n i j.
          joined_at m.board.tallies g.board.tallies (n - 2) (omega (arith, k.numbers)) (k.numbers ∙ sym h.numbers)
          ∙ (ap₂ tallies_joined (k.tallies n i j) (h.tallies n i j) ∙ sym (tally_append n a c));
      fair = All-append (Fair m.terms m.reference) a c k.fair (subst (λ t. AllByRecursion (Fair t m.reference) c) (sym p) (subst (λ r. AllByRecursion (Fair g.terms r) c) (sym q) h.fair));
    }

kept_receive : {m g : Model} {a c : List Entry} (x : Result (Unit {0}) JoinFault) → Kept m a → Kept g c → Joins m g x → Kept (receiver_after m g x) (receiver_noted a c x)
kept_receive (Err f) k h j = k
kept_receive {m} {g} (Ok y) k h (fits e f i j) = let t = same_kind m g e in kept_joined k h t.0 t.1 (leb-true (m.taken + g.taken) limit f)

kept_give : {g : Model} {c : List Entry} (x : Result (Unit {0}) JoinFault) → Kept g c → Kept (giver_after g x) (giver_noted c x)
kept_give (Err f) h = h
kept_give {g} (Ok y) h = kept_opened g.terms g.reference g.lines.most g.days.most

pub kept : {m : Model} {a : List Entry} → Reaches m a → Kept m a
kept (opening t reference lines days) = kept_opened t reference lines days
kept (took h b r) = kept_take b r (kept h)
kept (received {m = m} {g = g} h i) = kept_receive (join_answer m g) (kept h) (kept i) (joins m g)
kept (gave {m = m} {g = g} h i) = kept_give (join_answer m g) (kept i)
