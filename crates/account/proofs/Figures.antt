-- The figures of a line and of a day by what is booked in them, and a line's net by its worth.
use Rattle.std.proofs.Common.{◌≡◌, ℕ, zero, suc, ◌+◌, ◌*◌, ◌%◌, ◌<◌, ◌≤◌, Bool, true, false, cond, leb, ◌⊎◌, List, [], ◌∷◌, ◌++◌, map, length, Some, filter, Ordering, Less, Equal, Greater, sym, refl, ap, ◌∙◌, subst, inl, inr, suc-le-suc, arith}
use Rattle.std.specs.List.{slice_get, ContainsAt as Has, AllByRecursion}
use Rattle.std.specs.Ordering.{is_eq}
use Rattle.std.proofs.ByRecursion.{All-weaker, kept_by_passes, sum_by_le}
use Rattle.std.proofs.lemmas.List.Sums.{sum_by-cons, length-filter, count_by-le-length}
use Rattle.std.proofs.lemmas.Bool.{false≢true}
use Rattle.std.proofs.lemmas.Bool.Decides.{leb_tells}
use Rattle.detraf.specs.Amounts.{net_of}
use Rattle.detraf.specs.Columns.{columns}
use Rattle.detraf.specs.Layout.{detail_line}
use Rattle.detraf.proofs.AmountLaws.{net_most}
use Rattle.detraf.proofs.FileLaws.{laid_out}
use Rattle.ledger.specs.Rows.{of_call, plus, line_keys, join_lines, day_keys, join_days}
use Rattle.ledger.specs.declared.day.DayRow.{DayRow}
use Rattle.ledger.specs.declared.line.LineKey.{LineKey}
use Rattle.ledger.specs.declared.line.LineRow.{LineRow}
use Rattle.ledger.specs.declared.traffic.Traffic.{Traffic}
use Rattle.ledger.specs.Ledgers.{none≢some}
use Rattle.ledger.specs.RowLaws.{line_order, line_joins, day_order, day_joins}
use Rattle.merging.specs.Merges.{ledger_of}
use Rattle.merging.proofs.Figures.{all_stand}
use Rattle.statement.specs.Account.{Entry}
use Rattle.statement.specs.Postings.{line_for, day_for}
use Rattle.statement.specs.Statement.{Model}
use Rattle.statement.specs.declared.posting.Posting.{Posting}
use Rattle.values.specs.Values.{earlier, later}
use Rattle.values.specs.declared.calendar.TimeOfDay.{TimeOfDay}
use Rattle.values.proofs.Backs.{some_is}
use Rattle.account.specs.Postings.{postings, line_of, day_of, in_line, in_day, tenths_of, worth, starts}
use Rattle.account.specs.Settled.{limit, Least, Greatest, LineRight, DayRight, FallsShort, NetRight}

-- ---- calls and tenths

abbrev Sums : Traffic → List Posting → Type 0
Sums t ps = (0 < length ps) × (t.calls ≡ length ps) × (t.tenths ≡ tenths_of ps)

-- few enough that no sum stops
abbrev Few : List Posting → Type 0
Few ps = length ps ≤ limit

all_short : (ps : List Posting) → AllByRecursion (λ p. p.tenths.count ≤ 600000) ps
all_short [] = tt
all_short (p ∷ ps) = (p.tenths.few, all_short ps)

sums_one : (p : Posting) → Sums (of_call p.tenths.count) (p ∷ [])
sums_one p = let short = p.tenths.few in (omega arith, omega arith, omega arith)

sums_more : (p : Posting) (t : Traffic) (ps : List Posting) → Few (p ∷ ps) → Sums t ps → Sums (plus (of_call p.tenths.count) t) (p ∷ ps)
sums_more p t ps h s =
    let few = sum_by_le (λ x. x.tenths.count) 600000 ps (all_short ps) in
    let one = p.tenths.few in
    let more = sum_by-cons (λ x. x.tenths.count) p ps in
    (omega arith, omega arith, omega arith)

few_tail : (p : Posting) (ps : List Posting) → Few (p ∷ ps) → Few ps
few_tail p ps h = omega arith

few_kept : (f : Posting → Bool) (ps : List Posting) → Few ps → Few (filter f ps)
few_kept f ps h = omega (arith, length-filter f ps, count_by-le-length f ps)

-- ---- the earliest and the latest start

has_head : (x : ℕ) (xs : List ℕ) → Has (x ∷ xs) x
has_head x xs = (0, omega arith, λ d. refl)

has_tail : (x y : ℕ) (xs : List ℕ) → Has xs y → Has (x ∷ xs) y
has_tail x y xs h = (suc h.0, suc-le-suc h.1, h.2)

earliest_more : (s t : TimeOfDay) (xs : List ℕ) → Least t.number xs → Least (earlier s t).number (s.number ∷ xs)
earliest_more s t xs h = go (leb_tells s.number t.number)
  where
    go : ((leb s.number t.number ≡ true) × (s.number ≤ t.number)) ⊎ ((leb s.number t.number ≡ false) × (t.number < s.number)) → Least (earlier s t).number (s.number ∷ xs)
    go (inl (e, l)) =
        subst (λ b. Least (cond b s t).number (s.number ∷ xs)) (sym e)
        (has_head s.number xs, (omega arith, All-weaker (λ x. t.number ≤ x) (λ x. s.number ≤ x) (λ x k. omega arith) xs h.1))
    go (inr (e, l)) = subst (λ b. Least (cond b s t).number (s.number ∷ xs)) (sym e) (has_tail s.number t.number xs h.0, (omega arith, h.1))

latest_more : (s t : TimeOfDay) (xs : List ℕ) → Greatest t.number xs → Greatest (later s t).number (s.number ∷ xs)
latest_more s t xs h = go (leb_tells s.number t.number)
  where
    go : ((leb s.number t.number ≡ true) × (s.number ≤ t.number)) ⊎ ((leb s.number t.number ≡ false) × (t.number < s.number)) → Greatest (later s t).number (s.number ∷ xs)
    go (inl (e, l)) = subst (λ b. Greatest (cond b t s).number (s.number ∷ xs)) (sym e) (has_tail s.number t.number xs h.0, (l, h.1))
    go (inr (e, l)) =
        subst (λ b. Greatest (cond b t s).number (s.number ∷ xs)) (sym e)
        (has_head s.number xs, (omega arith, All-weaker (λ x. x ≤ t.number) (λ x. x ≤ s.number) (λ x k. omega arith) xs h.1))

-- ---- lines

abbrev LineHolds : LineRow → List Posting → Type 0
LineHolds r ps = Few ps → Sums r.traffic ps

line_holds : (l : List LineRow) (ps : List Posting) → l ≡ ledger_of line_keys join_lines (map line_for ps) → AllByRecursion (λ r. LineHolds r (in_line r.key ps)) l
line_holds =
    all_stand line_keys line_order join_lines line_joins line_for LineHolds (λ p h. sums_one p)
    (λ p r ps e f h. sums_more p r.traffic ps h (f (few_tail p ps h)))

pub line_right : (l : List LineRow) (ps : List Posting) → Few ps → l ≡ ledger_of line_keys join_lines (map line_for ps) → AllByRecursion (LineRight ps) l
line_right l ps h e = All-weaker (λ r. LineHolds r (in_line r.key ps)) (LineRight ps) right l (line_holds l ps e)
  where
    right : (r : LineRow) → LineHolds r (in_line r.key ps) → LineRight ps r
    right r f = let s = f (few_kept (λ p. is_eq (line_keys.order (line_of p) r.key)) ps h) in record { used = s.0; calls = s.1; tenths = s.2 }

-- ---- days

abbrev DayHolds : DayRow → List Posting → Type 0
DayHolds r ps = Few ps → Sums r.traffic ps × Least r.earliest.number (starts ps) × Greatest r.latest.number (starts ps)

day_one : (p : Posting) → DayHolds (day_for p) (p ∷ [])
day_one p h = (sums_one p, (has_head p.time.number [], (omega arith, tt)), (has_head p.time.number [], (omega arith, tt)))

day_more : (p : Posting) (r : DayRow) (ps : List Posting) → day_of p ≡ r.key → DayHolds r ps → DayHolds (join_days (day_for p) r) (p ∷ ps)
day_more p r ps e f h =
    let s = f (few_tail p ps h) in
    (sums_more p r.traffic ps h s.0, earliest_more p.time r.earliest (starts ps) s.1, latest_more p.time r.latest (starts ps) s.2)

day_holds : (l : List DayRow) (ps : List Posting) → l ≡ ledger_of day_keys join_days (map day_for ps) → AllByRecursion (λ r. DayHolds r (in_day r.key ps)) l
day_holds = all_stand day_keys day_order join_days day_joins day_for DayHolds day_one day_more

pub day_right : (l : List DayRow) (ps : List Posting) → Few ps → l ≡ ledger_of day_keys join_days (map day_for ps) → AllByRecursion (DayRight ps) l
day_right l ps h e = All-weaker (λ r. DayHolds r (in_day r.key ps)) (DayRight ps) right l (day_holds l ps e)
  where
    right : (r : DayRow) → DayHolds r (in_day r.key ps) → DayRight ps r
    right r f =
        let s = f (few_kept (λ p. is_eq (day_keys.order (day_of p) r.key)) ps h) in
        record { used = s.0.0; calls = s.0.1; tenths = s.0.2; earliest = s.1; latest = s.2 }

-- ---- the net of a line

is_equal : (x : Ordering) → is_eq x ≡ true → x ≡ Equal
is_equal Equal e = refl
is_equal Less e = absurd (false≢true e)
is_equal Greater e = absurd (false≢true e)

worth_line : (k : LineKey) (ps : List Posting) → AllByRecursion (λ p. line_of p ≡ k) ps → worth ps ≡ tenths_of ps * k.tariff.number
worth_line k [] h = omega arith
worth_line k (p ∷ ps) h =
    let here : p.tenths.count * p.key.tariff.number ≡ p.tenths.count * k.tariff.number = ap (λ j. p.tenths.count * j.tariff.number) h.0 in
    let more : worth (p ∷ ps) ≡ p.tenths.count * p.key.tariff.number + worth ps = sum_by-cons (λ x. x.tenths.count * x.key.tariff.number) p ps in
    rw (sum_by-cons (λ x. x.tenths.count) p ps) (omega (arith, worth_line k ps h.1))

pub net_right : (ps : List Posting) (r : LineRow) → LineRight ps r → FallsShort (net_of r.traffic.tenths r.key.tariff.number) (in_line r.key ps)
net_right ps r h =
    let mine : List Posting = in_line r.key ps in
    let alike : AllByRecursion (λ p. line_of p ≡ r.key) mine =
    All-weaker (λ p. is_eq (line_keys.order (line_of p) r.key) ≡ true) (λ p. line_of p ≡ r.key)
    (λ p e. line_order.identical (line_of p) r.key (is_equal _ e)) mine (kept_by_passes (λ p. is_eq (line_keys.order (line_of p) r.key)) ps) in
    let all : worth mine ≡ r.traffic.tenths * r.key.tariff.number = worth_line r.key mine alike ∙ ap (λ n. n * r.key.tariff.number) (sym h.tenths) in
    ((r.traffic.tenths * r.key.tariff.number) % 100000, omega arith, all ∙ omega arith)

-- ---- the file's line of a row

all_nth : {X : Type 0} (P : X → Type 0) (xs : List X) (i : ℕ) (x : X) → AllByRecursion P xs → slice_get xs i ≡ Some x → P x
all_nth P [] i x h e = absurd (none≢some refl e)
all_nth P (y ∷ ys) zero x h e = subst P (some_is e) h.0
all_nth P (y ∷ ys) (suc i) x h e = all_nth P ys i x h.1 e

nth_front : {X Y : Type 0} (f : X → Y) (xs : List X) (ys : List Y) (i : ℕ) (x : X) → slice_get xs i ≡ Some x → slice_get (map f xs ++ ys) i ≡ Some (f x)
nth_front f [] ys i x e = absurd (none≢some refl e)
nth_front f (y ∷ xs) ys zero x e = ap (λ z. Some (f z)) (some_is e)
nth_front f (y ∷ xs) ys (suc i) x e = nth_front f xs ys i x e

pub net_shown : (m : Model) (a : List Entry) (i : ℕ) (row : LineRow) → slice_get m.lines.rows i ≡ Some row → AllByRecursion (LineRight (postings a)) m.lines.rows → NetRight m a i row
net_shown m a i row e h =
    let rows = m.lines.rows in
    let line = detail_line m.terms.rates row in
    let net = net_of row.traffic.tenths row.key.tariff.number in
    let out = laid_out m.terms m.reference rows in
    let here = out.lines i line (nth_front (detail_line m.terms.rates) rows _ i row e) in
    let top = net_most row.traffic.tenths row.key.tariff.number row.traffic.ok.1 row.key.tariff.ok in
    (net, suc-le-suc top, ap (columns 69 83) here ∙ (out.fields line).net, net_right (postings a) row (all_nth (LineRight (postings a)) rows i row h e))
