-- Lines and days are lawful rows, and a row is read back from its cell.
use Rattle.std.specs.Prelude.{◌≡◌, ℕ, min, max, Bool, true, false, [], ◌∷◌, Some, None, Option, nat_le, refl}
use Rattle.std.proofs.Common.{sym, ap, ◌∙◌, arith}
use Rattle.std.proofs.Math.Bridge.{le_prop}
use Rattle.std.proofs.lemmas.Bool.{and_from, le-leb, leb-true}
use Rattle.std.proofs.lemmas.Bool.Decides.{nat_tests}
use Rattle.values.specs.Calendar.{is_month, is_day}
use Rattle.values.specs.Labels.{is_point_number, is_descriptor_number}
use Rattle.values.specs.Ranges.{month_range, day_range}
use Rattle.values.specs.Rates.{is_tariff}
use Rattle.values.specs.Checked.{checked, and_then}
use Rattle.values.specs.Values.{month_of, day_of, time_of, tariff_of, point_of, descriptor_of, earlier, later}
use Rattle.values.proofs.Backs.{checked_yes, some_is, month_back, day_back, time_back, tariff_back, point_back, descriptor_back, same_month, same_day, same_time, same_tariff, same_point, same_descriptor}
use Rattle.values.specs.declared.calendar.Month.{Month}
use Rattle.values.specs.declared.calendar.Day.{Day}
use Rattle.values.specs.declared.calendar.TimeOfDay.{TimeOfDay}
use Rattle.values.specs.declared.labels.Point.{Point}
use Rattle.values.specs.declared.labels.Descriptor.{Descriptor}
use Rattle.values.specs.declared.rates.Tariff.{Tariff}
use Rattle.ledger.specs.Keys.{OrderLaws, JoinLaws}
use Rattle.ledger.specs.Lex.{lex_order}
use Rattle.ledger.specs.Sums.{most_calls, most_tenths, IsTraffic, is_traffic}
use Rattle.ledger.specs.Rows.{traffic_range, traffic_of, plus, line_figures, line_keys, join_lines, line_of, line_cell, line_cell_figures, line_cell_order, day_figures, day_keys, join_days, day_row_of, day_cell, day_cell_figures, day_cell_order}
use Rattle.ledger.specs.Ledgers.{none≢some}
use Rattle.ledger.specs.LexLaws.{keys_lawful}
use Rattle.ledger.specs.declared.traffic.Traffic.{Traffic}
use Rattle.ledger.specs.declared.line.LineKey.{LineKey}
use Rattle.ledger.specs.declared.line.LineRow.{LineRow}
use Rattle.ledger.specs.declared.line.LineCell.{LineCell}
use Rattle.ledger.specs.declared.day.DayKey.{DayKey}
use Rattle.ledger.specs.declared.day.DayRow.{DayRow}
use Rattle.ledger.specs.declared.day.DayCell.{DayCell}

traffic_prop : (c t : ℕ) (u v : IsTraffic c t) → u ≡ v
traffic_prop c t u v = λ i. (le_prop u.0 v.0 i, le_prop u.1 v.1 i)

pub traffic_test : (c t : ℕ) → IsTraffic c t → is_traffic c t ≡ true
traffic_test c t h = and_from (nat_le c most_calls) (nat_le t most_tenths) (le-leb c most_calls h.0) (le-leb t most_tenths h.1)

pub traffic_back : (a : Traffic) → traffic_of a.calls a.tenths ≡ Some a
traffic_back a =
    let t = traffic_test a.calls a.tenths a.ok in
    checked_yes (is_traffic a.calls a.tenths) (λ e. record { calls = a.calls; tenths = a.tenths; ok = traffic_range a.calls a.tenths e }) t
    ∙ ap (λ p. Some (record { calls = a.calls; tenths = a.tenths; ok = p })) (traffic_prop a.calls a.tenths (traffic_range a.calls a.tenths t) a.ok)

pub same_traffic : (a b : Traffic) → a.calls ≡ b.calls → a.tenths ≡ b.tenths → a ≡ b
same_traffic a b e f = some_is (sym (traffic_back a) ∙ ap (λ x. traffic_of x a.tenths) e ∙ ap (λ x. traffic_of b.calls x) f ∙ traffic_back b)

pub plus_commutes : (a b : Traffic) → plus a b ≡ plus b a
plus_commutes a b = same_traffic (plus a b) (plus b a) (omega arith) (omega arith)

pub plus_associates : (a b c : Traffic) → plus (plus a b) c ≡ plus a (plus b c)
plus_associates a b c = same_traffic (plus (plus a b) c) (plus a (plus b c)) (omega arith) (omega arith)

number_earlier : (a b : TimeOfDay) → (earlier a b).number ≡ min a.number b.number
number_earlier a b = grind (arith, nat_tests)

number_later : (a b : TimeOfDay) → (later a b).number ≡ max a.number b.number
number_later a b = grind (arith, nat_tests)

pub earlier_commutes : (a b : TimeOfDay) → earlier a b ≡ earlier b a
earlier_commutes a b = same_time (earlier a b) (earlier b a) (omega (arith, number_earlier a b, number_earlier b a))

pub earlier_associates : (a b c : TimeOfDay) → earlier (earlier a b) c ≡ earlier a (earlier b c)
earlier_associates a b c =
    same_time (earlier (earlier a b) c) (earlier a (earlier b c))
    (omega (arith, number_earlier (earlier a b) c, number_earlier a b, number_earlier a (earlier b c), number_earlier b c))

pub later_commutes : (a b : TimeOfDay) → later a b ≡ later b a
later_commutes a b = same_time (later a b) (later b a) (omega (arith, number_later a b, number_later b a))

pub later_associates : (a b c : TimeOfDay) → later (later a b) c ≡ later a (later b c)
later_associates a b c =
    same_time (later (later a b) c) (later a (later b c))
    (omega (arith, number_later (later a b) c, number_later a b, number_later a (later b c), number_later b c))

-- figures tell keys apart
line_key_same : (a b : LineKey) → line_figures a ≡ line_figures b → a ≡ b
line_key_same a b e =
    let m : a.month.number ≡ b.month.number = cc in
    let p : a.point.number ≡ b.point.number = cc in
    let d : a.descriptor.number ≡ b.descriptor.number = cc in
    let t : a.tariff.number ≡ b.tariff.number = cc in
    λ i. record {
      month = same_month a.month b.month m i;
      point = same_point a.point b.point p i;
      descriptor = same_descriptor a.descriptor b.descriptor d i;
      tariff = same_tariff a.tariff b.tariff t i;
    }

day_key_same : (a b : DayKey) → day_figures a ≡ day_figures b → a ≡ b
day_key_same a b e =
    let d : a.day.number ≡ b.day.number = cc in
    let p : a.point.number ≡ b.point.number = cc in
    λ i. record { day = same_day a.day b.day d i; point = same_point a.point b.point p i }

pub line_order : OrderLaws line_keys
line_order = keys_lawful (λ r. r.key) line_figures line_key_same

pub day_order : OrderLaws day_keys
day_order = keys_lawful (λ r. r.key) day_figures day_key_same

pub line_joins : JoinLaws line_keys join_lines
line_joins = record {
  keeps = λ a b e. refl;
  commutes = λ a b e. λ i. record { key = e i; traffic = plus_commutes a.traffic b.traffic i };
  associates = λ a b c e f. λ i. record { key = a.key; traffic = plus_associates a.traffic b.traffic c.traffic i };
}

pub day_joins : JoinLaws day_keys join_days
day_joins = record {
  keeps = λ a b e. refl;
  commutes = λ a b e. λ i. record {
    key = e i;
    traffic = plus_commutes a.traffic b.traffic i;
    earliest = earlier_commutes a.earliest b.earliest i;
    latest = later_commutes a.latest b.latest i;
  };
  associates = λ a b c e f. λ i. record {
    key = a.key;
    traffic = plus_associates a.traffic b.traffic c.traffic i;
    earliest = earlier_associates a.earliest b.earliest c.earliest i;
    latest = later_associates a.latest b.latest c.latest i;
  };
}

pub line_back : (r : LineRow) → line_of (line_cell r) ≡ Some r
line_back r =
    rw (month_back r.key.month, point_back r.key.point, descriptor_back r.key.descriptor, tariff_back r.key.tariff, traffic_back r.traffic)

pub day_row_back : (r : DayRow) → day_row_of (day_cell r) ≡ Some r
day_row_back r =
    rw (day_back r.key.day, point_back r.key.point, traffic_back r.traffic, time_back r.earliest, time_back r.latest)

-- a value that a check made
checked_made : {A : Type 0} (test : Bool) (make : test ≡ true → A) (a : A) → checked test make ≡ Some a → (e : test ≡ true) × (make e ≡ a)
checked_made true make a q = (refl, some_is q)
checked_made false make a q = absurd (none≢some refl q)

month_number : (n : ℕ) (a : Month) → month_of n ≡ Some a → n ≡ a.number
month_number n a q = ap (λ x. x.number) (checked_made (is_month n) (λ e. record { number = n; ok = month_range n e }) a q).1

day_number : (n : ℕ) (a : Day) → day_of n ≡ Some a → n ≡ a.number
day_number n a q = ap (λ x. x.number) (checked_made (is_day n) (λ e. record { number = n; ok = day_range n e }) a q).1

point_number : (n : ℕ) (a : Point) → point_of n ≡ Some a → n ≡ a.number
point_number n a q = ap (λ x. x.number) (checked_made (is_point_number n) (λ e. record { number = n; ok = e }) a q).1

descriptor_number : (n : ℕ) (a : Descriptor) → descriptor_of n ≡ Some a → n ≡ a.number
descriptor_number n a q = ap (λ x. x.number) (checked_made (is_descriptor_number n) (λ e. record { number = n; ok = e }) a q).1

tariff_number : (n : ℕ) (a : Tariff) → tariff_of n ≡ Some a → n ≡ a.number
tariff_number n a q = ap (λ x. x.number) (checked_made (is_tariff n) (λ e. record { number = n; ok = leb-true n 9999999 e }) a q).1

-- the parts of a line's key that was made from its parts
line_parts : (m : Option Month) (p : Option Point) (d : Option Descriptor) (f : Option Tariff) (t : Option Traffic) (r : LineRow)
    → and_then m (λ m. and_then p (λ p. and_then d (λ d. and_then f (λ f. and_then t (λ t. Some (record { key = record { month = m; point = p; descriptor = d; tariff = f }; traffic = t })))))) ≡ Some r
    → (m ≡ Some r.key.month) × (p ≡ Some r.key.point) × (d ≡ Some r.key.descriptor) × (f ≡ Some r.key.tariff)
line_parts None p d f t r e = absurd (none≢some refl e)
line_parts (Some m) None d f t r e = absurd (none≢some refl e)
line_parts (Some m) (Some p) None f t r e = absurd (none≢some refl e)
line_parts (Some m) (Some p) (Some d) None t r e = absurd (none≢some refl e)
line_parts (Some m) (Some p) (Some d) (Some f) None r e = absurd (none≢some refl e)
line_parts (Some m) (Some p) (Some d) (Some f) (Some t) r e =
    let q = some_is e in
    (ap (λ x. Some x.key.month) q, ap (λ x. Some x.key.point) q, ap (λ x. Some x.key.descriptor) q, ap (λ x. Some x.key.tariff) q)

-- a cell has the figures of the row that it holds
line_figures_lem : (c : LineCell) (r : LineRow) → line_of c ≡ Some r → line_cell_figures c ≡ line_figures r.key
line_figures_lem c r e =
    let parts = line_parts (month_of c.month) (point_of c.point) (descriptor_of c.descriptor) (tariff_of c.tariff) (traffic_of c.calls c.tenths) r e in
    let m = month_number c.month r.key.month parts.0 in
    let p = point_number c.point r.key.point parts.1 in
    let d = descriptor_number c.descriptor r.key.descriptor parts.2 in
    let f = tariff_number c.tariff r.key.tariff parts.3 in
    λ i. m i ∷ (p i ∷ (d i ∷ (f i ∷ [])))

pub line_ranked : (c : LineCell) (k : LineKey) (r : LineRow) → line_of c ≡ Some r → line_cell_order c k ≡ line_keys.order (line_keys.key_of r) k
line_ranked c k r e = ap (λ x. lex_order x (line_figures k)) (line_figures_lem c r e)

day_parts : (d : Option Day) (p : Option Point) (t : Option Traffic) (e l : Option TimeOfDay) (r : DayRow)
    → and_then d (λ d. and_then p (λ p. and_then t (λ t. and_then e (λ e. and_then l (λ l. Some (record { key = record { day = d; point = p }; traffic = t; earliest = e; latest = l })))))) ≡ Some r
    → (d ≡ Some r.key.day) × (p ≡ Some r.key.point)
day_parts None p t e l r q = absurd (none≢some refl q)
day_parts (Some d) None t e l r q = absurd (none≢some refl q)
day_parts (Some d) (Some p) None e l r q = absurd (none≢some refl q)
day_parts (Some d) (Some p) (Some t) None l r q = absurd (none≢some refl q)
day_parts (Some d) (Some p) (Some t) (Some e) None r q = absurd (none≢some refl q)
day_parts (Some d) (Some p) (Some t) (Some e) (Some l) r q =
    let s = some_is q in
    (ap (λ x. Some x.key.day) s, ap (λ x. Some x.key.point) s)

day_figures_lem : (c : DayCell) (r : DayRow) → day_row_of c ≡ Some r → day_cell_figures c ≡ day_figures r.key
day_figures_lem c r e =
    let parts = day_parts (day_of c.day) (point_of c.point) (traffic_of c.calls c.tenths) (time_of c.earliest) (time_of c.latest) r e in
    let d = day_number c.day r.key.day parts.0 in
    let p = point_number c.point r.key.point parts.1 in
    λ i. d i ∷ (p i ∷ [])

pub day_ranked : (c : DayCell) (k : DayKey) (r : DayRow) → day_row_of c ≡ Some r → day_cell_order c k ≡ day_keys.order (day_keys.key_of r) k
day_ranked c k r e = ap (λ x. lex_order x (day_figures k)) (day_figures_lem c r e)
