-- Rows are read back from their own bytes.
use Rattle.std.specs.Prelude.{◌≡◌, ℕ, ◌^◌, ◌<◌, Bool, true, false, cond, List, [], ◌++◌, length, Some, None, Option, ◌==◌, nat_lt, refl}
use Rattle.std.proofs.Common.{ap, ◌∙◌, arith}
use Rattle.std.specs.List.{between}
use Rattle.std.proofs.lemmas.List.{length-append}
use Rattle.std.proofs.lemmas.Bool.{and_parts, cond-true, eq-eqb, eqb-true, ltb-true}
use Rattle.digits.specs.Positional.{numeral, write_decimal, bytes_of, big_endian}
use Rattle.digits.proofs.Positional.{length_places, number_places, reads_back}
use Rattle.values.specs.Checked.{and_then}
use Rattle.values.specs.Labels.{is_point, is_descriptor}
use Rattle.values.specs.Values.{month_of, day_of, time_of, tariff_of, point_of, descriptor_of, month_in, day_in, time_in, point_in, descriptor_in, tariff_in}
use Rattle.values.proofs.Backs.{month_back, day_back, time_back, tariff_back, point_back, descriptor_back}
use Rattle.values.specs.declared.calendar.Month.{Month}
use Rattle.values.specs.declared.calendar.Day.{Day}
use Rattle.values.specs.declared.calendar.TimeOfDay.{TimeOfDay}
use Rattle.values.specs.declared.labels.Point.{Point}
use Rattle.values.specs.declared.labels.Descriptor.{Descriptor}
use Rattle.values.specs.declared.rates.Tariff.{Tariff}
use Rattle.ledger.specs.Rows.{traffic_of}
use Rattle.ledger.specs.Ledgers.{none≢some}
use Rattle.ledger.specs.RowLaws.{traffic_back}
use Rattle.ledger.specs.declared.traffic.Traffic.{Traffic}
use Rattle.ledger.specs.declared.line.LineRow.{LineRow}
use Rattle.ledger.specs.declared.day.DayRow.{DayRow}
use Rattle.images.specs.Fields.{traffic_in, traffic_bytes, line_width, line_fields_in, line_in, line_bytes, day_width, day_fields_in, day_row_in, day_bytes}
use Rattle.images.specs.Written.{Five, part_at, part_last, all_long, first_read, second_read, third_read, fourth_read, fifth_read}

then_some : {A B : Type 0} (v : Option A) (x : A) (f : A → Option B) (y : Option B) → v ≡ Some x → f x ≡ y → and_then v f ≡ y
then_some v x f y e h = ap (λ w. and_then w f) e ∙ h

month_read : (m : Month) → month_in (write_decimal 6 m.number) ≡ Some m
month_read m =
    let h = m.ok.1 in
    let small : m.number < 1000000 = omega arith in
    then_some (numeral 6 (write_decimal 6 m.number)) m.number month_of (Some m) (reads_back 6 m.number (omega arith) small) (month_back m)

day_read : (d : Day) → day_in (write_decimal 8 d.number) ≡ Some d
day_read d =
    let h = d.ok.0.1 in
    let small : d.number < 100000000 = omega arith in
    then_some (numeral 8 (write_decimal 8 d.number)) d.number day_of (Some d) (reads_back 8 d.number (omega arith) small) (day_back d)

time_read : (t : TimeOfDay) → time_in (write_decimal 6 t.number) ≡ Some t
time_read t =
    let h = t.ok.0 in
    let small : t.number < 1000000 = omega arith in
    then_some (numeral 6 (write_decimal 6 t.number)) t.number time_of (Some t) (reads_back 6 t.number (omega arith) small) (time_back t)

tariff_read : (t : Tariff) → tariff_in (write_decimal 7 t.number) ≡ Some t
tariff_read t =
    let h = t.ok in
    let small : t.number < 10000000 = omega arith in
    then_some (numeral 7 (write_decimal 7 t.number)) t.number tariff_of (Some t) (reads_back 7 t.number (omega arith) small) (tariff_back t)

-- a label is named by the bytes of its number
label_read : {V : Type 0} (w : ℕ) (label : List ℕ → Bool) (of : ℕ → Option V) (n : ℕ) (v : V) → nat_lt n (256 ^ w) ≡ true → label (bytes_of w n) ≡ true → of n ≡ Some v → cond (label (bytes_of w n)) (of (big_endian (bytes_of w n))) None ≡ Some v
label_read w label of n v small is back =
    cond-true (label (bytes_of w n)) (of (big_endian (bytes_of w n))) None is
    ∙ ap of (number_places 256 0 w n (omega arith) (ltb-true n (256 ^ w) small))
    ∙ back

point_read : (p : Point) → point_in (bytes_of 10 p.number) ≡ Some p
point_read p =
    let q = and_parts (nat_lt p.number (256 ^ 10)) (is_point (bytes_of 10 p.number)) p.ok in
    label_read 10 is_point point_of p.number p q.0 q.1 (point_back p)

descriptor_read : (d : Descriptor) → descriptor_in (bytes_of 5 d.number) ≡ Some d
descriptor_read d =
    let q = and_parts (nat_lt d.number (256 ^ 5)) (is_descriptor (bytes_of 5 d.number)) d.ok in
    label_read 5 is_descriptor descriptor_of d.number d q.0 q.1 (descriptor_back d)

pub length_traffic : (t : Traffic) → length (traffic_bytes t) ≡ 25
unfolding traffic_bytes
length_traffic t =
    let c = length_places 10 48 12 t.calls in
    let n = length_places 10 48 13 t.tenths in
    length-append (write_decimal 12 t.calls) (write_decimal 13 t.tenths) ∙ omega arith

traffic_read : (t : Traffic) → traffic_in (traffic_bytes t) ≡ Some t
unfolding traffic_bytes
traffic_read t =
    let calls = write_decimal 12 t.calls in
    let tenths = write_decimal 13 t.tenths in
    let c = t.ok.0 in
    let n = t.ok.1 in
    let few : t.calls < 1000000000000 = omega arith in
    let short : t.tenths < 10000000000000 = omega arith in
    then_some (numeral 12 (between 0 12 (calls ++ tenths))) t.calls _ (Some t)
    (ap (numeral 12) (part_at [] calls tenths 0 12 refl (length_places 10 48 12 t.calls)) ∙ reads_back 12 t.calls (omega arith) few)
    (then_some (numeral 13 (between 12 25 (calls ++ tenths))) t.tenths (traffic_of t.calls) (Some t)
    (ap (numeral 13) (part_last calls tenths 12 25 (length_places 10 48 12 t.calls) (length_places 10 48 13 t.tenths)) ∙ reads_back 13 t.tenths (omega arith) short)
    (traffic_back t))

-- the fields of a line
pub line_five : (r : LineRow) → Five (write_decimal 6 r.key.month.number) (bytes_of 10 r.key.point.number) (bytes_of 5 r.key.descriptor.number) (traffic_bytes r.traffic) (write_decimal 7 r.key.tariff.number) 6 16 21 46 53
line_five r = record {
  first = length_places 10 48 6 r.key.month.number;
  second = length_places 256 0 10 r.key.point.number;
  third = length_places 256 0 5 r.key.descriptor.number;
  fourth = length_traffic r.traffic;
  fifth = length_places 10 48 7 r.key.tariff.number;
}

pub day_five : (r : DayRow) → Five (write_decimal 8 r.key.day.number) (bytes_of 10 r.key.point.number) (traffic_bytes r.traffic) (write_decimal 6 r.earliest.number) (write_decimal 6 r.latest.number) 8 18 43 49 55
day_five r = record {
  first = length_places 10 48 8 r.key.day.number;
  second = length_places 256 0 10 r.key.point.number;
  third = length_traffic r.traffic;
  fourth = length_places 10 48 6 r.earliest.number;
  fifth = length_places 10 48 6 r.latest.number;
}

-- rows of another length are none
sized_by : {R : Type 0} (n w : ℕ) (v : Option R) (r : R) → cond (n == w) v None ≡ Some r → n ≡ w
sized_by n w v r e = is (n == w) refl e
  where
    is : (t : Bool) → (n == w) ≡ t → cond t v None ≡ Some r → n ≡ w
    is true h q = eqb-true n w h
    is false h q = absurd (none≢some refl q)

pub line_sized : (cs : List ℕ) (r : LineRow) → line_in cs ≡ Some r → length cs ≡ line_width
unfolding line_in
line_sized cs r e = sized_by (length cs) line_width (line_fields_in cs) r e

pub day_sized : (cs : List ℕ) (r : DayRow) → day_row_in cs ≡ Some r → length cs ≡ day_width
unfolding day_row_in
day_sized cs r e = sized_by (length cs) day_width (day_fields_in cs) r e

pub line_read : (r : LineRow) → line_in (line_bytes r) ≡ Some r
unfolding line_in line_bytes
line_read r =
    let a = write_decimal 6 r.key.month.number in
    let b = bytes_of 10 r.key.point.number in
    let c = bytes_of 5 r.key.descriptor.number in
    let d = traffic_bytes r.traffic in
    let e = write_decimal 7 r.key.tariff.number in
    let all = a ++ (b ++ (c ++ (d ++ e))) in
    let f = line_five r in
    cond-true (length all == line_width) (line_fields_in all) None (eq-eqb (length all) line_width (all_long a b c d e 6 16 21 46 53 f (omega arith) (omega arith) (omega arith) (omega arith)))
    ∙ then_some (month_in (between 0 6 all)) r.key.month _ (Some r) (ap month_in (first_read a b c d e 6 16 21 46 53 f (omega arith) (omega arith) (omega arith) (omega arith)) ∙ month_read r.key.month)
    (then_some (point_in (between 6 16 all)) r.key.point _ (Some r) (ap point_in (second_read a b c d e 6 16 21 46 53 f (omega arith) (omega arith) (omega arith) (omega arith)) ∙ point_read r.key.point)
    (then_some (descriptor_in (between 16 21 all)) r.key.descriptor _ (Some r) (ap descriptor_in (third_read a b c d e 6 16 21 46 53 f (omega arith) (omega arith) (omega arith) (omega arith)) ∙ descriptor_read r.key.descriptor)
    (then_some (traffic_in (between 21 46 all)) r.traffic _ (Some r) (ap traffic_in (fourth_read a b c d e 6 16 21 46 53 f (omega arith) (omega arith) (omega arith) (omega arith)) ∙ traffic_read r.traffic)
    (then_some (tariff_in (between 46 53 all)) r.key.tariff _ (Some r) (ap tariff_in (fifth_read a b c d e 6 16 21 46 53 f (omega arith) (omega arith) (omega arith) (omega arith)) ∙ tariff_read r.key.tariff)
    refl))))

pub day_row_read : (r : DayRow) → day_row_in (day_bytes r) ≡ Some r
unfolding day_row_in day_bytes
day_row_read r =
    let a = write_decimal 8 r.key.day.number in
    let b = bytes_of 10 r.key.point.number in
    let c = traffic_bytes r.traffic in
    let d = write_decimal 6 r.earliest.number in
    let e = write_decimal 6 r.latest.number in
    let all = a ++ (b ++ (c ++ (d ++ e))) in
    let f = day_five r in
    cond-true (length all == day_width) (day_fields_in all) None (eq-eqb (length all) day_width (all_long a b c d e 8 18 43 49 55 f (omega arith) (omega arith) (omega arith) (omega arith)))
    ∙ then_some (day_in (between 0 8 all)) r.key.day _ (Some r) (ap day_in (first_read a b c d e 8 18 43 49 55 f (omega arith) (omega arith) (omega arith) (omega arith)) ∙ day_read r.key.day)
    (then_some (point_in (between 8 18 all)) r.key.point _ (Some r) (ap point_in (second_read a b c d e 8 18 43 49 55 f (omega arith) (omega arith) (omega arith) (omega arith)) ∙ point_read r.key.point)
    (then_some (traffic_in (between 18 43 all)) r.traffic _ (Some r) (ap traffic_in (third_read a b c d e 8 18 43 49 55 f (omega arith) (omega arith) (omega arith) (omega arith)) ∙ traffic_read r.traffic)
    (then_some (time_in (between 43 49 all)) r.earliest _ (Some r) (ap time_in (fourth_read a b c d e 8 18 43 49 55 f (omega arith) (omega arith) (omega arith) (omega arith)) ∙ time_read r.earliest)
    (then_some (time_in (between 49 55 all)) r.latest _ (Some r) (ap time_in (fifth_read a b c d e 8 18 43 49 55 f (omega arith) (omega arith) (omega arith) (omega arith)) ∙ time_read r.latest)
    refl))))
