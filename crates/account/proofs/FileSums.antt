-- The sums of a statement's lines have no more digits than the total line, so its file reads back.
use Rattle.std.proofs.Common.{◌≡◌, ℕ, ◌+◌, ◌*◌, ◌≤◌, List, [], ◌∷◌, map, length, sum_by, Ordering, Less, Equal, Greater, sym, subst, mul-le-mul, arith}
use Rattle.std.specs.List.{AllByRecursion}
use Rattle.std.proofs.ByRecursion.{All-map, sum_by_le}
use Rattle.std.proofs.lemmas.List.{length-map}
use Rattle.std.proofs.lemmas.List.Sums.{sum_by-cons}
use Rattle.declared.specs.RoundTrips.{FitsDigits}
use Rattle.detraf.specs.Amounts.{net_of}
use Rattle.detraf.specs.File.{detail_lines}
use Rattle.detraf.specs.Layout.{detail_line}
use Rattle.detraf.specs.Sums.{totals_of}
use Rattle.detraf.proofs.AmountLaws.{tax_most}
use Rattle.ledger.specs.Keys.{KeyOps, by_order}
use Rattle.ledger.specs.Ledger.{put_row}
use Rattle.ledger.specs.Rows.{line_keys, join_lines}
use Rattle.ledger.specs.declared.line.LineRow.{LineRow}
use Rattle.merging.specs.Merges.{merge_rows, ledger_of}
use Rattle.statement.specs.Postings.{line_for}
use Rattle.statement.specs.declared.posting.Posting.{Posting}
use Rattle.values.specs.declared.rates.TaxRates.{TaxRates}
use Rattle.values.specs.declared.terms.Terms.{Terms}
use Rattle.account.specs.Settled.{limit}

-- ---- sums over joined rows

-- a figure that joining rows does not raise above both together
module _ {K R : Type 0} (o : KeyOps K R) (join : R → R → R) (f : R → ℕ) (less : (a b : R) → f (join a b) ≤ f a + f b) where
  sum_put : (r : R) (l : List R) → sum_by f (put_row o join r l) ≤ f r + sum_by f l
  sum_put r [] = omega arith
  sum_put r (s ∷ l) = go (o.order (o.key_of s) (o.key_of r)) (sum_put r l)
    where
      go : (x : Ordering) → sum_by f (put_row o join r l) ≤ f r + sum_by f l → sum_by f (by_order x (s ∷ put_row o join r l) (join s r ∷ l) (r ∷ (s ∷ l))) ≤ f r + sum_by f (s ∷ l)
      go Less h = omega (arith, sum_by-cons f s (put_row o join r l), sum_by-cons f s l)
      go Equal h = omega (arith, less s r, sum_by-cons f (join s r) l, sum_by-cons f s l)
      go Greater h = omega (arith, sum_by-cons f r (s ∷ l))

  sum_merge : (l rs : List R) → sum_by f (merge_rows o join l rs) ≤ sum_by f l + sum_by f rs
  sum_merge l [] = omega arith
  sum_merge l (r ∷ rs) = omega (arith, sum_merge (put_row o join r l) rs, sum_put r l, sum_by-cons f r rs)

  -- the rows of a ledger sum to no more than the rows that it was made of
  pub sum_ledger : (rs : List R) → sum_by f (ledger_of o join rs) ≤ sum_by f rs
  sum_ledger rs = omega (arith, sum_merge [] rs)

-- at most so many times another figure of each
sum_times : {X Y : Type 0} (f : Y → ℕ) (g : X → Y) (h : X → ℕ) (k : ℕ) → ((x : X) → f (g x) ≤ k * h x) → (xs : List X) → sum_by f (map g xs) ≤ k * sum_by h xs
sum_times f g h k most [] = omega arith
sum_times f g h k most (x ∷ xs) =
    rw (sum_by-cons f (g x) (map g xs), sum_by-cons h x xs) (omega (arith, most x, sum_times f g h k most xs))

-- ---- the rows of few postings

calls_few : (ps : List Posting) → AllByRecursion (λ p. (line_for p).traffic.calls ≤ 1) ps
calls_few [] = tt
calls_few (p ∷ ps) = (omega arith, calls_few ps)

tenths_few : (ps : List Posting) → AllByRecursion (λ p. (line_for p).traffic.tenths ≤ 600000) ps
tenths_few [] = tt
tenths_few (p ∷ ps) = (let z = p.tenths.few in omega arith, tenths_few ps)

-- a figure of the rows of postings that is bounded for each posting
module _ (f : LineRow → ℕ) (less : (a b : LineRow) → f (join_lines a b) ≤ f a + f b) (k : ℕ) where
  sum_rows : (ps : List Posting) → AllByRecursion (λ p. f (line_for p) ≤ k) ps → sum_by f (ledger_of line_keys join_lines (map line_for ps)) ≤ length ps * k
  sum_rows ps h =
      let made = sum_ledger line_keys join_lines f less (map line_for ps) in
      let each : sum_by f (map line_for ps) ≤ length (map line_for ps) * k = sum_by_le f k (map line_for ps) (All-map (λ r. f r ≤ k) line_for ps h) in
      let all : sum_by f (map line_for ps) ≤ length ps * k = subst (λ n. sum_by f (map line_for ps) ≤ n * k) (length-map ps line_for) each in
      omega arith

sum_calls : (ps : List Posting) → length ps ≤ limit → sum_by (λ r. r.traffic.calls) (ledger_of line_keys join_lines (map line_for ps)) ≤ 2000000
sum_calls ps few = omega (arith, few, sum_rows (λ r. r.traffic.calls) (λ a b. omega arith) 1 ps (calls_few ps))

sum_tenths : (ps : List Posting) → length ps ≤ limit → sum_by (λ r. r.traffic.tenths) (ledger_of line_keys join_lines (map line_for ps)) ≤ 1200000000000
sum_tenths ps few = omega (arith, few, sum_rows (λ r. r.traffic.tenths) (λ a b. omega arith) 600000 ps (tenths_few ps))

-- ---- the figures of a row's line, by its tenths

net_times : (r : LineRow) → net_of r.traffic.tenths r.key.tariff.number ≤ 100 * r.traffic.tenths
net_times r =
    let same : r.traffic.tenths ≤ r.traffic.tenths = omega arith in
    let top : r.traffic.tenths * r.key.tariff.number ≤ r.traffic.tenths * 9999999 = mul-le-mul same r.key.tariff.ok in
    omega arith

module _ (rates : TaxRates) (r : LineRow) where
  pis_times : (detail_line rates r).amounts.pis ≤ 100 * r.traffic.tenths
  pis_times = let both = rates.ok in omega (arith, net_times r, tax_most (net_of r.traffic.tenths r.key.tariff.number) rates.pis (omega arith))

  icms_times : (detail_line rates r).amounts.icms ≤ 100 * r.traffic.tenths
  icms_times = let both = rates.ok in omega (arith, net_times r, tax_most (net_of r.traffic.tenths r.key.tariff.number) rates.icms (omega arith))

  gross_times : (detail_line rates r).amounts.gross ≤ 300 * r.traffic.tenths
  gross_times = omega (arith, net_times r, pis_times, icms_times)

-- ---- the sums of the file

pub sums_fit : (terms : Terms) (rows : List LineRow) (ps : List Posting) → length ps ≤ limit → rows ≡ ledger_of line_keys join_lines (map line_for ps) → FitsDigits (totals_of (detail_lines terms rows))
sums_fit terms rows ps few e =
    let rates = terms.rates in
    let c : sum_by (λ r. r.traffic.calls) rows ≤ 2000000 = subst (λ l. sum_by (λ r. r.traffic.calls) l ≤ 2000000) (sym e) (sum_calls ps few) in
    let t : sum_by (λ r. r.traffic.tenths) rows ≤ 1200000000000 = subst (λ l. sum_by (λ r. r.traffic.tenths) l ≤ 1200000000000) (sym e) (sum_tenths ps few) in
    record {
      calls = omega (arith, c, sum_times (λ l. l.calls) (detail_line rates) (λ r. r.traffic.calls) 1 (λ r. omega arith) rows);
      tenths = omega (arith, t, sum_times (λ l. l.tenths) (detail_line rates) (λ r. r.traffic.tenths) 1 (λ r. omega arith) rows);
      net = omega (arith, t, sum_times (λ l. l.amounts.net) (detail_line rates) (λ r. r.traffic.tenths) 100 net_times rows);
      pis = omega (arith, t, sum_times (λ l. l.amounts.pis) (detail_line rates) (λ r. r.traffic.tenths) 100 (pis_times rates) rows);
      icms = omega (arith, t, sum_times (λ l. l.amounts.icms) (detail_line rates) (λ r. r.traffic.tenths) 100 (icms_times rates) rows);
      gross = omega (arith, t, sum_times (λ l. l.amounts.gross) (detail_line rates) (λ r. r.traffic.tenths) 300 (gross_times rates) rows);
    }
