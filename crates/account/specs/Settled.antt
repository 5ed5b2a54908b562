-- What holds of every statement that takes and joins bring about, whatever their order, their dealing, the stores and
-- the books.
use Rattle.std.specs.Prelude.{◌≡◌, ℕ, ◌+◌, ◌-◌, ◌*◌, ◌<◌, ◌≤◌, true, false, ◌⊎◌, List, ◌++◌, map, length, take, drop, Some, Ok, Err, count_by, Result, ◌≢◌}
use Rattle.std.specs.List.{slice_get, ContainsAt as Has, AllByRecursion}
use Rattle.std.specs.List.Sorted.{IsPermutation}
use Rattle.cdr.specs.Faults.{charge, charged_to}
use Rattle.cdr.specs.Reader.{read_record}
use Rattle.cdr.specs.declared.call.CallRecord.{CallRecord}
use Rattle.declared.specs.File.{read_file}
use Rattle.declared.specs.RoundTrips.{statement_file}
use Rattle.detraf.specs.Columns.{columns}
use Rattle.detraf.specs.File.{file_of}
use Rattle.digits.specs.Positional.{write_decimal}
use Rattle.ledger.specs.Keys.{KeyOps}
use Rattle.ledger.specs.Ledger.{Rising}
use Rattle.ledger.specs.Rows.{line_keys, day_keys}
use Rattle.ledger.specs.declared.day.DayKey.{DayKey}
use Rattle.ledger.specs.declared.day.DayRow.{DayRow}
use Rattle.ledger.specs.declared.line.LineKey.{LineKey}
use Rattle.ledger.specs.declared.line.LineRow.{LineRow}
use Rattle.merging.specs.Merges.{is_among, distinct, HasRow}
use Rattle.rating.specs.Rating.{Book, rated_by}
use Rattle.statement.specs.Account.{Entry, Reaches}
use Rattle.statement.specs.Board.{tally_at}
use Rattle.statement.specs.Joining.{join_answer}
use Rattle.statement.specs.Postings.{posting_of, booked_of}
use Rattle.statement.specs.Statement.{Model, onward, answer_of, take_answer}
use Rattle.statement.specs.declared.faults.StoreFault.TheVariants.{LinesFull, DaysFull}
use Rattle.statement.specs.declared.faults.TakeFault.{TakeFault}
use Rattle.statement.specs.declared.faults.TakeFault.TheVariants.{Spent, Record, Rating, Store}
use Rattle.statement.specs.declared.joining.JoinFault.{JoinFault}
use Rattle.statement.specs.declared.joining.JoinFault.TheVariants.{Unlike, TooMany, Lines, Days}
use Rattle.statement.specs.declared.posting.Booked.{Booked}
use Rattle.statement.specs.declared.posting.Posting.{Posting}
use Rattle.values.specs.declared.calendar.Month.{Month}
use Rattle.values.specs.declared.terms.Terms.{Terms}
use Rattle.account.specs.Postings.{postings, line_of, day_of, in_line, in_day, tenths_of, worth, starts, is_booked, is_refused, refused_with, sequentials}

-- the most records of an account
abbrev pub limit : ℕ
limit = 2000000

-- what the reader and rating say of a record, before any store is asked
abbrev pub judged : Terms → Month → Book → List ℕ → Result Posting TakeFault
judged t reference b r =
    onward Record (read_record r) (λ call.
    onward Rating (charge call.sequential (rated_by b t reference call)) (λ rated.
    Ok (posting_of call rated)))

-- the sequential that a sound record shows
abbrev pub ChargedTo : List ℕ → ℕ → Type 0
ChargedTo r s = (call : CallRecord) × (read_record r ≡ Ok call) × (s ≡ call.sequential)

-- the reader and rating find nothing against the record, and a full store refused it
abbrev pub RefusedForSpace : Terms → Month → Entry → Type 0
RefusedForSpace t reference e =
    (p : Posting) × (judged t reference e.book e.bytes ≡ Ok p)
    × (s : ℕ) × ChargedTo e.bytes s × ((e.answer ≡ Err (Store (charged_to s LinesFull))) ⊎ (e.answer ≡ Err (Store (charged_to s DaysFull))))

-- a record is answered what the reader and rating say of it with its book, or refused for space
abbrev pub Fair : Terms → Month → Entry → Type 0
Fair t reference e = (e.answer ≡ answer_of (judged t reference e.book e.bytes)) ⊎ RefusedForSpace t reference e

-- the keys of what is booked
abbrev pub lines : List Entry → List LineKey
lines a = map line_of (postings a)

abbrev pub days : List Entry → List DayKey
days a = map day_of (postings a)

-- a key is there already, or its store has a free row
abbrev pub HasRoom : {K R : Type 0} → KeyOps K R → K → List K → ℕ → Type 0
HasRoom o k ks most = (is_among o k ks ≡ true) ⊎ (distinct o ks < most)

abbrev pub NoRoom : {K R : Type 0} → KeyOps K R → K → List K → ℕ → Type 0
NoRoom o k ks most = (is_among o k ks ≡ false) × (most ≤ distinct o ks)

-- What a take of record r with book b answers, by how many records the account has and which keys are booked.
pub data TakeRight (m : Model) (a : List Entry) (b : Book) (r : List ℕ) : Result Booked TakeFault → Type 0 where
  spent : limit ≤ length a → TakeRight m a b r (Err Spent)
  faulty : {f : TakeFault} → length a < limit → judged m.terms m.reference b r ≡ Err f → TakeRight m a b r (Err f)
  line_full : {p : Posting} {s : ℕ} → length a < limit → judged m.terms m.reference b r ≡ Ok p → ChargedTo r s
      → NoRoom line_keys (line_of p) (lines a) m.lines.most
      → TakeRight m a b r (Err (Store (charged_to s LinesFull)))
  day_full : {p : Posting} {s : ℕ} → length a < limit → judged m.terms m.reference b r ≡ Ok p → ChargedTo r s
      → HasRoom line_keys (line_of p) (lines a) m.lines.most → NoRoom day_keys (day_of p) (days a) m.days.most
      → TakeRight m a b r (Err (Store (charged_to s DaysFull)))
  books : {p : Posting} → length a < limit → judged m.terms m.reference b r ≡ Ok p
      → HasRoom line_keys (line_of p) (lines a) m.lines.most → HasRoom day_keys (day_of p) (days a) m.days.most
      → TakeRight m a b r (Ok (booked_of p))

-- What a join of a giver g answers.
pub data JoinRight (m : Model) (a : List Entry) (g : Model) (c : List Entry) : Result (Unit {0}) JoinFault → Type 0 where
  unlike : (m.terms ≡ g.terms → m.reference ≢ g.reference) → JoinRight m a g c (Err Unlike)
  too_many : m.terms ≡ g.terms → m.reference ≡ g.reference → limit < length a + length c → JoinRight m a g c (Err TooMany)
  lines_full : m.terms ≡ g.terms → m.reference ≡ g.reference → length a + length c ≤ limit
      → m.lines.most < distinct line_keys (lines (a ++ c)) → JoinRight m a g c (Err Lines)
  days_full : m.terms ≡ g.terms → m.reference ≡ g.reference → length a + length c ≤ limit
      → distinct line_keys (lines (a ++ c)) ≤ m.lines.most → m.days.most < distinct day_keys (days (a ++ c)) → JoinRight m a g c (Err Days)
  joins : m.terms ≡ g.terms → m.reference ≡ g.reference → length a + length c ≤ limit
      → distinct line_keys (lines (a ++ c)) ≤ m.lines.most → distinct day_keys (days (a ++ c)) ≤ m.days.most → JoinRight m a g c (Ok tt)

-- the least and the greatest of some numbers, and the least that is not 0, which stands for none
abbrev pub Least : ℕ → List ℕ → Type 0
Least n xs = Has xs n × AllByRecursion (λ x. n ≤ x) xs

abbrev pub Greatest : ℕ → List ℕ → Type 0
Greatest n xs = Has xs n × AllByRecursion (λ x. x ≤ n) xs

abbrev pub LeastMet : ℕ → List ℕ → Type 0
LeastMet q xs = ((q ≡ 0) × AllByRecursion (λ x. x ≡ 0) xs) ⊎ ((0 < q) × Has xs q × AllByRecursion (λ x. (x ≡ 0) ⊎ (q ≤ x)) xs)

-- a line holds exactly its records' calls and tenths, and there is one at least
pub record LineRight (ps : List Posting) (row : LineRow) : Type 0 where
  pub used : 0 < length (in_line row.key ps)
  pub calls : row.traffic.calls ≡ length (in_line row.key ps)
  pub tenths : row.traffic.tenths ≡ tenths_of (in_line row.key ps)

-- a day also their earliest and latest start
pub record DayRight (ps : List Posting) (row : DayRow) : Type 0 where
  pub used : 0 < length (in_day row.key ps)
  pub calls : row.traffic.calls ≡ length (in_day row.key ps)
  pub tenths : row.traffic.tenths ≡ tenths_of (in_day row.key ps)
  pub earliest : Least row.earliest.number (starts (in_day row.key ps))
  pub latest : Greatest row.latest.number (starts (in_day row.key ps))

-- The statement holds exactly what its account says.
pub record Right (m : Model) (a : List Entry) : Type 0 where
  -- keys rise, so a key has one row only
  pub line_order : Rising line_keys m.lines.rows
  pub line_each : AllByRecursion (λ p. HasRow line_keys m.lines.rows (line_of p)) (postings a)
  pub line_right : AllByRecursion (LineRight (postings a)) m.lines.rows
  pub day_order : Rising day_keys m.days.rows
  pub day_each : AllByRecursion (λ p. HasRow day_keys m.days.rows (day_of p)) (postings a)
  pub day_right : AllByRecursion (DayRight (postings a)) m.days.rows
  -- every booked record brings one posting, of the key, the day and the tenths that it was answered
  pub booked : length (postings a) ≡ count_by (λ e. is_booked e.answer) a
  -- every record taken is booked, or refused with a number from 2 to 13
  pub taken : m.taken ≡ length a
  pub each : length a ≡ count_by (λ e. is_booked e.answer) a + count_by (λ e. is_refused e.answer) a
  pub counts : (n : ℕ) → 2 ≤ n → n ≤ 13 → (tally_at m.board (n - 2)).count ≡ count_by (λ e. refused_with n e.answer) a
  pub leasts : (n : ℕ) → 2 ≤ n → n ≤ 13 → LeastMet (tally_at m.board (n - 2)).least (sequentials n a)

-- no refusal for space
abbrev pub NotForSpace : Entry → Type 0
NotForSpace e = (refused_with 12 e.answer ≡ false) × (refused_with 13 e.answer ≡ false)

-- the same of both
pub record Equal (m : Model) (a : List Entry) (g : Model) (c : List Entry) : Type 0 where
  pub answers : IsPermutation a c
  pub file : file_of m.terms m.reference m.lines.rows ≡ file_of g.terms g.reference g.lines.rows
  pub lines : m.lines.rows ≡ g.lines.rows
  pub days : m.days.rows ≡ g.days.rows
  pub refusals : (n : ℕ) → 2 ≤ n → n ≤ 13 → tally_at m.board (n - 2) ≡ tally_at g.board (n - 2)

-- line i of a file, from 0
abbrev pub line_at : ℕ → List ℕ → List ℕ
line_at i file = take 129 (drop (i * 129) file)

-- a net in cents is the exact worth less 0 to 99,999 ten-millionths of a real
abbrev pub FallsShort : ℕ → List Posting → Type 0
FallsShort net ps = (short : ℕ) × (short ≤ 99999) × (worth ps ≡ net * 100000 + short)

-- The net columns of line i of the file show a net of fifteen digits that falls short so.
abbrev pub NetRight : Model → List Entry → ℕ → LineRow → Type 0
NetRight m a i row = (net : ℕ) × (net < 1000000000000000) × (columns 69 83 (line_at i (file_of m.terms m.reference m.lines.rows)) ≡ write_decimal 15 net) × FallsShort net (in_line row.key (postings a))

-- For every state that takes and joins lead to, over whatever stores and books.
pub record Settled : Type 0 where
  pub right : (m : Model) (a : List Entry) → Reaches m a → Right m a
  pub takes : (m : Model) (a : List Entry) → Reaches m a → (b : Book) (r : List ℕ) → TakeRight m a b r (take_answer m b r)
  pub joins : (m g : Model) (a c : List Entry) → Reaches m a → Reaches g c → JoinRight m a g c (join_answer m g)
  pub equal : (m g : Model) (a c : List Entry) → Reaches m a → Reaches g c
      → m.terms ≡ g.terms → m.reference ≡ g.reference → (b : Book) → AllByRecursion (λ e. e.book ≡ b) a → AllByRecursion (λ e. e.book ≡ b) c
      → IsPermutation (map (λ e. e.bytes) a) (map (λ e. e.bytes) c) → AllByRecursion NotForSpace a → AllByRecursion NotForSpace c → Equal m a g c
  -- every record of the account was answered what the reader and rating say of it, or refused for space
  pub fair : (m : Model) (a : List Entry) → Reaches m a → AllByRecursion (Fair m.terms m.reference) a
  pub net : (m : Model) (a : List Entry) → Reaches m a → (i : ℕ) (row : LineRow) → slice_get m.lines.rows i ≡ Some row → NetRight m a i row
  -- the reader accepts the written file, and gives the statement's lines and their total
  pub reads : (m : Model) (a : List Entry) → Reaches m a
      → read_file (file_of m.terms m.reference m.lines.rows) ≡ Ok (statement_file m.terms m.reference m.lines.rows)
