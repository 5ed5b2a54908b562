-- What a take comes to, step by step.
use Rattle.std.proofs.Common.{◌≡◌, ℕ, ◌<◌, ◌≤◌, Bool, true, false, ◌&&◌, List, Ok, Err, Result, sym, refl, ap, ◌∙◌, arith}
use Rattle.std.proofs.lemmas.Bool.{cond-true, cond-false, lt-leb, and_right}
use Rattle.cdr.specs.Faults.{charge, record_number}
use Rattle.cdr.specs.Reader.{read_record}
use Rattle.cdr.specs.declared.call.CallRecord.{CallRecord}
use Rattle.cdr.specs.declared.faults.Charged.{Charged}
use Rattle.cdr.specs.declared.faults.RecordFault.{RecordFault}
use Rattle.cdr.specs.declared.faults.RecordFault.TheVariants.{Length, Malformed, Category, Selection, Sliced, Cause}
use Rattle.ledger.specs.Ledger.{Ledger, takes, placed}
use Rattle.ledger.specs.Rows.{line_keys, day_keys}
use Rattle.ledger.specs.declared.day.DayRow.{DayRow}
use Rattle.ledger.specs.declared.line.LineRow.{LineRow}
use Rattle.ledger.specs.declared.store.Full.{Full}
use Rattle.rating.specs.Faults.{rating_number}
use Rattle.rating.specs.Rating.{Book, rated_by}
use Rattle.rating.specs.declared.faults.RatingFault.{RatingFault}
use Rattle.rating.specs.declared.faults.RatingFault.TheVariants.{Month, NoScenario, TooShort, NoTariff}
use Rattle.rating.specs.declared.tenths.Rated.{Rated}
use Rattle.statement.specs.declared.faults.StoreFault.{StoreFault}
use Rattle.statement.specs.declared.faults.StoreFault.TheVariants.{LinesFull, DaysFull}
use Rattle.statement.specs.declared.faults.TakeFault.{TakeFault}
use Rattle.statement.specs.declared.faults.TakeFault.TheVariants.{Record, Rating, Store}
use Rattle.statement.specs.declared.posting.Posting.{Posting}
use Rattle.statement.specs.Faults.{store_number, take_number}
use Rattle.statement.specs.Postings.{posting_of, line_for, day_for, booked_of}
use Rattle.statement.specs.Statement.{Model, fitted, placing, with_rows, after_placing, counted, with_fault, onward, verdict, take_answer, take_after}

err≢ok : {T E : Type 0} {r : Result T E} {x : T} {e : E} → r ≡ Err e → r ≡ Ok x → ⊥
err≢ok p q = let z : ◌≡◌ {A = ℕ} 0 1 = cc in omega arith

-- what the answer to a put says of the room
pub placed_yes : {R : Type 0} (r : R) (b : Bool) → Ok tt ≡ placed r b → b ≡ true
placed_yes r true e = refl
placed_yes r false e = absurd (err≢ok refl (sym e))

pub placed_no : {R : Type 0} (r : R) (b : Bool) (f : Full R) → Err f ≡ placed r b → b ≡ false
placed_no r true f e = absurd (err≢ok (sym e) refl)
placed_no r false f e = refl

-- a line that fits and a day that does not
pub day_full : (m : Model) (l : LineRow) (d : DayRow) → takes line_keys l m.lines ≡ true → takes day_keys d m.days ≡ false → (placing m l d ≡ Err DaysFull) × (after_placing m l d ≡ m)
day_full m l d p q = (
  ap (λ x. fitted x (takes day_keys d m.days)) p ∙ ap (fitted true) q,
  cond-false (takes line_keys l m.lines && takes day_keys d m.days) (with_rows m l d) m (and_right (takes line_keys l m.lines) (takes day_keys d m.days) q),
)

fitted_yes : (a b : Bool) → fitted a b ≡ Ok tt → (a && b) ≡ true
fitted_yes true true e = refl
fitted_yes true false e = absurd (err≢ok refl e)
fitted_yes false b e = absurd (err≢ok refl e)

-- a call that is put is put into both
pub both_put : (m : Model) (l : LineRow) (d : DayRow) → placing m l d ≡ Ok tt → after_placing m l d ≡ with_rows m l d
both_put m l d e =
    cond-true (takes line_keys l m.lines && takes day_keys d m.days) (with_rows m l d) m (fitted_yes (takes line_keys l m.lines) (takes day_keys d m.days) e)

fitted_no : (a b : Bool) (f : StoreFault) → fitted a b ≡ Err f → (a && b) ≡ false
fitted_no true true f e = absurd (err≢ok e refl)
fitted_no true false f e = refl
fitted_no false b f e = refl

pub none_put : (m : Model) (l : LineRow) (d : DayRow) (f : StoreFault) → placing m l d ≡ Err f → after_placing m l d ≡ m
none_put m l d f e =
    cond-false (takes line_keys l m.lines && takes day_keys d m.days) (with_rows m l d) m (fitted_no (takes line_keys l m.lines) (takes day_keys d m.days) f e)

-- a model with the ledgers that it had
pub same_ledgers : (m : Model) (l : Ledger LineRow) (d : Ledger DayRow) → l ≡ m.lines → d ≡ m.days → ◌≡◌ {A = Model} (record { terms = m.terms; reference = m.reference; lines = l; days = d; taken = m.taken; board = m.board }) m
same_ledgers m l d e f = λ i. record { terms = m.terms; reference = m.reference; lines = e i; days = f i; taken = m.taken; board = m.board }

-- a charged result was the result
pub charged_ok : {T F : Type 0} (s : ℕ) (r : Result T F) (x : T) → Ok x ≡ charge s r → r ≡ Ok x
charged_ok s (Ok y) x e = let z : y ≡ x = cc in ap Ok z
charged_ok s (Err f) x e = absurd (err≢ok refl (sym e))

pub charged_err : {T F : Type 0} (s : ℕ) (r : Result T F) (c : Charged F) → Err c ≡ charge s r → r ≡ Err c.fault
charged_err s (Ok y) c e = absurd (err≢ok (sym e) refl)
charged_err s (Err f) c e = ap Err (ap (λ x. x.fault) (sym (err_is e)))
  where
    err_is : {T E : Type 0} {a b : E} → ◌≡◌ {A = Result T E} (Err a) (Err b) → a ≡ b
    err_is q = cc

-- a record read and rated is left to the stores
pub verdict_rated : (m : Model) (b : Book) (bytes : List ℕ) (call : CallRecord) (rated : Rated) → Ok call ≡ read_record bytes → Ok rated ≡ charge call.sequential (rated_by b m.terms m.reference call) → verdict m b bytes ≡ onward Store (charge call.sequential (placing m (line_for (posting_of call rated)) (day_for (posting_of call rated)))) (λ _. Ok (posting_of call rated))
verdict_rated m b bytes call rated e f =
    ap (λ r. onward Record r next) (sym e) ∙ ap (λ r. onward Rating r (last call)) (sym f)
  where
    last : CallRecord → Rated → Result Posting TakeFault
    last c r = onward Store (charge c.sequential (placing m (line_for (posting_of c r)) (day_for (posting_of c r)))) (λ _. Ok (posting_of c r))

    next : CallRecord → Result Posting TakeFault
    next c = onward Rating (charge c.sequential (rated_by b m.terms m.reference c)) (last c)

-- a counted fault has a number from 2 on
record_counted : (f : RecordFault) → 2 ≤ record_number f
record_counted (Length n) = omega arith
record_counted (Malformed f c) = omega arith
record_counted Category = omega arith
record_counted Selection = omega arith
record_counted Sliced = omega arith
record_counted Cause = omega arith

rating_counted : (f : RatingFault) → 2 ≤ rating_number f
rating_counted Month = omega arith
rating_counted NoScenario = omega arith
rating_counted TooShort = omega arith
rating_counted NoTariff = omega arith

store_counted : (f : StoreFault) → 2 ≤ store_number f
store_counted LinesFull = omega arith
store_counted DaysFull = omega arith

err_of : {T E : Type 0} {a b : E} → ◌≡◌ {A = Result T E} (Err a) (Err b) → a ≡ b
err_of q = cc

onward_counted : {T U F : Type 0} (fault : F → TakeFault) (r : Result T F) (next : T → Result U TakeFault) → ((f : F) → 2 ≤ take_number (fault f)) → ((x : T) (g : TakeFault) → next x ≡ Err g → 2 ≤ take_number g) → (g : TakeFault) → onward fault r next ≡ Err g → 2 ≤ take_number g
onward_counted fault (Ok x) next low rest g e = rest x g e
onward_counted fault (Err f) next low rest g e = rw (err_of e) at (low f)

pub verdict_counted : (m : Model) (b : Book) (bytes : List ℕ) (g : TakeFault) → verdict m b bytes ≡ Err g → 2 ≤ take_number g
verdict_counted m b bytes g e =
    onward_counted Record (read_record bytes) _ (λ c. record_counted c.fault)
    (λ call. onward_counted Rating (charge call.sequential (rated_by b m.terms m.reference call)) _ (λ c. rating_counted c.fault)
    (λ rated. onward_counted Store (charge call.sequential (placing m (line_for (posting_of call rated)) (day_for (posting_of call rated)))) _ (λ c. store_counted c.fault)
    (λ x h q. absurd (err≢ok q refl)))) g e

-- a take while more may be taken
pub take_booked : (m : Model) (b : Book) (bytes : List ℕ) (p : Posting) → m.taken < 2000000 → Ok p ≡ verdict m b bytes → (take_answer m b bytes ≡ Ok (booked_of p)) × (take_after m b bytes ≡ counted (with_rows m (line_for p) (day_for p)))
take_booked m b bytes p h e =
    let more = lt-leb 2000000 m.taken h in
    (rw (more, ← e), rw (more, ← e))

pub take_refused : (m : Model) (b : Book) (bytes : List ℕ) (f : TakeFault) → m.taken < 2000000 → Err f ≡ verdict m b bytes → (take_answer m b bytes ≡ Err f) × (take_after m b bytes ≡ with_fault m f)
take_refused m b bytes f h e =
    let more = lt-leb 2000000 m.taken h in
    (rw (more, ← e), rw (more, ← e))
