-- Records taken one after the other, and records of a wrong length.
use Rattle.std.proofs.Common.{◌≡◌, ℕ, cond, eqb, leb, List, [], ◌∷◌, length, Ok, Err, Result, sym, ap, ◌∙◌}
use Rattle.std.proofs.lemmas.Bool.{cond-false, ne_eqb}
use Rattle.cdr.specs.Faults.{charge, charged_to}
use Rattle.cdr.specs.Reader.{read_record}
use Rattle.cdr.specs.declared.call.CallRecord.{CallRecord}
use Rattle.cdr.specs.declared.faults.RecordFault.TheVariants.{Length}
use Rattle.intake.specs.Stream.{TakesAll}
use Rattle.ledger.specs.declared.day.DayKey.{DayKey}
use Rattle.ledger.specs.declared.day.DayRow.{DayRow}
use Rattle.ledger.specs.declared.line.LineKey.{LineKey}
use Rattle.ledger.specs.declared.line.LineRow.{LineRow}
use Rattle.ledger.specs.declared.store.RowStore as RowStore
use Rattle.rating.specs.declared.book.TariffBook as TariffBook
use Rattle.rating.specs.Rating.{Book, book_of, rated_by}
use Rattle.statement.specs.declared.faults.TakeFault.{TakeFault}
use Rattle.statement.specs.declared.faults.TakeFault.TheVariants.{Record, Rating, Store}
use Rattle.statement.specs.declared.posting.Posting.{Posting}
use Rattle.statement.specs.Postings.{posting_of, line_for, day_for}
use Rattle.statement.specs.Account.{Entry, Reaches, Reaches.took, take_noted}
use Rattle.statement.specs.Statement.{Model, model, take_answer, take_after, after_of, onward, placing, with_fault}
use Rattle.settlement.specs.Settling.{take_all, account_all}
use Rattle.settlement.specs.Taking.{sinks}
use Rattle.settlement.specs.declared.taker.Taker.{Taker}

wrong_length : (bs : List ℕ) → (length bs ≡ 129 → ⊥) → read_record bs ≡ Err (charged_to 0 (Length (length bs)))
unfolding read_record
wrong_length bs h = cond-false (eqb (length bs) 129) _ _ (ne_eqb (length bs) 129 h)

-- what a record of a wrong length leaves depends on neither its bytes nor its length
counted_alike : (m : Model) (b : Book) (bs : List ℕ) → (length bs ≡ 129 → ⊥) → take_after m b bs ≡ cond (leb 2000000 m.taken) m (with_fault m (Record (charged_to 0 (Length 0))))
counted_alike m b bs h = ap (λ r. cond (leb 2000000 m.taken) m (after_of m (onward Record r next))) (wrong_length bs h)
  where
    next : CallRecord → Result Posting TakeFault
    next call =
        onward Rating (charge call.sequential (rated_by b m.terms m.reference call)) (λ rated.
        onward Store (charge call.sequential (placing m (line_for (posting_of call rated)) (day_for (posting_of call rated)))) (λ _.
        Ok (posting_of call rated)))

pub lengths_alike : (m : Model) (b : Book) (xs ys : List ℕ) → (length xs ≡ 129 → ⊥) → (length ys ≡ 129 → ⊥) → take_after m b xs ≡ take_after m b ys
lengths_alike m b xs ys p q = counted_alike m b xs p ∙ sym (counted_alike m b ys q)

-- a reached state stays reached, with the account that the takes give
pub reached_all : (b : Book) (m : Model) (a : List Entry) (rs : List (List ℕ)) → Reaches m a → Reaches (take_all b m rs) (account_all b m a rs)
reached_all b m a [] h = h
reached_all b m a (r ∷ rs) h = reached_all b (take_after m b r) (take_noted a b r (take_answer m b r)) rs (took h b r)

module _ {L D B : Type 0} (line_store : RowStore.Ghosts L LineRow LineKey) (day_store : RowStore.Ghosts D DayRow DayKey) (books : TariffBook.Ghosts B) where
  pub taken_all : (s : Taker L D B line_store day_store) (rs : List (List ℕ)) (t : Taker L D B line_store day_store) → TakesAll (sinks line_store day_store books) s rs t → model line_store day_store t.statement ≡ take_all (book_of books s.book) (model line_store day_store s.statement) rs
  taken_all s [] t e = ap (λ x. model line_store day_store x.statement) (sym e)
  taken_all s (r ∷ rs) t h =
      let u = h.0 in
      taken_all u rs t h.2
      ∙ ap (λ k. take_all (book_of books k) (model line_store day_store u.statement) rs) h.1.1
      ∙ ap (λ m. take_all (book_of books s.book) m rs) h.1.0
