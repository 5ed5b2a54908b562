-- The account of a statement, which only definitions keep: the records taken, each with the book handed and the answer
-- given; and the states that takes and joins bring a new statement into.
use Rattle.std.specs.Prelude.{ℕ, List, [], ◌∷◌, ◌++◌, Ok, Err, Result}
use Rattle.rating.specs.Rating.{Book}
use Rattle.values.specs.declared.calendar.Month.{Month}
use Rattle.values.specs.declared.terms.Terms.{Terms}
use Rattle.statement.specs.declared.faults.TakeFault.{TakeFault}
use Rattle.statement.specs.declared.faults.TakeFault.TheVariants.{Spent, Record, Rating, Store}
use Rattle.statement.specs.declared.joining.JoinFault.{JoinFault}
use Rattle.statement.specs.declared.posting.Booked.{Booked}
use Rattle.statement.specs.Joining.{join_answer, receiver_after, giver_after}
use Rattle.statement.specs.Statement.{Model, opened, take_answer, take_after}

pub record Entry : Type 0 where
  pub book : Book
  pub bytes : List ℕ
  pub answer : Result Booked TakeFault

abbrev pub entered : List Entry → Book → List ℕ → Result Booked TakeFault → List Entry
entered a b r x = a ++ (record { book = b; bytes = r; answer = x } ∷ [])

-- a take adds its record, unless no more is taken
abbrev pub take_noted : List Entry → Book → List ℕ → Result Booked TakeFault → List Entry
take_noted a b r (Ok x) = entered a b r (Ok x)
take_noted a b r (Err Spent) = a
take_noted a b r (Err (Record c)) = entered a b r (Err (Record c))
take_noted a b r (Err (Rating c)) = entered a b r (Err (Rating c))
take_noted a b r (Err (Store c)) = entered a b r (Err (Store c))

-- an accepted join appends the giver's account to the receiver's, and leaves the giver's empty
abbrev pub receiver_noted : List Entry → List Entry → Result (Unit {0}) JoinFault → List Entry
receiver_noted a c (Ok x) = a ++ c
receiver_noted a c (Err f) = a

abbrev pub giver_noted : List Entry → Result (Unit {0}) JoinFault → List Entry
giver_noted c (Ok x) = []
giver_noted c (Err f) = c

-- Opened, and from there by takes of any records with any books and by joins, as receiver or giver, with any other
-- statement so reached, whatever the answers.
pub data Reaches : Model → List Entry → Type 0 where
  opening : (t : Terms) (reference : Month) (most_lines most_days : ℕ) → Reaches (opened t reference most_lines most_days) []
  took : {m : Model} {a : List Entry} → Reaches m a → (b : Book) (r : List ℕ) → Reaches (take_after m b r) (take_noted a b r (take_answer m b r))
  received : {m g : Model} {a c : List Entry} → Reaches m a → Reaches g c → Reaches (receiver_after m g (join_answer m g)) (receiver_noted a c (join_answer m g))
  gave : {m g : Model} {a c : List Entry} → Reaches m a → Reaches g c → Reaches (giver_after g (join_answer m g)) (giver_noted c (join_answer m g))
