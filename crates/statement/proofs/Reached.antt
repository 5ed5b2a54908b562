-- A step from a reached state leads to a reached state.
use Rattle.std.proofs.Common.{◌≡◌, ℕ, List, [], Result, sym, subst}
use Rattle.rating.specs.Rating.{Book}
use Rattle.values.specs.declared.calendar.Month.{Month}
use Rattle.values.specs.declared.terms.Terms.{Terms}
use Rattle.statement.specs.declared.faults.TakeFault.{TakeFault}
use Rattle.statement.specs.declared.joining.JoinFault.{JoinFault}
use Rattle.statement.specs.declared.posting.Booked.{Booked}
use Rattle.statement.specs.Account.{Entry, Reaches, Reaches.opening, Reaches.took, Reaches.received, Reaches.gave, take_noted, receiver_noted, giver_noted}
use Rattle.statement.specs.Joining.{join_answer, receiver_after, giver_after}
use Rattle.statement.specs.Statement.{Model, opened, take_answer, take_after}

pub reached_opening : (n : Model) (t : Terms) (reference : Month) (lines days : ℕ) → n ≡ opened t reference lines days → Reaches n []
reached_opening n t reference lines days e = subst (λ x. Reaches x []) (sym e) (opening t reference lines days)

pub reached_take : (m n : Model) (b : Book) (r : List ℕ) (x : Result Booked TakeFault) → x ≡ take_answer m b r → n ≡ take_after m b r → (a : List Entry) → Reaches m a → Reaches n (take_noted a b r x)
reached_take m n b r x e f a h = subst (λ y. Reaches n (take_noted a b r y)) (sym e) (subst (λ y. Reaches y (take_noted a b r (take_answer m b r))) (sym f) (took h b r))

-- both sides of a join
pub reached_join : (m g n o : Model) (x : Result (Unit {0}) JoinFault) → x ≡ join_answer m g → n ≡ receiver_after m g x → o ≡ giver_after g x → (a c : List Entry) → Reaches m a → Reaches g c → Reaches n (receiver_noted a c x) × Reaches o (giver_noted c x)
reached_join m g n o x e f k a c h i = (
  subst (λ y. Reaches y (receiver_noted a c x)) (sym f) (subst (λ y. Reaches (receiver_after m g y) (receiver_noted a c y)) (sym e) (received h i)),
  subst (λ y. Reaches y (giver_noted c x)) (sym k) (subst (λ y. Reaches (giver_after g y) (giver_noted c y)) (sym e) (gave h i)),
)
