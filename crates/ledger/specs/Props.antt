-- The law of a store is a fact: it holds in at most one way.
use Rattle.std.specs.Prelude.{List, [], ◌∷◌}
use Rattle.std.specs.Ordering.{Ordering-set}
use Rattle.std.proofs.Math.Bridge.{le_prop}
use Rattle.std.proofs.Math.Logic.{∥∥₁_prop, ∥∥₁_elim}
use mathlib.Core.HLevel.{×_prop, Unit-prop}
use Rattle.ledger.specs.Keys.{KeyOps}
use Rattle.ledger.specs.Ledger.{Ledger, AllAbove, Rising, Kept}

AllAbove-prop : {K R : Type 0} (o : KeyOps K R) (k : K) (rows : List R) → IsProp (AllAbove o k rows)
AllAbove-prop o k [] = Unit-prop
AllAbove-prop o k (r ∷ rs) = ×_prop (Ordering-set _ _) (AllAbove-prop o k rs)

pub Rising-prop : {K R : Type 0} (o : KeyOps K R) (rows : List R) → IsProp (Rising o rows)
Rising-prop o [] = Unit-prop
Rising-prop o (r ∷ rs) = ×_prop (AllAbove-prop o (o.key_of r) rs) (Rising-prop o rs)

pub Kept-prop : {K R : Type 0} (o : KeyOps K R) (l : Ledger R) (own : Type 0) → IsProp (Kept o l own)
Kept-prop o l own u v = λ i. record {
  rising = Rising-prop o l.rows u.rising v.rising i;
  within = le_prop u.within v.within i;
  own_kept = ∥∥₁_prop u.own_kept v.own_kept i;
}

-- what a store keeps of its own, where that is a fact
pub own_of : {K R : Type 0} {o : KeyOps K R} {l : Ledger R} {own : Type 0} → IsProp own → Kept o l own → own
own_of prop k = ∥∥₁_elim k.own_kept prop (λ h. h)
