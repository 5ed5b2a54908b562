-- Tenths with equal counts are equal.
use Rattle.std.proofs.Common.{◌≡◌, ◌≤◌}
use native.Mathlib.Bridge.{le_prop}
use Rattle.values.proofs.Backs.{same}
use Rattle.rating.specs.declared.tenths.Tenths.{Tenths}

pub same_tenths : (a b : Tenths) → a.count ≡ b.count → a ≡ b
same_tenths a b e = same (λ n. n ≤ 600000) (λ p. record { count = p.0; few = p.1 }) (λ n. le_prop) (a.count, a.few) (b.count, b.few) e
