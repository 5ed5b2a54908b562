use Rattle.std.proofs.Common.{◌≡◌}
use Rattle.piles.proofs.rows.list_rows.Given as goal

abbrev pub invariant-loop : goal.invariant-loop
invariant-loop g l = l.source ≡ l.initial.source
