use Rattle.std.proofs.Common.{◌≡◌}
use Rattle.contest_trials.proofs.show_months.Given as goal

abbrev pub invariant-loop-back : goal.invariant-loop-back
invariant-loop-back g l = l.statement ≡ l.initial.statement
