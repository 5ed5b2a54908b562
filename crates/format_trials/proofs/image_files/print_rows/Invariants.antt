use Rattle.std.proofs.Common.{◌≡◌}
use Rattle.format_trials.proofs.image_files.print_rows.Given as goal

abbrev pub invariant-loop : goal.invariant-loop
invariant-loop g l = l.store ≡ l.initial.store
