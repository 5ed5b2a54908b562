use Rattle.std.proofs.Common.{◌≡◌, length}
use Rattle.declared.specs.Details.{details_left}
use Rattle.declared.proofs.details.DetailsIterator.next.Given as goal

-- what was passed over is no detail line
abbrev pub invariant-loop-first : goal.invariant-loop-first
invariant-loop-first l = details_left l.self ≡ details_left l.initial.self

abbrev pub decreases-loop-first : goal.decreases-loop-first
decreases-loop-first l = length l.self.rest.now
