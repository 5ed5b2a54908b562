use Rattle.std.proofs.Common.{length}
use Rattle.digits.proofs.+write_places.Given as goal

abbrev pub decreases-write_places : goal.decreases-write_places
decreases-write_places g l = length l.out.now
