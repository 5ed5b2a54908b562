use Rattle.std.proofs.Common.{rules}
use Rattle.digits.proofs.Positional.{keeps_order}
use Rattle.digits.proofs.read_be.Goals as goal

pub returns-then-bytes-gt-MOST_BYTES : goal.returns-then-bytes-gt-MOST_BYTES
returns-then-bytes-gt-MOST_BYTES c = record { value = search rules; order = keeps_order }

pub returns : goal.returns
returns c = record { value = search rules; order = keeps_order }
