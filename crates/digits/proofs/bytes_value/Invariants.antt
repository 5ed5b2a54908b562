use Rattle.std.proofs.Common.{◌≡◌, ◌^◌, ◌<◌, drop}
use Rattle.digits.specs.Positional.{number_after, big_endian}
use Rattle.digits.proofs.bytes_value.Given as goal

abbrev pub invariant-loop-b : goal.invariant-loop-b
invariant-loop-b l = (number_after 256 0 l.n (drop l.b-index l.bytes) ≡ big_endian l.bytes) × (l.n < 256 ^ l.b-index)
