use Rattle.std.proofs.Common.{◌≡◌, ◌^◌, ◌<◌, drop}
use Rattle.digits.specs.Positional.{number_after, decimal, all_decimal}
use Rattle.digits.proofs.decimal_value.Given as goal

abbrev pub invariant-loop-b : goal.invariant-loop-b
invariant-loop-b l =
    (all_decimal (drop l.b-index l.bytes) ≡ all_decimal l.bytes)
    × (number_after 10 48 l.n (drop l.b-index l.bytes) ≡ decimal l.bytes)
    × (l.n < 10 ^ l.b-index)
