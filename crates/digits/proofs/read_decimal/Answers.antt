use Rattle.std.proofs.Common.{◌≡◌, rules}
use Rattle.digits.specs.Positional.{numeral}
use Rattle.digits.proofs.Positional.{writes_back, numeral_fits}
use Rattle.digits.proofs.read_decimal.Goals as goal

pub returns-then-bytes-width : goal.returns-then-bytes-width
returns-then-bytes-width c = record { value = search rules; fits = tt; back = writes_back }

pub returns : goal.returns
returns c =
    let v : c.decimal_value.result ≡ numeral c.args.width c.args.bytes.now = search rules in
    record { value = v; fits = numeral_fits c.args.width c.args.bytes.now c.decimal_value.result v; back = writes_back }
