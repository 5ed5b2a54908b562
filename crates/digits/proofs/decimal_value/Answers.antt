use Rattle.std.proofs.Common.{◌-◌, ◌^◌, ◌<◌, get_or, inl, inr, arith}
use Rattle.digits.specs.Positional.{decimal, all_decimal}
use Rattle.digits.proofs.Positional.{below_more, below_fits, read_more, read_all, test_more, test_stops, test_all, reads_some, reads_none}
use Rattle.digits.proofs.decimal_value.Goals as goal
use Rattle.digits.proofs.decimal_value.Goals.{then-b-lt48-via-then-b-lt48, then-b-lt48-via-else-b-lt48+then-b-gt57}

pub returns-then-b-lt48 : goal.returns-then-b-lt48
returns-then-b-lt48 c =
    let bad = test_stops 10 48 c.loop-b.b-index c.args.bytes.now (all_decimal c.args.bytes.now) c.loop-b-test.true c.loop-b.invariant.0 in
    (reads_none c.args.bytes.now
    (elim c.then-b-lt48.branch [
      | then-b-lt48-via-then-b-lt48 w ↦ bad (inl (omega arith))
      | then-b-lt48-via-else-b-lt48+then-b-gt57 w ↦ bad (inr (omega arith))
    ]))

pub overflow_mul-n : goal.overflow_mul-n
overflow_mul-n c = let k : c.loop-b.n < 10 ^ 18 = below_fits 10 c.loop-b.b-index 18 c.loop-b.n (omega arith) (omega arith) c.loop-b.invariant.2 in omega arith

pub overflow_add-n : goal.overflow_add-n
overflow_add-n c = let k : c.loop-b.n < 10 ^ 18 = below_fits 10 c.loop-b.b-index 18 c.loop-b.n (omega arith) (omega arith) c.loop-b.invariant.2 in omega arith

pub loop-b-preserved : goal.loop-b-preserved
loop-b-preserved c =
    let x = get_or c.args.bytes.now c.loop-b.b-index 0 in (
      test_more 10 48 c.loop-b.b-index c.args.bytes.now (all_decimal c.args.bytes.now) (omega arith) c.loop-b.invariant.0 (omega arith) (omega arith),
      read_more 10 48 c.loop-b.n c.loop-b.b-index c.args.bytes.now (decimal c.args.bytes.now) (omega arith) c.loop-b.invariant.1,
      below_more 10 c.loop-b.b-index c.loop-b.n (x - 48) c.loop-b.invariant.2 (omega arith),
    )

pub returns : goal.returns
returns c =
    let i = c.loop-b.b-index in
    let xs = c.args.bytes.now in
    (reads_some xs c.loop-b.n
    (test_all 10 48 i xs (all_decimal xs) c.loop-b-test.false c.loop-b.invariant.0)
    (read_all 10 48 c.loop-b.n i xs (decimal xs) c.loop-b-test.false c.loop-b.invariant.1))
