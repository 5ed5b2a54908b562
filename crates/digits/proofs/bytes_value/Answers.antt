use Rattle.std.proofs.Common.{◌≡◌, ◌+◌, ◌-◌, ◌*◌, ◌^◌, ◌<◌, get_or, drop, arith}
use Rattle.digits.specs.Positional.{number_after, big_endian}
use Rattle.digits.proofs.Positional.{below_more, below_fits, read_more, read_all}
use Rattle.digits.proofs.bytes_value.Goals as goal

pub overflow_mul-n : goal.overflow_mul-n
overflow_mul-n c = let k : c.loop-b.n < 256 ^ 15 = below_fits 256 c.loop-b.b-index 15 c.loop-b.n (omega arith) (omega arith) c.loop-b.invariant.1 in omega arith

pub overflow_add-n : goal.overflow_add-n
overflow_add-n c = let k : c.loop-b.n < 256 ^ 15 = below_fits 256 c.loop-b.b-index 15 c.loop-b.n (omega arith) (omega arith) c.loop-b.invariant.1 in omega arith

pub loop-b-preserved : goal.loop-b-preserved
loop-b-preserved c =
    let x = get_or c.args.bytes.now c.loop-b.b-index 0 in
    let e : x - 0 ≡ x = omega arith in
    let s : number_after 256 0 (c.loop-b.n * 256 + (x - 0)) (drop (c.loop-b.b-index + 1) c.args.bytes.now) ≡ big_endian c.args.bytes.now =
    read_more 256 0 c.loop-b.n c.loop-b.b-index c.args.bytes.now (big_endian c.args.bytes.now) (omega arith) c.loop-b.invariant.0 in
    (rw e at s, below_more 256 c.loop-b.b-index c.loop-b.n x c.loop-b.invariant.1 (omega arith))

pub returns : goal.returns
returns c = read_all 256 0 c.loop-b.n c.loop-b.b-index c.args.bytes.now (big_endian c.args.bytes.now) (omega arith) c.loop-b.invariant.0
