use Rattle.std.proofs.Common.{◌≡◌, ◌+◌, length, rules, arith}
use Rattle.std.proofs.lemmas.List.{nil_from_length}
use Rattle.digits.proofs.Positional.{places_more, places_none}
use Rattle.digits.proofs.+write_places.Goals as goal

pub returns-in-Some : goal.returns-in-Some
returns-in-Some g t c =
    let l : length c.args.out.now ≡ length c.in-Some.front.now + 1 = search rules in
    rw (c.write_places.ensures, c.from-base.ensures, l, places_more g.row.BASE g.row.ZERO (length c.in-Some.front.now) c.args.n) (search rules)

pub returns-in_default : goal.returns-in_default
returns-in_default g t c =
    let l : length c.args.out.now ≡ 0 = grind (arith, rules) in
    rw (l, places_none g.row.BASE g.row.ZERO c.args.n) (nil_from_length c.args.out.now l)
