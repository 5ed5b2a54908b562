use Rattle.images.specs.Written.{places_part}
use Rattle.images.proofs.fields.write_number.Goals as goal

pub returns : goal.returns
returns c = places_part 10 48 c.args.at c.args.width c.args.n c.args.out.now c.write_decimal.new.out c.requires c.write_decimal.ensures.after
