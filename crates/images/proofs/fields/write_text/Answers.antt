use Rattle.images.specs.Written.{places_part}
use Rattle.images.proofs.fields.write_text.Goals as goal

pub returns : goal.returns
returns c = places_part 256 0 c.args.at c.args.width c.args.n c.args.out.now c.write_be.new.out c.requires c.write_be.ensures
