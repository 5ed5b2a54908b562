use Rattle.images.proofs.Slots.{no_count}
use Rattle.images.proofs.format.count_rows.Goals as goal

pub returns-then-bytes-lt-COUNT_WIDTH : goal.returns-then-bytes-lt-COUNT_WIDTH
returns-then-bytes-lt-COUNT_WIDTH g c = no_count g.R.ImageRow.WIDTH c.args.bytes.now c.if-bytes-lt-COUNT_WIDTH.true
