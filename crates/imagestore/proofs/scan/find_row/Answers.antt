use Rattle.std.proofs.Common.{Some, None, refl, ◌∙◌}
use Rattle.images.specs.Format.{row_at}
use Rattle.imagestore.specs.Images.{row_count}
use Rattle.imagestore.proofs.ImagePuts.{sound, counted}
use Rattle.imagestore.proofs.RowsCounted.{found_at}
use Rattle.imagestore.proofs.scan.find_row.Goals as goal

pub returns-in-Some : goal.returns-in-Some
returns-in-Some g c = record {
  answer =
      c.row_at.ensures
      ∙ found_at g.R.Row.keys g.met.R.Row.ordered g.R.Row.joined g.met.R.Row.joins (row_at g.R.ImageRow c.args.bytes.now) c.args.key c.rows_in-count.result
      (row_count g.R.ImageRow.WIDTH c.args.bytes.now) (counted g.R.Row g.R.ImageRow g.met.R.Row.ordered g.met.R.Row.joins g.met.R.ImageRow.sized g.met.R.ImageRow.read c.args.bytes.now (sound g.R.Row g.R.ImageRow c.requires)) c.rows_in-count.ensures.value (Some c.in-Some.at) c.in-Some.ensures.value;
  same = refl;
}

pub returns-in-None : goal.returns-in-None
returns-in-None g c = record {
  answer =
      found_at g.R.Row.keys g.met.R.Row.ordered g.R.Row.joined g.met.R.Row.joins (row_at g.R.ImageRow c.args.bytes.now) c.args.key c.rows_in-count.result
      (row_count g.R.ImageRow.WIDTH c.args.bytes.now) (counted g.R.Row g.R.ImageRow g.met.R.Row.ordered g.met.R.Row.joins g.met.R.ImageRow.sized g.met.R.ImageRow.read c.args.bytes.now (sound g.R.Row g.R.ImageRow c.requires)) c.rows_in-count.ensures.value None c.in-None.ensures.value;
  same = refl;
}
