use Rattle.imagestore.proofs.ImagePuts.{blank_left}
use Rattle.imagestore.proofs.changes.clear_rows.Goals as goal

pub returns : goal.returns
returns g c =
    let m = g.met.R.ImageRow in
    let left = blank_left g.R.Row g.R.ImageRow g.met.R.Row.ordered g.met.R.Row.joins m.sized m.read c.args.bytes.now c.blank.new.bytes c.requires c.blank.ensures.after in
    record { bytes = c.blank.ensures.after; after = left.after; kept = left.kept }
