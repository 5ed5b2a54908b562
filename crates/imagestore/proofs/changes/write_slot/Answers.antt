use Rattle.std.proofs.Common.{ℕ, ◌+◌, ◌*◌, ◌≤◌, length, sym, subst}
use Rattle.images.proofs.Slots.{slot_fits}
use Rattle.imagestore.proofs.BytesChanged.{slot_filled}
use Rattle.imagestore.proofs.ImagePuts.{bytes_long}
use Rattle.imagestore.proofs.changes.write_slot.Goals as goal

pub returns : goal.returns
returns g c =
    let m = g.met.R.ImageRow in
    let fits = subst (λ (w : ℕ). 7 + w * c.args.i + w ≤ length c.args.bytes.now) (sym c.WIDTH-width.ensures) (slot_fits g.R.ImageRow.WIDTH c.args.i c.args.bytes.now c.requires) in
    slot_filled c.WIDTH-width.result g.R.ImageRow.WIDTH c.args.i (g.R.ImageRow.bytes_of c.args.row) c.args.bytes.now c.write_row.new.out _ c.WIDTH-width.ensures
    (bytes_long g.R.Row g.R.ImageRow g.met.R.Row.ordered g.met.R.Row.joins m.sized m.read c.args.row) fits c.write_row.ensures
