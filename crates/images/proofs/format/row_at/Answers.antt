use Rattle.std.proofs.Common.{ℕ, ◌+◌, ◌*◌, ◌≤◌, length, sym, ap, ◌∙◌, subst, arith}
use Rattle.images.specs.Format.{slot_at}
use Rattle.images.proofs.Slots.{no_slot, slot_fits}
use Rattle.images.proofs.format.row_at.Goals as goal

pub returns-then-i-whole_rows : goal.returns-then-i-whole_rows
returns-then-i-whole_rows g c =
    no_slot g.R.ImageRow.WIDTH c.args.i c.args.bytes.now g.R.ImageRow.row_in g.met.R.ImageRow.wide g.met.R.ImageRow.sized (let h = c.if-i-whole_rows.true in let e = c.whole_rows.ensures in omega arith)

pub slot-requires : goal.slot-requires
slot-requires g c =
    let h = c.if-i-whole_rows.false in
    let e = c.whole_rows.ensures in
    subst (λ (w : ℕ). 7 + w * c.args.i + w ≤ length c.args.bytes.now) (sym c.WIDTH.ensures) (slot_fits g.R.ImageRow.WIDTH c.args.i c.args.bytes.now (omega arith))

pub returns : goal.returns
returns g c = c.read_row.ensures ∙ ap g.R.ImageRow.row_in (c.slot.ensures ∙ ap (λ w. slot_at w c.args.i c.args.bytes.now) c.WIDTH.ensures)
