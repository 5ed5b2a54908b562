use Rattle.std.proofs.Common.{sym, refl, ◌∙◌}
use Rattle.imagestore.proofs.ImagePuts.{sound, counted}
use Rattle.imagestore.proofs.scan.size_of.Goals as goal

pub returns : goal.returns
returns g c =
    let m = g.met.R.ImageRow in
    let e = counted g.R.Row g.R.ImageRow g.met.R.Row.ordered g.met.R.Row.joins m.sized m.read c.args.bytes.now (sound g.R.Row g.R.ImageRow c.requires) in
    record {
      answer = λ i. record { rows = (c.rows_in.ensures.value ∙ sym e) i; most = c.most_rows.ensures i };
      same = refl;
    }
