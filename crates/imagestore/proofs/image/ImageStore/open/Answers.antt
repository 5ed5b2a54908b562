use Rattle.std.proofs.Common.{refl}
use Rattle.imagestore.proofs.ImageCases.{lines_as_worked, days_as_worked}
use Rattle.imagestore.proofs.ImagePuts.{checked_kept, refused_kept, err≢ok}
use Rattle.imagestore.proofs.image.ImageStore.open.Goals as goal

pub returns-in-Ok : goal.returns-in-Ok
returns-in-Ok g c =
    let m = g.met.R in
    let p = checked_kept g.R.Row g.R.ImageRow m.Row.ordered m.Row.joins m.ImageRow.sized m.ImageRow.read c.args.bytes.now c.in-Ok.field-0 c.in-Ok.ensures in
    record { bytes = p.0; kept = p.1; lender = λ _. refl; lines = lines_as_worked; days = days_as_worked }

pub returns-in-Err : goal.returns-in-Err
returns-in-Err g c =
    let m = g.met.R in
    let p = refused_kept g.R.Row g.R.ImageRow m.Row.ordered m.Row.joins m.ImageRow.sized m.ImageRow.read c.args.bytes.now c.in-Err.field-0 c.in-Err.ensures in
    record { bytes = p.0; kept = p.1; lender = λ q. absurd (err≢ok c.in-Err.ensures q); lines = lines_as_worked; days = days_as_worked }
