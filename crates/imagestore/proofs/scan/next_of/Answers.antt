use Rattle.std.proofs.Common.{ℕ, None, Option, refl, ◌∙◌, rules, arith}
use Rattle.std.proofs.lemmas.Iterator.{YieldsList-from_range}
use Rattle.std.proofs.lemmas.Iterator.Consumers.{fold_from_yields_List}
use Rattle.images.specs.Format.{row_at}
use Rattle.imagestore.specs.Images.{next_with}
use Rattle.imagestore.proofs.RowsCounted.{next_folded}
use Rattle.imagestore.proofs.scan.next_of.Goals as goal

pub returns : goal.returns
returns g c =
    let o = g.R.Row.keys in
    let join = g.R.Row.joined in
    let at = row_at g.R.ImageRow c.args.bytes.now in
    let step : Option g.row.R.Denot → ℕ → Option g.row.R.Denot = λ best i. next_with o join c.args.after.now best (at i) in
    let below = YieldsList-from_range 0 c.args.count c.args.count refl (omega arith) in
    fold_from_yields_List _ step None c.fold.result c.fold.ensures.ran below (λ best i b f called. (search rules, search rules))
    ∙ next_folded o g.met.R.Row.ordered join g.met.R.Row.joins at c.args.after.now c.args.count
