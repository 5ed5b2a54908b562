use Rattle.std.proofs.Common.{is_some, ap, ◌∙◌}
use Rattle.ledger.specs.Ledger.{holds}
use Rattle.images.specs.Arrivals.{is_fault, arrived}
use Rattle.images.specs.Format.{row_at}
use Rattle.images.proofs.Arrived.{place_holds}
use Rattle.images.proofs.format.is_fault.Goals as goal

pub returns-in-Some : goal.returns-in-Some
returns-in-Some g c =
    let o = g.R.Row.keys in
    let at = row_at g.R.ImageRow c.args.bytes.now in
    let before = arrived o g.R.Row.joined at c.args.i in
    c.is_some.ensures
    ∙ ap is_some c.place_of.ensures.value
    ∙ place_holds o g.met.R.Row.ordered g.R.Row.joined g.met.R.Row.joins c.key.result at c.args.i
    ∙ ap (λ k. holds o k before) c.key.ensures
    ∙ ap (λ v. is_fault o v before) c.in-Some.ensures
