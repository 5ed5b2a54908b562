use Rattle.std.proofs.Common.{ℕ, Bool, sym, ◌∙◌, rules, refl, arith}
use Rattle.std.proofs.lemmas.Iterator.{YieldsList-from_range}
use Rattle.std.proofs.lemmas.Iterator.Search.{find_from_yields_List}
use Rattle.ledger.specs.Ledger.{has_key}
use Rattle.images.specs.Format.{row_at}
use Rattle.images.proofs.Arrived.{option_same, first_found}
use Rattle.images.proofs.format.place_of.Goals as goal

pub returns-clause-value : goal.returns-clause-value
returns-clause-value g c =
    let test : ℕ → Bool = λ i. has_key g.R.Row.keys c.args.key (row_at g.R.ImageRow c.args.bytes.now i) in
    let below = YieldsList-from_range 0 c.args.count c.args.count refl (omega arith) in
    sym (option_same c.find.result)
    ∙ (find_from_yields_List test _ _ c.find.result c.find.ensures.ran below (λ i b f called. (search rules, search rules))
    ∙ first_found test c.args.count)
