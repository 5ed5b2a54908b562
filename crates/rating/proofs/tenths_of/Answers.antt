use Rattle.std.proofs.Common.{◌≡◌, arith, false, Some, sym, ap, ◌∙◌, rules}
use Rattle.std.proofs.lemmas.Bool.{cond-false}
use Rattle.rating.specs.Charge.{too_short, tenths_for}
use Rattle.rating.proofs.ChargeLaws.{same_tenths}
use Rattle.rating.proofs.tenths_of.Goals as goal

pub returns-clause-value : goal.returns-clause-value
returns-clause-value c =
    let counts : too_short c.args.scenario c.args.duration.seconds ≡ false = search rules in
    ap Some (same_tenths _ (tenths_for c.args.scenario c.args.duration) (grind arith)) ∙ sym (cond-false _ _ _ counts)
