use Rattle.std.proofs.Common.{not, drop, None, Some, sym, ap, ◌∙◌, rules, tests}
use Rattle.std.proofs.lemmas.Iterator.{YieldsList-from_slice, YieldsList-from_zip}
use Rattle.std.proofs.lemmas.Iterator.Search.{position_from_yields_List}
use Rattle.std.specs.List.{zip, position_from}
use Rattle.agreement.specs.Tables.{steps_up, first_not_rising}
use Rattle.agreement.proofs.TableLaws.{first_at}
use Rattle.agreement.proofs.tables.first_not_rising.Goals as goal

pub returns-in_err-i : goal.returns-in_err-i
returns-in_err-i g c =
    let len = c.key_length-len.result in
    let rows = c.args.rows.now in
    c.from_residual-in_err-i.ensures
    ∙ first_at (λ pair. not (steps_up len pair)) 2 (zip rows c.in_ok-later.later.now) None
    (position_from_yields_List _ c.position.new.self _ _ c.in_err-i.ensures.ran (YieldsList-from_zip (YieldsList-from_slice rows cc) (YieldsList-from_slice c.in_ok-later.later.now cc)) (λ x b q k. search (rules, tests)))
    ∙ ap (λ v. position_from (λ pair. not (steps_up len pair)) 2 (zip rows v)) (sym (ap (drop 1) c.in_ok-later.ensures.cases.0))
    ∙ ap (λ k. first_not_rising k rows) c.key_length-len.ensures.value

pub returns : goal.returns
returns g c =
    let len = c.key_length-len.result in
    let rows = c.args.rows.now in
    first_at (λ pair. not (steps_up len pair)) 2 (zip rows c.in_ok-later.later.now) (Some c.in_ok-i.i)
    (position_from_yields_List _ c.position.new.self _ _ c.in_ok-i.ensures.ran (YieldsList-from_zip (YieldsList-from_slice rows cc) (YieldsList-from_slice c.in_ok-later.later.now cc)) (λ x b q k. search (rules, tests)))
    ∙ ap (λ v. position_from (λ pair. not (steps_up len pair)) 2 (zip rows v)) (sym (ap (drop 1) c.in_ok-later.ensures.cases.0))
    ∙ ap (λ k. first_not_rising k rows) c.key_length-len.ensures.value
