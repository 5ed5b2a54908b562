use Rattle.std.proofs.Common.{[], get_or, take, ap, ◌∙◌, rules}
use Rattle.std.specs.List.{between}
use Rattle.std.proofs.lemmas.Fn.{always_returns_same}
use Rattle.values.specs.Checked.{and_then}
use Rattle.agreement.specs.RowFields.{scenario_in}
use Rattle.agreement.proofs.OrderLaws.{order}
use Rattle.agreement.proofs.ScenarioLaws.{scenario_found}
use Rattle.agreement.proofs.lookup.find_scenario.Goals as goal

pub returns-in_err-i : goal.returns-in_err-i
returns-in_err-i c =
    let s = c.binary_search_by.ensures.position (λ row. order (take 5 row) c.bytes-key.result) (always_returns_same _ _ _ (λ a r q k. search rules)) in
    c.from_residual.ensures
    ∙ ap (λ o. and_then o (λ i. scenario_in (between 5 14 (get_or c.args.rows.now i [])))) c.in_err-i.ensures.value
    ∙ scenario_found c.args.rows.now c.args.descriptor c.requires c.bytes-key.result c.bytes-key.ensures c.binary_search_by.result c.binary_search_by.ensures.bound s

pub returns : goal.returns
returns c =
    let s = c.binary_search_by.ensures.position (λ row. order (take 5 row) c.bytes-key.result) (always_returns_same _ _ _ (λ a r q k. search rules)) in
    c.read_scenario.ensures
    ∙ ap (λ o. and_then o (λ i. scenario_in (between 5 14 (get_or c.args.rows.now i [])))) c.in_ok-i.ensures.value
    ∙ scenario_found c.args.rows.now c.args.descriptor c.requires c.bytes-key.result c.bytes-key.ensures c.binary_search_by.result c.binary_search_by.ensures.bound s
