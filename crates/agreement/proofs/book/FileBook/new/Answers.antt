use Rattle.std.proofs.Common.{ap, ◌∙◌}
use Rattle.agreement.specs.Books.{scenario_table, tariff_table, scenarios_in, tariffs_in}
use Rattle.agreement.specs.Contents.{Bodies}
use Rattle.agreement.proofs.FileLaws.{bodies_by}
use Rattle.agreement.proofs.book.FileBook.new.Goals as goal

pub returns-in-Ok : goal.returns-in-Ok
unfolding scenarios_in tariffs_in
returns-in-Ok c =
    let b = bodies_by c.args.bytes.now _ c.in-Ok.ensures in
    record {
      scenarios = ap scenario_table (c.of_bodies.ensures.scenarios ∙ ap (λ (v : Bodies). v.scenarios) b);
      tariffs = ap tariff_table (c.of_bodies.ensures.tariffs ∙ ap (λ (v : Bodies). v.tariffs) b);
    }

pub returns-in-Err : goal.returns-in-Err
unfolding scenarios_in tariffs_in
returns-in-Err c =
    let b = bodies_by c.args.bytes.now _ c.in-Err.ensures in
    record {
      scenarios = ap scenario_table (c.over.ensures.scenarios ∙ ap (λ (v : Bodies). v.scenarios) b);
      tariffs = ap tariff_table (c.over.ensures.tariffs ∙ ap (λ (v : Bodies). v.tariffs) b);
    }
