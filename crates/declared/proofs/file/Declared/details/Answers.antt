use Rattle.std.proofs.Common.{length, take, ap, sym, ◌∙◌, arith}
use Rattle.std.proofs.lemmas.List.{take-map}
use Rattle.declared.specs.Details.{details_in}
use Rattle.declared.specs.File.{shown}
use Rattle.declared.specs.Lines.{line_in}
use Rattle.declared.proofs.CheckLaws.{details_few}
use Rattle.declared.proofs.file.Declared.details.Goals as goal

pub returns : goal.returns
returns c =
    let n = c.detail_count.result in
    let few = details_few n (shown c.args.self.lines.now) in
    let e = ap details_in (sym (take-map line_in n c.args.self.lines.now)) in
    record {
      value = e ∙ ap (λ k. details_in (take k (shown c.args.self.lines.now))) c.detail_count.ensures;
      bound = omega (arith, few, ap length e);
    }
