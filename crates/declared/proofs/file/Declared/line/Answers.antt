use Rattle.std.proofs.Common.{◌≡◌, rules, sym, ap, ◌∙◌}
use Rattle.std.specs.Option.{option_map, option_copied}
use Rattle.std.proofs.lemmas.Option.{slice_get-map}
use Rattle.declared.specs.Lines.{seen_option, line_in}
use Rattle.declared.proofs.CheckLaws.{got_line}
use Rattle.declared.proofs.file.Declared.line.Goals as goal

pub returns : goal.returns
returns c =
    let read : seen_option c.map.result ≡ option_map line_in (option_copied c.get.result) = search rules in
    read ∙ (ap (option_map line_in) (got_line c.args.self.lines.now c.args.i c.get.result c.get.ensures.lookup.3) ∙ sym (slice_get-map line_in c.args.self.lines.now c.args.i))
