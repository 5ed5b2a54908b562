use Rattle.std.proofs.Common.{◌≡◌, not, rules, tests, ◌∙◌}
use Rattle.std.specs.List.{find}
use Rattle.std.specs.Option.{option_map, option_copied}
use Rattle.std.proofs.lemmas.Iterator.{YieldsList-from_slice}
use Rattle.std.proofs.lemmas.Iterator.Adapters.{serves_from_places}
use Rattle.std.proofs.lemmas.Iterator.Search.{find_from_yields_List}
use Rattle.declared.specs.Forms.{is_sound}
use Rattle.declared.proofs.FormLaws.{within_at, find_malformed}
use Rattle.declared.proofs.forms.first_malformed.Goals as goal

pub find-malformed-requires-clause-callable : goal.find-malformed-requires-clause-callable
find-malformed-requires-clause-callable c =
    serves_from_places (YieldsList-from_slice c.args.forms.now cc) (λ x q k. search (rules, tests)) (λ x k h e. let w = within_at c.args.forms.now k x.now c.requires h e in search rules)

pub returns : goal.returns
returns c =
    let found : option_copied c.find-malformed.result ≡ find (λ f. not (is_sound c.args.heading.now c.args.line.now f)) c.args.forms.now =
    find_from_yields_List (λ f. not (is_sound c.args.heading.now c.args.line.now f)) _ _ c.find-malformed.result c.find-malformed.ensures.ran (YieldsList-from_slice c.args.forms.now cc) (λ x b q k. search (rules, tests)) in
    let e : c.map.result ≡ option_map (λ f. f.number) (option_copied c.find-malformed.result) = search rules in
    e ∙ (rw found (find_malformed c.args.heading.now c.args.line.now c.args.forms.now))
