use Rattle.std.proofs.Common.{ap, ◌∙◌, List, rules}
use Rattle.declared.specs.Forms.{first_malformed, head_forms, body_forms}
use Rattle.declared.specs.declared.forms.FieldForm.{FieldForm}
use Rattle.declared.proofs.FormLaws.{malformed_either}
use Rattle.declared.proofs.forms.line_fault.Goals as goal

pub returns : goal.returns
returns c =
    malformed_either c.args.heading.now c.args.line.now (head_forms c.args.is_first) (body_forms c.args.line.now) c.first_malformed.result c.or_else.result
    (c.first_malformed.ensures ∙ ap (λ (fs : List FieldForm). first_malformed c.args.heading.now c.args.line.now fs) c.head_forms.ensures)
    (λ e. search rules) (λ n e. search rules)
