use Rattle.std.proofs.Common.{◌≡◌, ◌+◌, ◌≤◌, length, drop, sum_by}
use Rattle.detraf.specs.Fields.{field_width, fields_bytes, written}
use Rattle.detraf.proofs.field.write_fields.Given as goal

abbrev pub invariant-loop-field : goal.invariant-loop-field
invariant-loop-field l =
    (written l.column (fields_bytes (drop l.field-index l.fields)) l.out ≡ written l.at (fields_bytes l.fields) l.initial.out)
    × (l.column + sum_by field_width (drop l.field-index l.fields) ≤ length l.out)
