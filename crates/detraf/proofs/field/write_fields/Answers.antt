use Rattle.std.proofs.Common.{arith}
use Rattle.detraf.proofs.FieldLaws.{fields_more, fields_all, fields_room}
use Rattle.detraf.specs.declared.field.Field.TheVariants.{Number}
use Rattle.detraf.proofs.field.write_fields.Goals as goal

pub write_field-requires : goal.write_field-requires
write_field-requires c =
    let r = fields_room c.loop-field.column c.loop-field.field-index c.args.fields.now (Number 0 0) _ c.loop-field-test.true c.loop-field.invariant.1 in
    omega arith

pub overflow_add-column : goal.overflow_add-column
overflow_add-column c =
    let r = fields_room c.loop-field.column c.loop-field.field-index c.args.fields.now (Number 0 0) _ c.loop-field-test.true c.loop-field.invariant.1 in
    let e = c.width-column.ensures in
    omega arith

pub loop-field-preserved : goal.loop-field-preserved
loop-field-preserved c =
    let i = c.loop-field.invariant in
    let e = c.width-column.ensures in
    let r = fields_room c.loop-field.column c.loop-field.field-index c.args.fields.now (Number 0 0) _ c.loop-field-test.true i.1 in
    (fields_more c.loop-field.column c.loop-field.field-index _ c.args.fields.now (Number 0 0) c.loop-field.out c.write_field.new.out _ c.loop-field-test.true (omega arith) e c.write_field.ensures i.0, omega arith)

pub returns : goal.returns
returns c = fields_all c.loop-field.column c.loop-field.field-index c.args.fields.now c.loop-field.out _ c.loop-field-test.false c.loop-field.invariant.0
