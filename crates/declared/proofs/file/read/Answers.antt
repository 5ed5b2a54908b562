use Rattle.std.proofs.Common.{◌/◌, length, Ok, get_or, [], ap, ◌∙◌, arith}
use Rattle.std.proofs.lemmas.Result.{err_from_is_err_and}
use Rattle.digits.proofs.Positional.{bytes_are}
use Rattle.declared.specs.File.{shown, shown_in, well_formed, sound}
use Rattle.declared.specs.Lines.{head_in}
use Rattle.declared.specs.declared.lines.Head.{Head}
use Rattle.declared.proofs.CheckLaws.{line_of}
use Rattle.declared.proofs.LineBacks.{file_back}
use Rattle.declared.proofs.LineReads.{file_reads}
use Rattle.declared.proofs.ReadLaws.{no_lines, not_formed, not_sound, accepted}
use Rattle.declared.proofs.file.read.Goals as goal

pub returns-in_err-check_length : goal.returns-in_err-check_length
returns-in_err-check_length c =
    let p = err_from_is_err_and c.from_residual.result c.from_residual.ensures.1 in
    record {
      value = rw (p.1, p.2) (no_lines c.args.bytes.now _ c.in_err-check_length.ensures.value);
      back = file_back c.args.bytes.now (bytes_are c.args.bytes.now (λ i. omega (arith, c.type_inv.bytes i)));
      reads = file_reads;
    }

pub returns-in_err-check_fields : goal.returns-in_err-check_fields
returns-in_err-check_fields c =
    let p = err_from_is_err_and c.from_residual-in_err-check_fields.result c.from_residual-in_err-check_fields.ensures.1 in
    record {
      value = rw (p.1, p.2) (not_formed c.args.bytes.now c.in_ok-check_length.ensures.value _ (c.in_err-check_fields.ensures ∙ ap well_formed c.as_chunks.ensures.front));
      back = file_back c.args.bytes.now (bytes_are c.args.bytes.now (λ i. omega (arith, c.type_inv.bytes i)));
      reads = file_reads;
    }

pub returns-in_err-check_lines : goal.returns-in_err-check_lines
returns-in_err-check_lines c =
    let p = err_from_is_err_and c.from_residual-in_err-check_lines.result c.from_residual-in_err-check_lines.ensures.1 in
    record {
      value =
          rw (p.1, p.2) (not_sound c.args.bytes.now c.in_ok-check_length.ensures.value (c.in_ok-check_fields.ensures ∙ ap well_formed c.as_chunks.ensures.front) _
          (c.in_err-check_lines.ensures ∙ ap (λ ls. sound (shown ls)) c.as_chunks.ensures.front));
      back = file_back c.args.bytes.now (bytes_are c.args.bytes.now (λ i. omega (arith, c.type_inv.bytes i)));
      reads = file_reads;
    }

pub returns : goal.returns
returns c = record {
  value =
      ap (λ (h : Head). Ok (record { head = h; lines = shown c.as_chunks.result.0.now })) c.read_head-head.ensures
      ∙ (ap (λ ls. Ok (record { head = head_in (get_or ls 0 []); lines = shown ls })) c.as_chunks.ensures.front
      ∙ (ap (λ l. Ok (record { head = head_in l; lines = shown_in c.args.bytes.now })) (line_of (length c.args.bytes.now / 129) 0 c.args.bytes.now (omega (arith, c.in_ok-check_length.ensures.line)))
      ∙ accepted c.args.bytes.now c.in_ok-check_length.ensures.value (c.in_ok-check_fields.ensures ∙ ap well_formed c.as_chunks.ensures.front) (c.in_ok-check_lines.ensures ∙ ap (λ ls. sound (shown ls)) c.as_chunks.ensures.front)));
  back = file_back c.args.bytes.now (bytes_are c.args.bytes.now (λ i. omega (arith, c.type_inv.bytes i)));
  reads = file_reads;
}
