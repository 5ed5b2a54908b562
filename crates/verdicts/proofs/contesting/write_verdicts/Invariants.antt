use Rattle.std.proofs.Common.{◌≡◌, ◌+◌, ◌≤◌, map, length}
use Rattle.std.specs.Iterator.Adapters.{enumerate_source, enumerate_count}
use Rattle.declared.specs.Details.{details_left}
use Rattle.declared.specs.File.{seen_file}
use Rattle.detraf.specs.Fields.{written}
use Rattle.rating.specs.Rating.{book_of}
use Rattle.verdicts.specs.Contests.{verdict_byte, verdict_bytes}
use Rattle.verdicts.proofs.contesting.write_verdicts.Given as goal

-- the lines left bring the same bytes
abbrev pub invariant-loop-i : goal.invariant-loop-i
invariant-loop-i g l =
    let book = book_of g.B.TariffBook l.book in
    let at = enumerate_count l.i-iterator in
    let left = details_left (enumerate_source l.i-iterator) in
    (goal.iterator-loop-i g).can_next l.i-iterator
    × (goal.iterator-loop-i g).is_finite l.i-iterator
    × (at + length left ≤ length l.out)
    × (written at (map (verdict_byte book l.basis.terms l.basis.reference) left) l.out ≡ written 0 (verdict_bytes book l.basis.terms l.basis.reference (seen_file l.file)) l.initial.out)
