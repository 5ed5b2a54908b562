-- What a contest answers, and the verdicts that it leaves in the buffer.
use Rattle.std.specs.Prelude.{ℕ, Bool, cond, ◌&&◌, List, ◌++◌, map, length, drop, Ok, Err, Result, ◌==◌, nat_le}
use Rattle.values.specs.declared.calendar.Month.{Month}
use Rattle.values.specs.declared.terms.Terms.{Terms}
use Rattle.rating.specs.Rating.{Book}
use Rattle.declared.specs.File.{File}
use Rattle.declared.specs.Lines.{Detail}
use Rattle.declared.specs.declared.faults.ReadFault.{ReadFault}
use Rattle.declared.specs.declared.lines.Head.{Head}
use Rattle.declared.specs.Details.{details}
use Rattle.verdicts.specs.Verdicts.{verdict_of, verdict_code}
use Rattle.verdicts.specs.declared.faults.ContestFault.{ContestFault}
use Rattle.verdicts.specs.declared.faults.ContestFault.TheVariants.{Read, Unlike, Short}

-- parties and reference month are the statement's
abbrev pub is_like : Terms → Month → Head → Bool
is_like terms reference head =
    (head.creditor == terms.creditor.code)
    && (head.debtor == terms.debtor.code
    && head.reference == reference.number)

-- whether a file with this head and so many detail lines is judged into a buffer of so many bytes
abbrev pub admitted : Terms → Month → Head → ℕ → ℕ → Result (Unit {0}) ContestFault
admitted terms reference head count room =
    cond (is_like terms reference head)
    (cond (nat_le count room) (Ok tt) (Err Short))
    (Err Unlike)

-- the byte of a detail line
abbrev pub verdict_byte : Book → Terms → Month → Detail → ℕ
verdict_byte book terms reference line = verdict_code (verdict_of book terms reference line)

abbrev pub verdict_bytes : Book → Terms → Month → File → List ℕ
verdict_bytes book terms reference file = map (verdict_byte book terms reference) (details file)

abbrev pub admits : Terms → Month → File → List ℕ → Result (Unit {0}) ContestFault
admits terms reference file out = admitted terms reference file.head (length (details file)) (length out)

-- how many verdicts there are
abbrev pub counted : Result (Unit {0}) ContestFault → ℕ → Result ℕ ContestFault
counted (Ok u) n = Ok n
counted (Err f) n = Err f

-- of what reading answers: the file, or the reader's refusal
abbrev pub contest_answer : Terms → Month → Result File ReadFault → List ℕ → Result ℕ ContestFault
contest_answer terms reference (Ok file) out = counted (admits terms reference file out) (length (details file))
contest_answer terms reference (Err f) out = Err (Read f)

-- the verdicts and the buffer's old tail, or the old buffer where the contest is refused
abbrev pub filled : Result (Unit {0}) ContestFault → List ℕ → List ℕ → List ℕ
filled (Ok u) bytes out = bytes ++ drop (length bytes) out
filled (Err f) bytes out = out

abbrev pub contest_after : Book → Terms → Month → Result File ReadFault → List ℕ → List ℕ
contest_after book terms reference (Ok file) out = filled (admits terms reference file out) (verdict_bytes book terms reference file) out
contest_after book terms reference (Err f) out = out
