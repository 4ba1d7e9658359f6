-- What `verify` prints for the bytes that it reads.
use Rattle.std.specs.Prelude.{ℕ, List, ◌++◌, ltb, length}
use Rattle.checker.specs.Answer.{Numbers, numbers, told}
use Rattle.checker.specs.declared.Verdict.{Verdict}
use Rattle.checker.specs.declared.Verdict.TheVariants.{Accepted, Broken, Refused}
use Rattle.form.specs.Ascii.{ascii}
use Rattle.model.specs.Tests.{pick}
use Rattle.model.specs.Verdict.{verdict, too_many_rows}
use Rattle.refusal.specs.Refusals.{lineless}
use Rattle.text.specs.Line.{field, refused_line}

-- the lines `accepted=1 instructions= oob= empty=` and `accepted=0 row= constraint=`
abbrev pub accepted_line : Numbers → List ℕ
accepted_line x =
    field (ascii "accepted=") x.accepted ++ field (ascii " instructions=") x.instructions
    ++ field (ascii " oob=") x.oob ++ field (ascii " empty=") x.empty ++ ascii "\n"

abbrev pub broken_line : Numbers → List ℕ
broken_line x =
    field (ascii "accepted=") x.accepted ++ field (ascii " row=") x.row ++ field (ascii " constraint=") x.constraint ++ ascii "\n"

-- the line of an answer, by its numbers
abbrev pub line : Verdict → List ℕ
line (Accepted c) = accepted_line (numbers (Accepted c))
line (Broken i k) = broken_line (numbers (Broken i k))
line (Refused r) = refused_line (numbers (Refused r)).refused (numbers (Refused r)).line

-- `verify` reads a trace of at most 65,436 bytes (more: refusal 10, before 9).
abbrev pub verify_bytes : ℕ
verify_bytes = 65436

-- its answer to the bytes read
unfoldable pub answer : List ℕ → Verdict
answer l = pick (ltb verify_bytes (length l)) (Refused (lineless too_many_rows)) (told (verdict l))

-- the bytes printed for the bytes read
abbrev pub report : List ℕ → List ℕ
report l = line (answer l)
