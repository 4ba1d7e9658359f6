-- Worked examples of lists, which the prover computes.
use mathlib.Core.List.{[], ◌∷◌}
use mathlib.Core.Path.{◌≡◌, refl}
use Rattle.opcode.specs.Opcodes.{category_of}
use Rattle.form.specs.Ascii.{ascii}
use Rattle.form.specs.Form.{read_field, read_form}
use Rattle.form.specs.Hex.{is_digit, digit_of}
use Rattle.form.specs.Read.{read_text, run, read_digits, read_number}
use Rattle.claim.specs.Instruction.{Instruction, nothing, use_of, unused_zero, decode}
use Rattle.list.specs.Line.{read_line}
use Rattle.list.specs.List.{instructions, refused_in, next_line, list_from, read_list}

-- MSIZE of context 1
abbrev msize : Instruction
msize = record { context = record { cn = 1 }; op = 0x59; touched = nothing }

-- an empty text is a list of none; one line; a line without its newline; a blank line behind the first
pub list_examples : (read_list 1 (ascii "") ≡ instructions [])
    × (read_list 1 (ascii "cn=1 op=59 at1=0 len1=0 at2=0 len2=0\n") ≡ instructions (msize ∷ []))
    × (read_list 1 (ascii "cn=1 op=59 at1=0 len1=0 at2=0 len2=0") ≡ refused_in 3 1 36)
    × (read_list 1 (ascii "cn=1 op=59 at1=0 len1=0 at2=0 len2=0\n\n") ≡ refused_in 3 2 37)
unfolding read_list list_from next_line read_line read_form read_field read_text read_number read_digits run is_digit digit_of decode category_of use_of unused_zero
list_examples = (refl, refl, refl, refl)

-- line 1's refusal 6 comes before line 2's refusal 3; in a line 3 comes before 4, 4 before 5, 5 before 6; and the lines are counted from the given number
pub refusal_examples : (read_list 1 (ascii "cn=1 op=59 at1=1 len1=0 at2=0 len2=0\ncn=\n") ≡ refused_in 6 1 0)
    × (read_list 1 (ascii "cn=0 op=zz at1=0 len1=0 at2=0 len2=0\n") ≡ refused_in 3 1 8)
    × (read_list 1 (ascii "cn=0 op=00 at1=0 len1=0 at2=0 len2=0\n") ≡ refused_in 4 1 0)
    × (read_list 1 (ascii "cn=1 op=5e at1=1 len1=0 at2=0 len2=1\n") ≡ refused_in 5 1 0)
    × (read_list 40 (ascii "cn=1 op=59 at1=0 len1=0 at2=0 len2=0\ncn=0 op=59 at1=0 len1=0 at2=0 len2=0\n") ≡ refused_in 4 41 0)
unfolding read_list list_from next_line read_line read_form read_field read_text read_number read_digits run is_digit digit_of decode category_of use_of unused_zero
refusal_examples = (refl, refl, refl, refl, refl)
