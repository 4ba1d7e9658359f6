-- The line in the parts that the code reads: one part after the other is the whole line.
use Prim.Native.Nat.{ℕ, ◌+◌, ◌*◌, ◌^◌, ◌≤◌, ◌<◌}
use mathlib.Core.List.{List, [], ◌∷◌, ◌++◌, append-nil}
use mathlib.Core.Path.{◌≡◌, refl, ◌∙◌}
use native.Mathlib.Omega.{arith}
use Rattle.long.specs.Halves.{whole}
use Rattle.long.specs.declared.Long.{Long}
use Rattle.form.specs.Form.{Field, room, read_kind, read_field, read_form}
use Rattle.form.specs.Read.{Read, got, stop, and_then, read_text}
use Rattle.form.proofs.ReadLaws.{then_got, kind_read}
use Rattle.std.specs.Prelude.{Some, Ok, Err}
use Rattle.number.proofs.TestLaws.{clash}
use Rattle.refusal.specs.declared.Refusal.{Refusal}
use Rattle.claim.specs.Instruction as spec
use Rattle.claim.specs.Told.{told_decoded}
use Rattle.claim.specs.declared.instruction.Instruction.{Instruction}
use Rattle.list.specs.List.{decided}
use Rattle.list.specs.Told.{told_next}
use Rattle.list.specs.Line.{cn_field, op_field, at1_field, len1_field, at2_field, len2_field, line_end, fields_of, read_line, read_two, read_four, closed}

-- the number of a field has room
field_room : (f : Field) (t : List ℕ) (p : ℕ) {v q : ℕ} → read_field f t p ≡ got v q → v < room f.kind
unfolding read_field
field_room f t p e =
    let read = then_got (read_text f.name t p) (λ u q. read_kind f.kind t q) e in
    (kind_read t f.kind read.1 read.3).0

-- where that is room for 64 bits at most, the last half holds it
pub field_half : (f : Field) (t : List ℕ) (p : ℕ) (x : Long) {q : ℕ} → read_field f t p ≡ got (whole x) q → room f.kind ≤ 2 ^ 64
    → (x.lo ≡ whole x) × (x.lo < room f.kind)
unfolding whole
field_half f t p x e h =
    let less : x.hi * 2 ^ 64 + x.lo < room f.kind = field_room f t p e in
    (omega arith, omega arith)

-- ---- the line in parts

-- readers one after the other: their values in one list, whichever way they are put together
join_two : (f : Read ℕ) (g : ℕ → Read ℕ) (rest : ℕ → Read (List ℕ))
    → and_then f (λ v q. and_then (and_then (g q) (λ w r. and_then (rest r) (λ vs s. got (w ∷ vs) s))) (λ ws s. got (v ∷ ws) s))
    ≡ and_then (and_then f (λ v q. and_then (g q) (λ w r. got (v ∷ w ∷ []) r))) (λ a q. and_then (rest q) (λ b r. got (a ++ b) r))
join_two (stop p) g rest = refl
join_two (got v p) g rest = second (g p)
  where
    third : (w : ℕ) (x : Read (List ℕ))
        → and_then (and_then x (λ vs s. got (w ∷ vs) s)) (λ ws s. got (v ∷ ws) s) ≡ and_then x (λ b r. got (v ∷ w ∷ b) r)
    third w (stop q) = refl
    third w (got vs q) = refl

    second : (y : Read ℕ)
        → and_then (and_then y (λ w r. and_then (rest r) (λ vs s. got (w ∷ vs) s))) (λ ws s. got (v ∷ ws) s)
        ≡ and_then (and_then y (λ w r. got (v ∷ w ∷ []) r)) (λ a q. and_then (rest q) (λ b r. got (a ++ b) r))
    second (stop q) = refl
    second (got w q) = third w (rest q)

join_line : (h : Read (List ℕ)) (a b : ℕ → Read (List ℕ)) (end : ℕ → Read Unit)
    → and_then (and_then h (λ x q. and_then (and_then (a q) (λ y r. and_then (and_then (b r) (λ z s. and_then (and_then (end s) (λ u e. got [] e)) (λ w e. got (z ++ w) e))) (λ w e. got (y ++ w) e))) (λ w e. got (x ++ w) e))) (λ vs e. got (fields_of vs) e)
    ≡ and_then h (λ x q. and_then (and_then (a q) (λ y r. and_then (b r) (λ z s. got (y ++ z) s))) (λ w s. and_then (end s) (λ u e. got (fields_of (x ++ w)) e)))
join_line (stop p) a b end = refl
join_line (got x p) a b end = second (a p)
  where
    fourth : (y z : List ℕ) (u : Read Unit)
        → and_then (and_then (and_then (and_then (and_then u (λ u e. got [] e)) (λ w e. got (z ++ w) e)) (λ w e. got (y ++ w) e)) (λ w e. got (x ++ w) e)) (λ vs e. got (fields_of vs) e)
        ≡ and_then u (λ u e. got (fields_of (x ++ (y ++ z))) e)
    fourth y z (stop q) = refl
    fourth y z (got u q) = rw append-nil

    third : (y : List ℕ) (w : Read (List ℕ))
        → and_then (and_then (and_then (and_then w (λ z s. and_then (and_then (end s) (λ u e. got [] e)) (λ w e. got (z ++ w) e))) (λ w e. got (y ++ w) e)) (λ w e. got (x ++ w) e)) (λ vs e. got (fields_of vs) e)
        ≡ and_then (and_then w (λ z s. got (y ++ z) s)) (λ w s. and_then (end s) (λ u e. got (fields_of (x ++ w)) e))
    third y (stop q) = refl
    third y (got z q) = fourth y z (end q)

    second : (v : Read (List ℕ))
        → and_then (and_then (and_then v (λ y r. and_then (and_then (b r) (λ z s. and_then (and_then (end s) (λ u e. got [] e)) (λ w e. got (z ++ w) e))) (λ w e. got (y ++ w) e))) (λ w e. got (x ++ w) e)) (λ vs e. got (fields_of vs) e)
        ≡ and_then (and_then v (λ y r. and_then (b r) (λ z s. got (y ++ z) s))) (λ w s. and_then (end s) (λ u e. got (fields_of (x ++ w)) e))
    second (stop q) = refl
    second (got y q) = third y (b q)

-- two fields of a form at a time
form_two : (f g : Field) (fs : List Field) (close t : List ℕ) (p : ℕ)
    → read_form (f ∷ g ∷ fs) close t p ≡ and_then (read_two f g t p) (λ a q. and_then (read_form fs close t q) (λ b r. got (a ++ b) r))
unfolding read_form read_two
form_two f g fs close t p = join_two (read_field f t p) (read_field g t) (read_form fs close t)

-- the line: cn and op, both ranges, and its end
pub line-parts : (t : List ℕ) (p : ℕ)
    → read_line t p ≡ and_then (read_two cn_field op_field t p) (λ h q. and_then (read_four t q) (λ r s. closed (fields_of (h ++ r)) t s))
unfolding read_line read_form read_four closed
line-parts t p =
    (λ i. and_then (form_two cn_field op_field (at1_field ∷ len1_field ∷ at2_field ∷ len2_field ∷ []) line_end t p i) (λ vs e. got (fields_of vs) e))
    ∙ (λ i. and_then (and_then (read_two cn_field op_field t p) (λ x q. and_then (form_two at1_field len1_field (at2_field ∷ len2_field ∷ []) line_end t q i) (λ w e. got (x ++ w) e))) (λ vs e. got (fields_of vs) e))
    ∙ (λ i. and_then (and_then (read_two cn_field op_field t p) (λ x q. and_then (and_then (read_two at1_field len1_field t q) (λ y r. and_then (form_two at2_field len2_field [] line_end t r i) (λ w e. got (y ++ w) e))) (λ w e. got (x ++ w) e))) (λ vs e. got (fields_of vs) e))
    ∙ join_line (read_two cn_field op_field t p) (read_two at1_field len1_field t) (read_two at2_field len2_field t) (read_text line_end t)

-- ---- what comes next

-- the answer for the fields of a line is what comes next
pub made_next : (l q : ℕ) (d : spec.Decoded) {i : Instruction} → Ok i ≡ told_decoded l d
    → Ok (Some (record { instruction = i; next = q })) ≡ told_next l (decided q d)
made_next l q (spec.decoded j) e = cc
made_next l q (spec.refused n) e = clash cc

-- a refusal of the fields is what comes next, without a place
pub refused_next : (l q : ℕ) (d : spec.Decoded) {w : Refusal} → Err w ≡ told_decoded l d → Err (record { why = w; at = 0 }) ≡ told_next l (decided q d)
refused_next l q (spec.decoded j) e = clash cc
refused_next l q (spec.refused n) e = cc
