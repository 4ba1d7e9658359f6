-- No second answer, and no second buffer, meets the contracts of `text`.
use mathlib.Core.Path.{refl, sym, subst}
use Rattle.text.specs.Line.{Front, refused_line}
use Rattle.text.proofs.PutLaws.{front_one}
use Rattle.promises.proofs.NoSecond.{NoSecond, no_second, given, value, ref, shared, answer, first, both}
use Rattle.text.proofs.put_bytes.Reads as put-bytes
use Rattle.text.proofs.put_decimal.Reads as put-decimal
use Rattle.text.proofs.put_field.Reads as put-field
use Rattle.text.proofs.put_refusal.Reads as put-refusal

-- bytes and numbers that are put from a place on
pub one_put_bytes : NoSecond put-bytes.Post (ref (value (shared given))) (both answer first)
one_put_bytes = no_second _ (λ κ a v e p. λ i. (p.after i, p.stored i)) (λ a b. refl)

pub one_put_decimal : NoSecond put-decimal.Post (ref given) (both answer first)
one_put_decimal = no_second _ (λ κ a v e p. λ i. (p.0.after i, p.0.stored i)) (λ a b. refl)

pub one_put_field : NoSecond put-field.Post (ref (value (shared given))) (both answer first)
one_put_field = no_second _ (λ κ a v e p. λ i. (p.0.after i, p.0.stored i)) (λ a b. refl)

-- the line of a refusal, with which the buffer begins
pub one_put_refusal : NoSecond put-refusal.Post (ref given) (both answer first)
one_put_refusal = record {
  same_told = λ κ μ a b v w e f same p q.
      let there = subst (λ i. Front i.0 (refused_line i.1.0 i.1.1.0) f.0.now w) (sym same) q in
      let one = front_one p there in
      λ i. (one.0 i, one.1 i);
}
