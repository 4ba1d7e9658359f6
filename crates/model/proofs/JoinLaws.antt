-- Traces are joined and cut at the ends of cycles: more claims add rows at the end, and what stands before these is the trace of the first claims.
use Prim.Native.Nat.{ℕ, suc, ◌+◌, ◌*◌, ◌<◌, ◌≤◌}
use mathlib.Core.Bool.{Bool, true, false, not}
use mathlib.Core.List.{List, [], ◌∷◌, ◌++◌, append_assoc, append-nil}
use mathlib.Core.Path.{◌≡◌, refl, sym, ◌∙◌, ap}
use native.Mathlib.Nat.{add-zero, add-suc, suc-add, zero-add}
use native.Mathlib.Omega.{arith}
use lib.ListN.{length, take, drop, length-append, length-replicate, length-take, take-append-drop}
use lib.Seq.{take-append_seam}
use Rattle.model.specs.Columns.{bytes_of}
use Rattle.model.specs.Constraints.{in_last, out_last}
use Rattle.model.specs.Cycles.{Claim, count}
use Rattle.model.specs.Promises.{count_in, count_out}
use Rattle.model.specs.State.{Context, State, fresh}
use Rattle.model.specs.Tests.{pick}
use Rattle.model.specs.Trace.{in_bounds, last_of, row_of, cycle_of, after_claim, after_claims, cycle_after, cycles_of, trace, trace_bytes}
use Rattle.model.specs.Verdict.{max_rows, full_count}
use Rattle.model.proofs.RowBytes.{length_bytes, bytes_append, bytes_take}
use Rattle.model.proofs.TableOf.{length-table}

-- ---- how many rows there are

-- the cycle of a claim has at most the rows of one that is out of bounds
pub last_le : (c : Claim) → last_of c ≤ out_last
unfolding last_of
last_le c = by (in_bounds c)
  where
    by : (b : Bool) → pick b in_last out_last ≤ out_last
    by true = omega arith
    by false = omega arith

-- a claim's cycle has one row more than its last CT
pub length_cycle : (stamp : ℕ) (s : State) (c : Claim) → length (cycle_of stamp s c) ≡ suc (last_of c)
unfolding cycle_of
length_cycle stamp s c = length-table (suc (last_of c)) (row_of stamp s c)

-- a trace has its empty rows and the rows of its claims
pub length-trace : (n : ℕ) (cs : List Claim) → length (trace n cs) ≡ n + length (cycles_of 1 fresh cs)
unfolding trace
length-trace n cs = rw (length-append, length-replicate)

-- a claim has 3 rows if it is in bounds, else 17
length_next : (t : Bool) (c : Claim) (m a b : ℕ) → in_bounds c ≡ t → m ≡ suc in_last * a + suc out_last * b
    → suc (last_of c) + m ≡ suc in_last * pick t (suc a) a + suc out_last * pick (not t) (suc b) b
unfolding last_of
length_next true c m a b e h = rw e (omega arith)
length_next false c m a b e h = rw e (omega arith)

length-cycles : (stamp : ℕ) (states : Context → State) (cs : List Claim)
    → length (cycles_of stamp states cs) ≡ suc in_last * count_in cs + suc out_last * count_out cs
unfolding cycles_of count
length-cycles stamp states [] = refl
length-cycles stamp states (c ∷ cs) =
    rw (length-append, length_cycle)
    (length_next (in_bounds c) c _ (count_in cs) (count_out cs) refl (length-cycles (suc stamp) (after_claim states c) cs))

-- a trace has its empty rows, 3 rows for each claim in bounds and 17 for each out of bounds
pub rows_of_trace : (n : ℕ) (cs : List Claim) → length (trace n cs) ≡ n + (suc in_last * count_in cs + suc out_last * count_out cs)
rows_of_trace n cs = rw (length-trace, length-cycles 1 fresh cs)

-- 21,845 in-bounds instructions and one empty row fill a trace, and one more does not fit
pub full_trace : (cs : List Claim) → count_out cs ≡ 0
    → ((count_in cs ≡ full_count) → length (trace 1 cs) ≡ max_rows) × ((full_count < count_in cs) → max_rows < length (trace 1 cs))
full_trace cs e = (λ h. omega (arith, rows_of_trace 1 cs), λ h. omega (arith, rows_of_trace 1 cs))

-- ---- joined

-- the states after one claim more are those after it, from where the others leave them
pub after_snoc : (states : Context → State) (cs : List Claim) (c : Claim)
    → after_claims states (cs ++ (c ∷ [])) ≡ after_claim (after_claims states cs) c
unfolding after_claims
after_snoc states [] c = refl
after_snoc states (d ∷ cs) c = after_snoc (after_claim states d) cs c

-- the rows of more claims stand after those of the first, at the next stamp and at the states that these leave
pub cycles-append : (stamp : ℕ) (states : Context → State) (cs ds : List Claim)
    → cycles_of stamp states (cs ++ ds) ≡ cycles_of stamp states cs ++ cycles_of (stamp + length cs) (after_claims states cs) ds
unfolding cycles_of after_claims
cycles-append stamp states [] ds = rw add-zero
cycles-append stamp states (c ∷ cs) ds = rw (append_assoc, cycles-append (suc stamp) (after_claim states c) cs ds, suc-add, add-suc)

-- claims added to those of a trace add their rows at its end
pub trace-append : (n : ℕ) (cs ds : List Claim) → trace n (cs ++ ds) ≡ trace n cs ++ cycles_of (suc (length cs)) (after_claims fresh cs) ds
unfolding trace
trace-append n cs ds = rw (append_assoc, cycles-append 1 fresh cs ds, suc-add, zero-add)

-- one claim more adds its cycle
pub trace_snoc : (n : ℕ) (cs : List Claim) (c : Claim) → trace n (cs ++ (c ∷ [])) ≡ trace n cs ++ cycle_after cs c
unfolding cycles_of
trace_snoc n cs c = rw (trace-append n cs (c ∷ []), append-nil)

-- and the bytes of it
pub bytes_snoc : (n : ℕ) (cs : List Claim) (c : Claim) → trace_bytes n (cs ++ (c ∷ [])) ≡ trace_bytes n cs ++ bytes_of (cycle_after cs c)
unfolding trace_bytes
bytes_snoc n cs c = rw (trace_snoc n cs c, bytes_append)

-- ---- cut

-- a trace that is cut at the end of a cycle is the trace of the first claims
pub trace_cut : (n k : ℕ) (cs : List Claim) → take (length (trace n (take k cs))) (trace n cs) ≡ trace n (take k cs)
trace_cut n k cs =
    let e = ap (trace n) (sym (take-append-drop k cs)) ∙ trace-append n (take k cs) (drop k cs) in
    ap (take (length (trace n (take k cs)))) e ∙ take-append_seam (trace n (take k cs)) _

-- fewer claims have no more rows
pub cut_le : (n k : ℕ) (cs : List Claim) → length (trace n (take k cs)) ≤ length (trace n cs)
cut_le n k cs = omega (arith, ap length (trace_cut n k cs), length-take (length (trace n (take k cs))) (trace n cs))

-- and so are its bytes
pub bytes_cut : (n k : ℕ) (cs : List Claim) → take (length (trace_bytes n (take k cs))) (trace_bytes n cs) ≡ trace_bytes n (take k cs)
unfolding trace_bytes
bytes_cut n k cs = rw (length_bytes, bytes_take (trace n cs) (length (trace n (take k cs))) (cut_le n k cs), trace_cut n k cs)
