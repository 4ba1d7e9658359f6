-- What is written turn by turn: zeros, and the cycles of a list.
use Prim.Native.Nat.{ℕ, suc, ◌+◌, ◌*◌, ◌<◌, ◌≤◌}
use mathlib.Core.List.{List, [], ◌∷◌, ◌++◌, map, map-append}
use mathlib.Core.Path.{◌≡◌, refl, sym, ◌∙◌, ap, ap₂, subst}
use native.Mathlib.Nat.{zero-add, add-zero}
use native.Mathlib.Omega.{arith}
use lib.ListN.{length, replicate, take, drop, length-append, length-map, length-replicate}
use lib.Seq.{sets, sets-eq, length-sets, length-take-le, take-append_seam}
use Rattle.std.specs.Prelude.{None, Some, Ok, Err}
use Rattle.model.specs.Columns.{Cells, empty_row, row_bytes, row_at, bytes_of}
use Rattle.model.specs.Cycles.{Claim}
use Rattle.model.specs.Promises.{Valid}
use Rattle.model.specs.State.{Context, State, fresh}
use Rattle.model.specs.Trace.{last_of, cycle_of, after_claims, cycle_after, cycles_of, trace}
use Rattle.model.specs.Verdict.{max_rows}
use Rattle.model.proofs.AloneLaws.{all_sound_claims}
use Rattle.model.proofs.ExactlyOne.{claims-le}
use Rattle.model.proofs.FitLaws.{trace_fits}
use Rattle.model.proofs.InstructionLaws.{valid_take}
use Rattle.model.proofs.JoinLaws.{length_cycle, length-trace, cycles-append, trace_snoc}
use Rattle.model.proofs.RowBytes.{AllFit, length_bytes, bytes_append, row_between}
use Rattle.model.proofs.StateLaws.{all_sound_fresh}
use Rattle.row.proofs.RowLaws.{write_more}
use Rattle.state.specs.Plain.{context}
use Rattle.recent.specs.Notes.{Recent, nothing_noted, noted, Known, recalled}
use Rattle.recent.proofs.NoteLaws.{noted_in_lem}
use Rattle.claim.specs.Claims.{claim_of}
use Rattle.claim.specs.Instruction.{Instruction}
use Rattle.claim.specs.Told.{told_claim, plain_claim}
use Rattle.claim.specs.declared.claim.Claim as held
use Rattle.list.specs.List.{Next, one, next_line}
use Rattle.refusal.specs.declared.Refusal.{Refusal}
use Rattle.list.proofs.ListLaws.{list_valid}
use Rattle.lines.specs.Lines.{rows_of_claims, Lists, claims_listed, list_claims, Writable, NextWritable, cycles_written}
use Rattle.lines.specs.Reading.{told_claimed, place_after, lines_after}
use Rattle.lines.proofs.ReadLaws.{claim_held, claimed_end, claimed_one, claimed_refused, one_inside, rows_snoc}
use Rattle.lines.proofs.ReadLaws.{Reached, reached-start, reached_next, reached-one, reached_all, reached_right}
use Rattle.lines.proofs.RecallLaws.{trace_row, known_empty, known_claim, recalled-after}

-- ---- zeros

-- zeros in place of the first n bytes
pub zeros_put : (l : List ℕ) (n : ℕ) → n ≤ length l → replicate (length (take n l)) 0 ++ drop n l ≡ sets l 0 (replicate n 0)
zeros_put l n h =
    let count : length (take n l) ≡ n = length-take-le n l h in
    rw (count, sets-eq (replicate n 0) l 0 (omega (arith, length-replicate {A = ℕ})), zero-add, length-replicate)

-- ---- the rows of claims

-- claims and the one behind them have no more rows than these and others behind it
rows_first : (cs ds : List Claim) (c : Claim) → rows_of_claims cs + suc (last_of c) ≤ rows_of_claims (cs ++ (c ∷ ds))
unfolding cycles_of
rows_first cs ds c = rw (cycles-append, length-append, length-append, length_cycle) (omega arith)

-- the first of valid claims are valid
valid_first : (cs ds : List Claim) → Valid (cs ++ ds) → Valid cs
valid_first cs ds v = rw (take-append_seam cs ds) at (valid_take (length cs) (cs ++ ds) v)

-- where the rows of claims are written behind empty rows, the rows of their trace are read
read_trace : {buf : List ℕ} (l : List ℕ) (n : ℕ) (cs : List Claim) → take (n * row_bytes) l ≡ bytes_of (replicate n empty_row)
    → buf ≡ sets l (n * row_bytes) (bytes_of (cycles_of 1 fresh cs)) → AllFit (trace n cs) → (n + rows_of_claims cs) * row_bytes ≤ length l
    → (j : ℕ) → j < length (trace n cs) → row_at buf j ≡ trace_row n cs j
unfolding trace
read_trace {buf} l n cs empty bytes fit room j h =
    let rows : List Cells = cycles_of 1 fresh cs in
    let later : List ℕ = drop (n * row_bytes + length (bytes_of rows)) l in
    let parts : buf ≡ bytes_of (trace n cs) ++ later =
    bytes ∙ sets-eq (bytes_of rows) l (n * row_bytes) (omega (arith, length_bytes rows)) ∙ rw (empty, bytes_append) in
    rw parts (rw zero-add at (row_between [] later 0 (trace n cs) j refl fit h))

-- ---- the cycles of a list

-- k lines of the text t were read, up to the place `at`, and the cycles of their instructions are written from row `first` up to row `row`, behind empty rows;
-- what is known of all of them is known; the other bytes are those of l
pub record Filling (t l buf : List ℕ) (p : Recent) (first at row k : ℕ) : Type 0 where
  pub done : List Instruction
  pub reached : Reached t done k at
  pub rows : row ≡ first + rows_of_claims (map claim_of done)
  pub bytes : buf ≡ sets l (first * row_bytes) (bytes_of (cycles_of 1 fresh (map claim_of done)))
  pub known : Known p.notes p.span (trace_row first (map claim_of done)) row

-- before the first line nothing is written and nothing noted
pub filling_first : (t l : List ℕ) (first : ℕ) → Filling t l l nothing_noted first 0 first 0
unfolding cycles_of bytes_of
filling_first t l first = record { done = []; reached = reached-start t; rows = sym (add-zero first); bytes = refl; known = known_empty first }

claims_each : {t : List ℕ} (lists : Lists t) → list_claims t ≡ map claim_of lists.each
claims_each lists = ap claims_listed lists.read

module _ {t l buf : List ℕ} {p : Recent} {first at row k : ℕ} (f : Filling t l buf p first at row k) where
  -- there are as many bytes as before
  pub length-kept : length buf ≡ length l
  length-kept = ap length f.bytes ∙ length-sets l (first * row_bytes) (bytes_of (cycles_of 1 fresh (map claim_of f.done)))

module _ {t l buf : List ℕ} {p : Recent} {first at row k : ℕ} (lists : Lists t) (f : Filling t l buf p first at row k) where
  -- behind the last line the cycles of all of them are written
  pub filling_end : (n : ℕ) → told_claimed n (next_line t at) ≡ Ok None → buf ≡ cycles_written first (list_claims t) l
  filling_end n e =
      let same : f.done ≡ lists.each = reached_all f.reached lists.read (claimed_end n _ e) in
      rw (claims_each lists, ← same) f.bytes

  -- and no line is refused
  pub filling_right : (n : ℕ) {w : Refusal} → told_claimed n (next_line t at) ≡ Err w → ⊥
  filling_right n e = reached_right f.reached lists.read (claimed_refused n _ e).2

-- one turn: the cycles of the list may be written, and the code holds the claim of the next line as c
pub record Turn (t l buf : List ℕ) (p : Recent) (first at row k : ℕ) (c : held.Claim) : Type 0 where
  pub writable : Writable t l first
  pub filling : Filling t l buf p first at row k
  pub told : told_claimed (k + 1) (next_line t at) ≡ Ok (Some c)

module _ {t l buf : List ℕ} {p : Recent} {first at row k : ℕ} {c : held.Claim} (turn : Turn t l buf p first at row k c) where
  abbrev f : Filling t l buf p first at row k
  f = turn.filling

  abbrev w : Writable t l first
  w = turn.writable

  abbrev claims : List Claim
  claims = map claim_of f.done

  line : (j : Instruction) × (q : ℕ) × (next_line t at ≡ one j q) × (c ≡ told_claim (claim_of j))
  line = claimed_one (k + 1) (next_line t at) turn.told

  more : (rest : List Instruction) × (w.lists.each ≡ f.done ++ (line.0 ∷ rest))
  more = reached-one f.reached w.lists.read line.2

  abbrev new : Claim
  new = claim_of line.0

  abbrev later : List Claim
  later = map claim_of more.0

  count_is : k ≡ length claims
  count_is = f.reached.count ∙ sym (length-map f.done claim_of)

  own : plain_claim c ≡ new
  own = ap plain_claim line.3 ∙ claim_held new

  claims-parts : list_claims t ≡ claims ++ (new ∷ later)
  claims-parts = claims_each w.lists ∙ ap (map claim_of) more.1 ∙ map-append claim_of f.done (line.0 ∷ more.0)

  rows_there : rows_of_claims claims + suc (last_of new) ≤ rows_of_claims (list_claims t)
  rows_there = rw claims-parts (rows_first claims later new)

  valid : Valid claims
  valid =
      let all : Valid (list_claims t) = rw (claims_each w.lists) (list_valid 1 t w.lists.each w.lists.read) in
      valid_first claims (new ∷ later) (rw claims-parts at all)

  row_is : row ≡ length (trace first claims)
  row_is = f.rows ∙ sym (length-trace first claims)

  few_claims : k < max_rows
  few_claims = omega (arith, count_is, claims-le first claims, row_is, f.rows, w.few, rows_there)

  -- the rows before this one are those of the trace
  there : (j : ℕ) → j < length (trace first claims) → row_at buf j ≡ trace_row first claims j
  there =
      let fit = trace_fits first claims valid (omega (arith, count_is, few_claims)) in
      read_trace l first claims w.empty f.bytes fit (omega (arith, w.room, rows_there))

  known_there : Known p.notes p.span (trace_row first claims) (length (trace first claims))
  known_there = subst (Known p.notes p.span (trace_row first claims)) row_is f.known

  -- the state that is recalled is the one after the claims
  recalls : (y : Context) → recalled (row_at buf) p.notes p.span y ≡ after_claims fresh claims y
  recalls = recalled-after first claims w.some valid there known_there

  room : (row + suc (last_of (plain_claim c))) * row_bytes ≤ length buf
  room =
      omega (arith, w.room, rows_there, ap last_of own, ap length f.bytes, length-sets l (first * row_bytes) (bytes_of (cycles_of 1 fresh claims)), f.rows)

  -- its line ends further on, inside of the text
  pub turn_further : (at < place_after at (next_line t at)) × (place_after at (next_line t at) ≤ length t)
  turn_further = rw line.2 (one_inside t at line.2)

  -- and it is one line more
  pub turn_counted : lines_after k (next_line t at) ≡ suc k
  turn_counted = rw line.2 refl

  -- its cycle may be written next
  pub turn_writable : NextWritable buf p row k (plain_claim c)
  turn_writable = record {
    room = room;
    few = omega (arith, w.few, rows_there, ap last_of own, f.rows);
    before = few_claims;
    noted = noted_in_lem f.known (length buf) (omega (arith, f.rows, w.some)) (omega (arith, room));
    sound = rw (recalls (context c.context)) (all_sound_claims fresh claims all_sound_fresh (context c.context));
  }

  cycle_is : cycle_of (suc k) (recalled (row_at buf) p.notes p.span (context c.context)) (plain_claim c) ≡ cycle_after claims new
  cycle_is =
      ap (λ (x : State). cycle_of (suc k) x (plain_claim c)) (recalls (context c.context))
      ∙ ap (λ (d : Claim). cycle_of (suc k) (after_claims fresh claims d.context) d) own
      ∙ ap (λ (n : ℕ). cycle_of (suc n) (after_claims fresh claims new.context) new) count_is

  -- once it is written at that state and the last of its n rows is noted, one line more was read and its cycle written
  pub filling_next : {m : List ℕ} {u : Recent} {n : ℕ} → n ≡ suc (last_of (plain_claim c))
      → m ≡ sets buf (row * row_bytes) (bytes_of (cycle_of (suc k) (recalled (row_at buf) p.notes p.span (context c.context)) (plain_claim c)))
      → u ≡ noted p (context c.context) (row + last_of (plain_claim c))
      → Filling t l m u first (place_after at (next_line t at)) (row + n) (lines_after k (next_line t at))
  unfolding trace
  filling_next {m} {u} {n} count e g =
      let with : map claim_of (f.done ++ (line.0 ∷ [])) ≡ claims ++ (new ∷ []) = map-append claim_of f.done (line.0 ∷ []) in
      let rows : cycles_of 1 fresh (claims ++ (new ∷ [])) ≡ cycles_of 1 fresh claims ++ cycle_after claims new = trace_snoc 0 claims new in
      let written : m ≡ sets buf ((first + rows_of_claims claims) * row_bytes) (bytes_of (cycle_after claims new)) =
      e ∙ ap₂ (λ (r : ℕ) (xs : List Cells). sets buf (r * row_bytes) (bytes_of xs)) f.rows cycle_is in
      let end : row + n ≡ length (trace first claims) + suc (last_of new) = omega (arith, row_is, count, ap last_of own) in
      let latest : u ≡ noted p new.context (length (trace first claims) + last_of new) =
      g ∙ ap₂ (λ (d : Claim) (r : ℕ). noted p d.context (r + last_of d)) own row_is in
      let filled : Filling t l m u first line.1 (row + n) (suc k) = record {
        done = f.done ++ (line.0 ∷ []);
        reached = (reached_next f.reached line.2).0;
        rows = rw (with, rows_snoc claims new) (omega (arith, f.rows, count, ap last_of own));
        bytes = rw (with, rows) (write_more l first (rows_of_claims claims) (cycles_of 1 fresh claims) (cycle_after claims new) refl f.bytes written);
        known = rw (with, latest, end) (known_claim first claims new (omega (arith, row_is, f.rows, w.some)) known_there);
      } in
      subst (λ (x : Next). Filling t l m u first (place_after at x) (row + n) (lines_after k x)) (sym line.2) filled
