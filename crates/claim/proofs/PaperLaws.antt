-- Our claims and the Yellow Paper's table: they leave the same active words, for one instruction and over a list of lines.
use Prim.Native.Nat.{ℕ, zero, suc, ◌+◌, ◌<◌, ◌≤◌, zero-le, suc-le-suc, max}
use mathlib.Core.Bool.{Bool, true, false, false≢true, ◌||◌}
use mathlib.Core.List.{List, [], ◌∷◌, ◌++◌, map, map-append}
use mathlib.Core.Logic.{◌≢◌, ◌↔◌}
use mathlib.Core.Path.{◌≡◌, refl, sym, ◌∙◌, ap}
use native.Mathlib.Nat.{zero-add, max-zero, le_of_suc-le-suc, not-suc-le-zero}
use native.Mathlib.Omega.{arith}
use borrow.Author.Tests.{eqb-true}
use lib.Dec.{eqb}
use lib.ListN.{length, get_or, take}
use Rattle.number.specs.Tests.{pick}
use Rattle.opcode.specs.Opcodes.{unlisted, among, category_of}
use Rattle.opcode.proofs.TableLaws.{exactly_listed}
use Rattle.gas.specs.Gas.{words, range_end}
use Rattle.gas.specs.Paper.{M}
use Rattle.gas.proofs.PaperLaws.{words-paper}
use Rattle.model.specs.Alone.{paper_words, counted, ByPaper}
use Rattle.model.specs.Columns.{Cells, row_at, rows_of}
use Rattle.model.specs.Cycles.{Claim, instruction, instruction_claim}
use Rattle.model.specs.Promises.{Carries, claims_in}
use Rattle.model.specs.State.{Context}
use Rattle.model.specs.Trace.{last_of}
use Rattle.model.proofs.InstructionLaws.{claim_is, by-paper}
use Rattle.claim.specs.Claims.{end1, end2, claim_of}
use Rattle.claim.specs.Instruction.{Fields, Touched, nothing, one, two, Instruction, use_of, used, decoded, decode}
use Rattle.claim.specs.Paper.{Entry, entry, paper, words_by, paper_after, paper_over, Decodes, none, more, context_of, LineByPaper}
use Rattle.claim.proofs.ClaimLaws.{read}

-- ---- the Paper's table has the opcodes that we list

-- its opcodes
abbrev pub opcodes : List ℕ
opcodes = map (λ (e : Entry). e.opcode) paper

-- it has 22 entries
pub paper_entries : length paper ≡ 22
paper_entries = refl

-- it has an entry for an opcode exactly if that has a category
pub paper_covers : (op : ℕ) → (among op opcodes ≡ true) ↔ (category_of op ≢ unlisted)
unfolding category_of
paper_covers = exactly_listed opcodes tt tt

-- ---- one instruction

-- the words after what is touched, by the Paper's M for each range
abbrev words_after : ℕ → Touched → ℕ
words_after s nothing = s
words_after s (one a) = M s a.at a.len
words_after s (two a b) = M (M s a.at a.len) b.at b.len

-- an entry by our categories
abbrev ours : ℕ → Entry
ours op = entry op (λ s f. words_after s (use_of (category_of op) f).touched)

-- each of the Paper's entries is one by our categories
paper-ours : paper ≡ map ours opcodes
unfolding category_of use_of
paper-ours = refl

words-ours : (s : ℕ) (f : Fields) (ops : List ℕ) → among f.op ops ≡ true → words_by (map ours ops) s f ≡ words_after s (used f).touched
words-ours s f [] h = absurd (false≢true h)
words-ours s f (op ∷ ops) h = by (eqb f.op op) refl h (words-ours s f ops)
  where
    by : (t : Bool) → eqb f.op op ≡ t → (t || among f.op ops) ≡ true
        → (among f.op ops ≡ true → words_by (map ours ops) s f ≡ words_after s (used f).touched)
        → pick t ((ours op).words s f) (words_by (map ours ops) s f) ≡ words_after s (used f).touched
    by true e h rest = rw (eqb-true f.op op e)
    by false e h rest = rest h

-- the bytes up to an end are a range at offset 0
end_range : (e : ℕ) → range_end 0 e ≡ e
unfolding range_end
end_range zero = refl
end_range (suc e) = zero-add (suc e)

paper_end : (s e : ℕ) → M s 0 e ≡ max s (words e)
paper_end s e = sym (words-paper s 0 e) ∙ ap (λ (n : ℕ). max s (words n)) (end_range e)

claim-words : (s : ℕ) (t : Touched) → max (max s (words (end1 t))) (words (end2 t)) ≡ words_after s t
unfolding words
claim-words s nothing = omega arith
claim-words s (one a) = rw (words-paper s a.at a.len, max-zero)
claim-words s (two a b) = rw (words-paper s a.at a.len, words-paper (M s a.at a.len) b.at b.len)

module _ (s : ℕ) (f : Fields) {i : Instruction} (e : decode f ≡ decoded i) where
  -- the greater of the words before and those of the two ends are the Paper's words after the instruction
  pub step_by_words : max (max s (words (claim_of i).end1)) (words (claim_of i).end2) ≡ paper_after s f
  unfolding claim_of paper_after
  step_by_words =
      let p = ap (λ (es : List Entry). words_by es s f) paper-ours ∙ words-ours s f opcodes ((paper_covers f.op).1 (read e).known) in
      rw ((read e).same, p) (claim-words s (used f).touched)

  -- the same by M: an end is the range of so many bytes from offset 0
  pub step_by_paper : M (M s 0 (claim_of i).end1) 0 (claim_of i).end2 ≡ paper_after s f
  step_by_paper = rw (paper_end, paper_end) step_by_words

-- ---- the lines of a list

-- the Paper's words over lines are those over the claims of their instructions
pub over_claims : (x : Context) (w : ℕ) {fs : List Fields} {is : List Instruction} → Decodes fs is
    → paper_over x w fs ≡ paper_words x w (map claim_of is)
unfolding paper_over paper_words
over_claims x w none = refl
over_claims x w (more {f = f} {i = i} e d) =
    rw (e, ← step_by_paper w f e) (over_claims x (pick (counted x (claim_of i)) (M (M w 0 (claim_of i).end1) 0 (claim_of i).end2) w) d)

one_more : {fs : List Fields} {is : List Instruction} {i : Instruction} → Decodes fs is → (f : Fields) → decode f ≡ decoded i
    → Decodes (fs ++ (f ∷ [])) (is ++ (i ∷ []))
one_more none f e = more e none
one_more (more g d) f e = more g (one_more d f e)

-- what a row says of a claim by the Paper, it says of the claim's line
line_by_paper : (row : Cells) (done : List Fields) (is : List Instruction) (f : Fields) (i : Instruction) → Decodes done is → decode f ≡ decoded i
    → ByPaper row (map claim_of is) (claim_of i) → LineByPaper row done f
line_by_paper row done is f i d e b =
    let x : Context = context_of f in
    let own : (claim_of i).context ≡ x = unfold claim_of in ap (λ (j : Instruction). j.context) (read e).same in
    let before = over_claims x 0 d in
    let after = over_claims x 0 (one_more d f e) ∙ ap (paper_words x 0) (map-append claim_of is (i ∷ [])) in
    record { words = rw (after, ← own) b.words; gas = rw (before, after, ← own) b.gas }

-- line k of lines that are instructions: its own instruction, and those of the lines before it
record Line (fs : List Fields) (is : List Instruction) (k : ℕ) (f : Fields) : Type 0 where
  own : Instruction
  decodes : decode f ≡ decoded own
  before : Decodes (take k fs) (take k is)
  claim : (c : Claim) → get_or (map claim_of is) k c ≡ claim_of own
  done : take k (map claim_of is) ≡ map claim_of (take k is)
  inside : k < length (map claim_of is)

line : {fs : List Fields} {is : List Instruction} → Decodes fs is → (k : ℕ) (f : Fields) → k < length fs → Line fs is k (get_or fs k f)
line none k f h = absurd (not-suc-le-zero h)
line (more {i = i} e d) zero f h = record { own = i; decodes = e; before = none; claim = λ c. refl; done = refl; inside = suc-le-suc zero-le }
line (more {i = i} e d) (suc k) f h =
    let r = line d k f (le_of_suc-le-suc h) in
    record {
      own = r.own;
      decodes = r.decodes;
      before = more e r.before;
      claim = r.claim;
      done = ap (◌∷◌ (claim_of i)) r.done;
      inside = suc-le-suc r.inside;
    }

-- in a trace of the claims of a list, each row of each instruction has the words and the gas of the Paper over the lines up to its own
pub lines_by_paper : (fs : List Fields) (is : List Instruction) → Decodes fs is → (l : List ℕ) (n : ℕ) → Carries n (map claim_of is) l
    → (k : ℕ) (f : Fields) → k < length fs → (j : ℕ) → j ≤ last_of (instruction_claim l (suc k))
    → LineByPaper (row_at l ((instruction (rows_of l) (suc k)).first + j)) (take k fs) (get_or fs k f)
lines_by_paper fs is d l n c k f h j m =
    let r = line d k f h in
    let there : k < length (claims_in l) = rw c.claims r.inside in
    let own : instruction_claim l (suc k) ≡ claim_of r.own = rw (c.claims, r.claim) at (claim_is l c.accepted k there (claim_of r.own)) in
    let done = ap (take k) c.claims ∙ r.done in
    line_by_paper _ (take k fs) (take k is) (get_or fs k f) r.own r.before r.decodes
    (rw (← done, ← own) (by-paper l c.accepted k there j m))
