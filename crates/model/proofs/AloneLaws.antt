-- Words and gas follow from the claims alone, and are the Yellow Paper's.
use Prim.Native.Nat.{ℕ, zero, suc, ◌≤◌, max}
use mathlib.Core.Bool.{Bool, true, false, not, ◌&&◌}
use mathlib.Core.List.{List, [], ◌∷◌, ◌++◌}
use mathlib.Core.Logic.{◌⊎◌, inl, inr, ⊎_elim, ◌↔◌}
use mathlib.Core.Path.{◌≡◌, refl, sym, ◌∙◌, ap}
use native.Mathlib.Nat.{not-le_of_lt, zero-add, zero-max, max-zero}
use native.Mathlib.Omega.{arith}
use borrow.Author.Tests.{eqb-true, ltb-true, ltb-false}
use lib.Dec.{ltb}
use Rattle.number.specs.Whole.{bound}
use Rattle.gas.specs.Gas.{words, cost, range_end}
use Rattle.gas.specs.Paper.{M, C_mem}
use Rattle.gas.proofs.GasLaws.{words_max}
use Rattle.gas.proofs.PaperLaws.{words-paper, cost-paper}
use Rattle.model.specs.Alone.{counted, reached, own_claims, paper_words, row_after, Alone, ByPaper, SameCharge}
use Rattle.model.specs.Columns.{Cells}
use Rattle.model.specs.Cycles.{Claim}
use Rattle.model.specs.State.{Context, State, same_context, fresh, put}
use Rattle.model.specs.Tests.{pick, bit}
use Rattle.model.specs.Trace.{in_bounds, top, reach, after, after_claim, after_claims}
use Rattle.model.proofs.JoinLaws.{after_snoc}
use Rattle.model.proofs.ReadBack.{is_row}
use Rattle.model.proofs.StateLaws.{AllSound, paid_more, all_sound_fresh, all_sound_after}
use Rattle.model.proofs.TestFacts.{eqb_self}

-- ---- what claims reach

reached-append : (x : Context) (cs ds : List Claim) → reached x (cs ++ ds) ≡ max (reached x cs) (reached x ds)
unfolding reached
reached-append x [] ds = omega arith
reached-append x (c ∷ cs) ds = omega (arith, reached-append x cs ds)

-- only the in-bounds claims of the context matter
pub reached_own : (x : Context) (cs : List Claim) → reached x cs ≡ reached x (own_claims x cs)
unfolding reached own_claims
reached_own x [] = refl
reached_own x (c ∷ cs) = go (counted x c) refl (reached_own x cs)
  where
    go : (t : Bool) → counted x c ≡ t → reached x cs ≡ reached x (own_claims x cs)
        → max (pick t (top c) 0) (reached x cs) ≡ reached x (pick t (c ∷ own_claims x cs) (own_claims x cs))
    go true e ih = rw e (ap (max (top c)) ih)
    go false e ih = zero-max (reached x cs) ∙ ih

-- ---- the state that claims leave

same_context_lem : (x y : Context) → same_context x y ≡ true → x ≡ y
unfolding same_context
same_context_lem x y e = λ i. record { cn = eqb-true x.cn y.cn e i }

mem_after : (s : State) (c : Claim) → (after s c).mem ≡ max s.mem (pick (in_bounds c) (top c) 0)
unfolding after reach
mem_after s c = go (in_bounds c) (ltb s.mem (top c)) refl
  where
    go : (t u : Bool) → ltb s.mem (top c) ≡ u → (reach (t && u) (top c) s).mem ≡ max s.mem (pick t (top c) 0)
    go true true e = omega (arith, ltb-true s.mem (top c) e)
    go true false e = omega (arith, ltb-false s.mem (top c) e)
    go false u e = omega arith

mem_claim : (states : Context → State) (c : Claim) (x : Context) → (after_claim states c x).mem ≡ max (states x).mem (pick (counted x c) (top c) 0)
unfolding put counted
mem_claim states c x = go (same_context c.context x) refl
  where
    go : (t : Bool) → same_context c.context x ≡ t
        → (pick t (after (states c.context) c) (states x)).mem ≡ max (states x).mem (pick (t && in_bounds c) (top c) 0)
    go true e = rw (← same_context_lem c.context x e) (mem_after (states c.context) c)
    go false e = omega arith

mem_claims : (states : Context → State) (cs : List Claim) (x : Context) → (after_claims states cs x).mem ≡ max (states x).mem (reached x cs)
unfolding after_claims reached
mem_claims states [] x = omega arith
mem_claims states (c ∷ cs) x = omega (arith, mem_claims (after_claim states c) cs x, mem_claim states c x)

-- claims leave every context with a sound state
pub all_sound_claims : (states : Context → State) (cs : List Claim) → AllSound states → AllSound (after_claims states cs)
unfolding after_claims
all_sound_claims states [] k = k
all_sound_claims states (c ∷ cs) k = all_sound_claims (after_claim states c) cs (all_sound_after states c k)

-- the state after claims is their greatest end and its cost
pub after-reached : (cs : List Claim) (x : Context) → after_claims fresh cs x ≡ record { mem = reached x cs; cost = cost (words (reached x cs)) }
after-reached cs x =
    let e : (after_claims fresh cs x).mem ≡ reached x cs = mem_claims fresh cs x ∙ zero-max (reached x cs) in
    let s = all_sound_claims fresh cs all_sound_fresh x in
    λ i. record { mem = e i; cost = (s.cost ∙ ap (λ (n : ℕ). cost (words n)) e) i }

-- ---- one claim more

same_self : (x : Context) → same_context x x ≡ true
unfolding same_context
same_self x = eqb_self x.cn

reached_with : (done : List Claim) (c : Claim)
    → reached c.context (done ++ (c ∷ [])) ≡ max (reached c.context done) (pick (in_bounds c) (top c) 0)
unfolding reached counted
reached_with done c = rw (reached-append c.context done (c ∷ []), same_self c.context, max-zero)

after_with : (done : List Claim) (c : Claim) → after (after_claims fresh done c.context) c
    ≡ record { mem = reached c.context (done ++ (c ∷ [])); cost = cost (words (reached c.context (done ++ (c ∷ [])))) }
unfolding put
after_with done c = rw (after_snoc, same_self c.context) at (after-reached (done ++ (c ∷ [])) c.context)

-- the claim and the earlier in-bounds ones of its context determine mark, words and gas
pub alone_same : (x y : Cells) (done earlier : List Claim) (c : Claim) → Alone x done c → Alone y earlier c
    → own_claims c.context done ≡ own_claims c.context earlier → SameCharge x y
alone_same x y done earlier c a b e =
    let before : reached c.context done ≡ reached c.context earlier =
    reached_own c.context done ∙ ap (reached c.context) e ∙ sym (reached_own c.context earlier) in
    let next : reached c.context (done ++ (c ∷ [])) ≡ reached c.context (earlier ++ (c ∷ [])) =
    omega (arith, reached_with done c, reached_with earlier c) in
    let paid = ap (λ (m : ℕ). cost (words m)) next in
    record {
      mark = a.mark ∙ sym b.mark;
      memn = a.memn ∙ next ∙ sym b.memn;
      costn = a.costn ∙ paid ∙ sym b.costn;
      gas = omega (arith, a.gas, b.gas, paid, ap (λ (m : ℕ). cost (words m)) before);
    }

-- an in-bounds claim reaches its greater end
pub in_reaches : (done : List Claim) (c : Claim) → in_bounds c ≡ true
    → reached c.context (done ++ (c ∷ [])) ≡ max (reached c.context done) (top c)
in_reaches done c e = rw e at (reached_with done c)

-- a claim is marked where one of its ends is not below the bound
pub marks : (c : Claim) → (bit (not (in_bounds c)) ≡ 1) ↔ ((bound ≤ c.end1) ⊎ (bound ≤ c.end2))
unfolding in_bounds
marks c = go (ltb c.end1 bound) (ltb c.end2 bound) refl refl
  where
    go : (t u : Bool) → ltb c.end1 bound ≡ t → ltb c.end2 bound ≡ u → (bit (not (t && u)) ≡ 1) ↔ ((bound ≤ c.end1) ⊎ (bound ≤ c.end2))
    go true true p q =
        let m = ltb-true c.end1 bound p in
        let n = ltb-true c.end2 bound q in
        (λ h. absurd (omega arith), ⊎_elim (λ h. absurd (not-le_of_lt m h)) (λ h. absurd (not-le_of_lt n h)))
    go true false p q = (λ h. inr (ltb-false c.end2 bound q), λ h. refl)
    go false u p q = (λ h. inl (ltb-false c.end1 bound p), λ h. refl)

-- ---- the rows of a claim

module _ (stamp : ℕ) (done : List Claim) (c : Claim) (i : ℕ) where
  -- a row says what the claims alone say
  pub row_alone : Alone (row_after stamp done c i) done c
  row_alone =
      let row = is_row stamp (after_claims fresh done c.context) c i in
      let next = row.state ∙ after_with done c in
      let before = ap (λ (t : State). t.cost) (after-reached done c.context) in
      let cost = ap (λ (t : State). t.cost) (after_with done c) in
      let more : reached c.context done ≤ reached c.context (done ++ (c ∷ [])) = omega (arith, reached_with done c) in
      record {
        mark = row.ooob;
        memn = ap (λ (t : State). t.mem) next;
        costn = ap (λ (t : State). t.cost) next;
        gas = omega (arith, row.gas, before, cost, paid_more more);
      }

  -- an out-of-bounds claim reaches nothing more and costs 0
  pub out_adds_nothing : in_bounds c ≡ false
      → (reached c.context (done ++ (c ∷ [])) ≡ reached c.context done) × ((row_after stamp done c i).gas ≡ 0)
  out_adds_nothing e =
      let same : reached c.context (done ++ (c ∷ [])) ≡ reached c.context done = rw (e, max-zero) at (reached_with done c) in
      (same, omega (arith, row_alone.gas, ap (λ (n : ℕ). cost (words n)) same))

-- ---- the Yellow Paper

-- an end is the range of so many bytes from offset 0
paper_end : (w e : ℕ) → M w 0 e ≡ max w (words e)
unfolding range_end
paper_end w zero = sym (words-paper w 0 0)
paper_end w (suc e) = sym (words-paper w 0 (suc e)) ∙ rw zero-add

paper-claim : (t : Bool) (w a b : ℕ) → pick t (M (M w 0 a) 0 b) w ≡ max w (words (pick t (max a b) 0))
unfolding words
paper-claim true w a b = rw (paper_end (M w 0 a) b, paper_end w a, words_max) (omega arith)
paper-claim false w a b = sym (max-zero w)

paper-from : (cs : List Claim) (x : Context) (w : ℕ) → paper_words x w cs ≡ max w (words (reached x cs))
unfolding paper_words reached words
paper-from [] x w = sym (max-zero w)
paper-from (c ∷ cs) x w = rw (paper-from cs x, paper-claim, words_max) (omega arith)

-- the words of the greatest end are the Paper's active words, and their cost is its C_mem
words_by_paper : (cs : List Claim) (x : Context) → words (reached x cs) ≡ paper_words x 0 cs
words_by_paper cs x = sym (paper-from cs x 0 ∙ zero-max (words (reached x cs)))

cost_by_paper : (cs : List Claim) (x : Context) → cost (words (reached x cs)) ≡ C_mem (paper_words x 0 cs)
cost_by_paper cs x = cost-paper (words (reached x cs)) ∙ ap C_mem (words_by_paper cs x)

-- a row says what the Yellow Paper says
pub row_by_paper : (stamp : ℕ) (done : List Claim) (c : Claim) (i : ℕ) → ByPaper (row_after stamp done c i) done c
row_by_paper stamp done c i =
    let row = row_alone stamp done c i in
    record {
      words = ap words row.memn ∙ words_by_paper (done ++ (c ∷ [])) c.context;
      gas = rw (← cost_by_paper done c.context, ← cost_by_paper (done ++ (c ∷ [])) c.context) row.gas;
    }
