-- A covered function that a walk calls on a lent slice of bytes: what it is passed, and what it returns. The slice is Copy, so what it owns is
-- had twice: one goes to the callee beside the lifetime's token, and one is kept.
use Prim.Native.Nat.{ℕ, ◌<◌, ◌^◌}
use mathlib.Core.List.{List, [], ◌∷◌}
use mathlib.Core.Path.{◌≡◌, refl}
use seplogic.Ra.Ura.{Ura}
use mir.Syntax.{named, w8, w64, copy, place}
use mir.Val.{Val, vint}
use base.Logic.{SProp, ent, sep, ex, emp, id⊢}
use base.Fml.{Lft, Share, Fml, ftrue, flft, fat}
use contract.Monad.{fact}
use prog.Wp.{Env, spot_of}
use types.Logic.{Logic, sem}
use types.Kit.{Goal, Soaks, Seq, Step, step, Item, nth, ‵, raw, ◌⊛◌, some, later, ⋆, ◌$◌, ◌∵◌, !, qed, move, drop, use1, split, join, pick}
use types.Kit.{fjoin, frame, await, done}
use types.Run.{Opd, load, from, stop, look}
use denote.RattleType.{RattleType, Denots, Valss, owns}
use denote.Laws.{Is, shows}
use denote.Plain.{uint_row_laws, uint_Makes}
use denote.Builtin.{u8, usize}
use denote.Ref.{Bor}
use denote.Slice.{ShrSlice, shr_slice_vals, shr_slice_copy}
use denote.Steps.{heard, nothing, owned, peeks}

-- what a slice of bytes lent for κ owns
abbrev pub SliceOwns : Lft → Bor (List ℕ) → Fml
SliceOwns κ s = (ShrSlice (named 0) κ u8).own_val s (shr_slice_vals s)

-- the token of the one lifetime
abbrev pub Token : {M : Type 1} {𝓤 : Ura M} → Lft → Share → Item 𝓤
Token κ q = ‵ (flft κ q) ⊛ ‵ ftrue

module _ {M : Type 1} {𝓤 : Ura M} (𝓛 : Logic 𝓤) (κ : Lft) (q : Share) (s : Bor (List ℕ)) (Rs : List RattleType)
    (xs : Denots Rs) (vss : Valss Rs) where
  -- what a function asks whose first parameter is the slice, and that has no `requires`
  open 𝓛 use {A}

  abbrev pub Asked : SProp 𝓤
  Asked = sep 𝓤 (sep 𝓤 (sep 𝓤 (A.lft κ q) (emp 𝓤)) (sem 𝓛 (owns (ShrSlice (named 0) κ u8 ∷ Rs) (s, xs) (shr_slice_vals s, vss)))) (emp 𝓤)

  pub passes : ent 𝓤 (⋆ 𝓛 (Token κ q ∷ ‵ (SliceOwns κ s) ∷ ‵ (owns Rs xs vss) ∷ [])) (sep 𝓤 Asked (sem 𝓛 (SliceOwns κ s)))
  passes =
      qed 𝓛 (Token κ q ∷ ‵ (SliceOwns κ s) ∷ ‵ (owns Rs xs vss) ∷ []) ∵
      move ! (1 ∷ []) $ use1 𝓛 (‵ (SliceOwns κ s) ⊛ ‵ (SliceOwns κ s)) ((shr_slice_copy 𝓛 (named 0) κ u8 (uint_row_laws w8)).twice s (shr_slice_vals s)) $ split ! $
      move ! (0 ∷ 3 ∷ []) $ fjoin ! $ nothing ! $ move ! (3 ∷ 1 ∷ []) $ join ! $ move ! (0 ∷ 1 ∷ []) $ join ! $ frame ! $ done !

module _ {M : Type 1} {𝓤 : Ura M} {𝓛 : Logic 𝓤} {K : Type 0} {Γ : List (Item 𝓤)} where
  -- an argument that is a whole local, which entry n of the context holds
  open 𝓛 use {H, A}

  pub var : K → {E : Env 𝓤 H} {i : ℕ} (n : ℕ) {q : Share} {v : Val}
      → nth 𝓛 n Γ ≡ ‵ (fat q (spot_of 𝓤 H E i).0 (spot_of 𝓤 H E i).1 (spot_of 𝓤 H E i).2 v) → Opd K 𝓛 Γ E (copy (place i [])) v
  var t n e = load t (from t (stop t)) (look t n e)

  module _ {G : Goal 𝓤 H} where
    -- what a value owns says of it what its type knows, and stays
    pub knows : K → (R : RattleType) (x : R.Denot) (vs : List Val) → (Is R x vs → Seq K 𝓛 (‵ (R.own_val x vs) ∷ Γ) G) → Seq K 𝓛 (‵ (R.own_val x vs) ∷ Γ) G
    knows t R x vs = peeks t R (Is R) (shows 𝓛 R) x vs

    -- a number that is passed owns nothing but that it is one
    pub number : K → (n : ℕ) → n < 2 ^ 64 → Step K 𝓛 (‵ (owns (usize ∷ []) (n, tt) (vint w64 n ∷ [], tt)) ∷ Γ) G Γ G
    number t n fits = step (λ s. nothing t $ owned t usize (Is usize) (uint_Makes 𝓛 w64) n _ (refl, fits) $ fjoin t $ s)

    -- it returned the machine value u: the result r, of which it says φ r, and the token. What it says of last values is dropped: it has no `&mut`.
    pub returned : K → Soaks G → (κ : Lft) (q : Share) (R : RattleType) (u : Val) {X : Type 0} (L : X → Fml) (φ : R.Denot → Type 0)
        → ((r : R.Denot) → φ r → Seq K 𝓛 (‵ (R.own_val r (u ∷ [])) ∷ Token κ q ∷ Γ) G)
        → Seq K 𝓛 (raw (H.⇛ (ex 𝓤 (λ (r : R.Denot). sep 𝓤 (sep 𝓤 (sep 𝓤 (A.lft κ q) (emp 𝓤)) (sem 𝓛 (R.own_val r (u ∷ []))))
        (ex 𝓤 (λ (ws : X). sep 𝓤 (sem 𝓛 (L ws)) (fact 𝓤 (φ r))))))) ∷ Γ) G
    returned t soaks κ q R u L φ k =
        use1 𝓛 (later (some (λ (r : R.Denot). (Token κ q ⊛ ‵ (R.own_val r (u ∷ []))) ⊛ some (λ ws. ‵ (L ws) ⊛ raw (fact 𝓤 (φ r)))))) (id⊢ 𝓤 _) $
        await t soaks $ pick t (λ r.
        split t $ move t (1 ∷ []) $ pick t (λ ws. split t $ drop t $ heard t (φ r) (λ e. split t $ move t (1 ∷ []) $ k r e)))
