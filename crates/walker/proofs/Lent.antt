-- A value in a local that is lent by `&mut` for a lifetime of one call, where the callee's signature says that another lifetime κ outlives it: the
-- new lifetime is a ∷ κ, an atom of the walk's own within κ.
-- Of κ's token one half goes into the new lifetime's, and the other stays beside it.
use Prim.Native.Nat.{ℕ}
use mathlib.Core.List.{[], ◌∷◌}
use seplogic.Ra.Ura.{Ura}
use base.Share
use mir.Syntax.{Lifetime}
use mir.Val.{vptr}
use base.Logic.{SProp, ent, sep, ex}
use base.Fml.{Lft, GName, Share, flft, fdead, fres, flent}
use borrow.Within.Token.{Rest, within_token, within_end}
use types.Logic.{Logic, sem}
use types.Kit.{‵, raw, ◌⊛◌, some, later, ◌$◌, ◌∵◌, !, qed, move, use1, use2, use3, split, pick, await, updating, now as at_once, show, done}
use types.SemTy.{Body}
use types.Tokens.{lft_new}
use denote.RattleType.{RattleType}
use denote.Memory.{mem}
use denote.Ref.{MutRef}
use denote.Lend.{lends_ref, ref_back}

module _ {M : Type 1} {𝓤 : Ura M} (𝓛 : Logic 𝓤) (R : RattleType) (κ : Lft) (q : Share) (b o : ℕ) where
  -- what the lender keeps while the value is lent under γ: its part of the borrow, and the way back to a's whole token
  open 𝓛 use {H, A}

  abbrev pub Kept : ℕ → GName → SProp 𝓤
  Kept a γ = sep 𝓤 (A.lent (a ∷ κ) (Body (mem R) b o γ)) (Rest 𝓛 a (Share.left q))

  -- the reference, the tokens of both lifetimes, and what the lender keeps
  abbrev pub Lent : Lifetime → R.Denot → ℕ → GName → SProp 𝓤
  Lent ℓ h a γ = sep 𝓤 (sem 𝓛 ((MutRef ℓ (a ∷ κ) R).own_val (record { ref_ptr = (b, o); ghost_name = γ; now = h }) (vptr b o ∷ [])))
      (sep 𝓤 (A.lft (a ∷ κ) (Share.left q)) (sep 𝓤 (A.lft κ (Share.right q)) (Kept a γ)))

  pub lends_within : (ℓ : Lifetime) (h : R.Denot) → ent 𝓤 (sep 𝓤 (sem 𝓛 ((mem R).own_at h b o)) (A.lft κ q))
      (H.⇛ (ex 𝓤 (λ (a : ℕ). ex 𝓤 (Lent ℓ h a))))
  lends_within ℓ h =
      qed 𝓛 (‵ ((mem R).own_at h b o) ∷ ‵ (flft κ q) ∷ []) ∵ updating ! $ move ! (1 ∷ []) $
      use1 𝓛 (‵ (flft κ (Share.left q)) ⊛ ‵ (flft κ (Share.right q))) (𝓛.lfts.lft_split κ q) $ split ! $
      lft_new ! tt (λ a. use2 𝓛 (‵ (flft (a ∷ κ) (Share.left q)) ⊛ raw (Rest 𝓛 a (Share.left q)))
      (within_token 𝓛 a κ (Share.left q)) $ split ! $
      -- [the new token; the way back; κ's other half; the value]
      move ! (3 ∷ []) $ use1 𝓛 (later (some (λ (γ : GName). ‵ ((MutRef ℓ (a ∷ κ) R).own_val (record { ref_ptr = (b, o); ghost_name = γ; now = h }) (vptr b o ∷ [])) ⊛
      ‵ (flent (a ∷ κ) (Body (mem R) b o γ))))) (lends_ref 𝓛 R ℓ (a ∷ κ) h b o) $
      await ! tt $ pick ! (λ γ. split ! $ at_once ! $ show ! (λ (a' : ℕ). ex 𝓤 (Lent ℓ h a')) a $ show ! (Lent ℓ h a) γ $
      move ! (0 ∷ 2 ∷ 4 ∷ 1 ∷ 3 ∷ []) $ done !))

  pub back_within : (a : ℕ) (γ : GName) (h : R.Denot)
      → ent 𝓤 (sep 𝓤 (A.lft (a ∷ κ) (Share.left q)) (sep 𝓤 (A.lft κ (Share.right q)) (sep 𝓤 (Kept a γ) (A.res γ (R.coded.code h)))))
      (H.⇛ (sep 𝓤 (sem 𝓛 ((mem R).own_at h b o)) (A.lft κ q)))
  back_within a γ h =
      qed 𝓛 (‵ (flft (a ∷ κ) (Share.left q)) ∷ ‵ (flft κ (Share.right q)) ∷
      (‵ (flent (a ∷ κ) (Body (mem R) b o γ)) ⊛ raw (Rest 𝓛 a (Share.left q))) ∷ ‵ (fres γ (R.coded.code h)) ∷ []) ∵ updating ! $
      move ! (2 ∷ []) $ split ! $ move ! (2 ∷ 1 ∷ []) $ use2 𝓛 (later (‵ (fdead (a ∷ κ)) ⊛ ‵ (flft κ (Share.left q))))
      (within_end 𝓛 a κ (Share.left q)) $ await ! tt $ split ! $
      -- [a ∷ κ is dead; κ's half; the lender's part; κ's other half; the last value]
      move ! (1 ∷ 3 ∷ []) $ use2 𝓛 (‵ (flft κ q)) (𝓛.lfts.lft_join κ q) $ move ! (1 ∷ 2 ∷ 3 ∷ []) $
      use3 𝓛 (later (‵ ((mem R).own_at h b o))) (ref_back 𝓛 R (a ∷ κ) γ h b o) $ await ! tt $ at_once ! $ done !
