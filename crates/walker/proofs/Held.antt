-- What a walker owns: of its trace, and nothing of its next row but that it is a number. It is made, taken apart, put into memory and taken out of
-- it.
use Prim.Native.Nat.{ℕ, ◌<◌, ◌^◌}
use mathlib.Core.List.{List, [], ◌∷◌}
use mathlib.Core.Path.{◌≡◌}
use seplogic.Ra.Ura.{Ura}
use base.Fraction.{full_share}
use mir.Syntax.{erased}
use mir.Val.{Val, vstruct}
use base.Logic.{ent, sep}
use base.Fml.{Lft, Fml, fsep, fat}
use types.Logic.{Logic, sem}
use types.Kit.{‵, ◌⊛◌, given, ◌$◌, ◌∵◌, !, qed, by, move, keep, use1, split, learn, fsplit, fjoin, fpick, fpack, done}
use denote.RattleType.{RattleType}
use denote.Laws.{Is, shows}
use denote.Memory.{mem, cell_at, part_of}
use denote.Ref.{Bor, NamedLft}
use denote.Struct.At.{get_at, spelled}
use denote.Struct.Declared.{Declared, shape}
use denote.Struct.Laws as LL
use denote.Struct.Rest.{all_own, field_own, rest, own_open, own_out, own_shut}
use denote.Struct.Steps.{spelt}
use denote.Struct.Struct.{Struct}
use denote.Struct.Values.{Values, intos}
use Rattle.walker.specs.declared.Walker.{Walker}
use Rattle.walker.proofs.Called.{SliceOwns, number}
use Rattle.walker.specs.contracts.Walker as T
use Rattle.walker.proofs.Walker.TheLaws as T'

-- of what a struct owns, what its k-th field owns
field_of : {M : Type 1} {𝓤 : Ura M} (𝓛 : Logic 𝓤) (N : Declared) (L : LL.Laws N) (k : ℕ) (vs : Values N.parts)
    (u : Val)
    → ent 𝓤 (sem 𝓛 ((Struct (shape N)).own_val (intos N.parts vs) (u ∷ []))) (sem 𝓛 (field_own N.parts L k (get_at N.parts k vs)))
field_of 𝓛 N L k vs u =
    qed 𝓛 (‵ ((Struct (shape N)).own_val (intos N.parts vs) (u ∷ [])) ∷ []) ∵
    use1 𝓛 (given (u ∷ [] ≡ vstruct (spelled N.parts L vs) ∷ []) (‵ (all_own N.parts L vs))) (own_open 𝓛 N L vs u) $ learn ! (λ _.
    use1 𝓛 (‵ (field_own N.parts L k (get_at N.parts k vs)) ⊛ ‵ (rest N.parts L k vs)) (own_out 𝓛 N.parts L k vs) $ split ! $
    keep ! (0 ∷ []) $ done !)

-- 'a where a body writes no lifetime: in its locals and behind its references
abbrev pub body : Lft → NamedLft
body κ = record { mir = erased; lft = κ }

-- a walker's type
abbrev pub WalkerAt : Lft → RattleType
WalkerAt κ = T.the_row (body κ)

-- what a walker owns at its machine value
abbrev pub WalkerOwns : Lft → Walker → Fml
WalkerOwns κ w = (WalkerAt κ).own_val w (T'.lowered w ∷ [])

module _ {M : Type 1} {𝓤 : Ura M} (𝓛 : Logic 𝓤) (κ : Lft) where
  open 𝓛 use {H}

  abbrev D : Declared
  D = T.the_type (body κ)

  abbrev L : LL.Laws D
  L = T'.the_laws (body κ)

  -- a walker is made of its trace and its next row
  pub walker_made : (s : Bor (List ℕ)) (n : ℕ) → n < 2 ^ 64 → ent 𝓤 (sem 𝓛 (SliceOwns κ s))
      (sem 𝓛 (WalkerOwns κ (record { trace = s; next = n })))
  walker_made s n fits =
      qed 𝓛 (‵ (SliceOwns κ s) ∷ []) ∵ number ! n fits $ move ! (1 ∷ 0 ∷ []) $ fjoin ! $
      by ! (own_shut 𝓛 D L (s, (n, tt)))

  -- its trace is taken out
  pub trace_of : (w : Walker) → ent 𝓤 (sem 𝓛 (WalkerOwns κ w)) (sem 𝓛 (SliceOwns κ w.trace))
  trace_of w = field_of 𝓛 D L 0 (w.trace, (w.next, tt)) (T'.lowered w)

  -- a walker in a local lies in memory, where it can be lent
  pub put_in : (w : Walker) (b : ℕ) → ent 𝓤 (sep 𝓤 (H.at full_share (T'.mir erased) b 0 (T'.lowered w)) (sem 𝓛 (WalkerOwns κ w)))
      (sem 𝓛 ((mem (WalkerAt κ)).own_at w b 0))
  unfolding part_of
  put_in w b =
      qed 𝓛 (‵ (fat full_share (T'.mir erased) b 0 (T'.lowered w)) ∷ ‵ (WalkerOwns κ w) ∷ []) ∵
      use1 𝓛 (‵ (cell_at full_share (WalkerAt κ).mir (T'.lowered w ∷ []) b 0)) (𝓛.laws.at_raw full_share (T'.mir erased) b 0 (T'.lowered w)) $
      fjoin ! $ fpack ! (List Val) (λ us. fsep (cell_at full_share (WalkerAt κ).mir us b 0) ((WalkerAt κ).own_val w us)) (T'.lowered w ∷ []) $ done !

  -- and once it is back, the local holds it
  pub taken_out : (w : Walker) (b : ℕ) → ent 𝓤 (sem 𝓛 ((mem (WalkerAt κ)).own_at w b 0)) (H.at full_share (T'.mir erased) b 0 (T'.lowered w))
  unfolding part_of
  taken_out w b =
      qed 𝓛 (‵ ((mem (WalkerAt κ)).own_at w b 0) ∷ []) ∵ fpick ! (λ vs. fsplit ! $
      spelt ! (WalkerAt κ) (Is (WalkerAt κ)) (shows 𝓛 (WalkerAt κ)) (LL.vals D L) (LL.tells D L) full_share w vs b 0 $
      use1 𝓛 (‵ (fat full_share (T'.mir erased) b 0 (T'.lowered w))) (𝓛.laws.raw_at full_share (T'.mir erased) b 0 (T'.lowered w)) $ keep ! (0 ∷ []) $
      done !)
