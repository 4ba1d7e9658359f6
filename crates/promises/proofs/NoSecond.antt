-- What "no second answer fits" says of a contract, and the laws by which it holds of each that is made of equations.
use mathlib.Core.Path.{◌≡◌, sym, ◌∙◌, ap}
use denote.Bor.{Bor}
use denote.Ref.{MutBor, at_last}

-- ---- what a call sees of its parameters

-- `seen` is the input that the parameters hold: of a reference what it refers to, and not the reference. `put` puts an input into parameters; the laws
-- below use it, no statement does.
pub record Sight (A I : Type 0) : Type 0 where
  pub seen : A → I
  pub put : A → I → A

-- what comes is plain values alone: they are seen as they are
abbrev pub given : {A : Type 0} → Sight A A
given = record { seen = λ a. a; put = λ a i. i }

module _ {X B I : Type 0} (rest : Sight B I) where
  -- a plain value, then the rest
  abbrev pub value : Sight (X × B) (X × I)
  value = record { seen = λ a. (a.0, rest.seen a.1); put = λ a i. (i.0, rest.put a.1 i.1) }

  -- a reference, then the rest
  abbrev pub ref : Sight (MutBor X × B) (X × I)
  ref = record { seen = λ a. (a.0.now, rest.seen a.1); put = λ a i. (at_last a.0 i.0, rest.put a.1 i.1) }

  -- a shared reference, then the rest
  abbrev pub shared : Sight (Bor X × B) (X × I)
  shared = record { seen = λ a. (a.0.now, rest.seen a.1); put = λ a i. (record a.0 { now = i.0 }, rest.put a.1 i.1) }

  -- a reference to what is lent for the answer alone: what it held before is not seen
  abbrev pub unseen : Sight (MutBor X × B) I
  unseen = record { seen = λ a. rest.seen a.1; put = λ a i. (a.0, rest.put a.1 i) }

-- ---- what it tells

-- its answer
abbrev pub answer : {R E : Type 0} → R → E → R
answer v e = v

-- its answer as a definition reads it
abbrev pub by : {R O E : Type 0} → (R → O) → R → E → O
by f v e = f v

-- the final contents of a parameter, by its place
abbrev pub first : {R X E : Type 0} → R → MutBor X × E → X
first v e = e.0.now

abbrev pub second : {R X Y E : Type 0} → R → Y × (MutBor X × E) → X
second v e = e.1.0.now

abbrev pub third : {R X Y Z E : Type 0} → R → Y × (Z × (MutBor X × E)) → X
third v e = e.1.1.0.now

abbrev pub fourth : {R X Y Z W E : Type 0} → R → Y × (Z × (W × (MutBor X × E))) → X
fourth v e = e.1.1.1.0.now

-- two of these
abbrev pub both : {R E O P : Type 0} → (R → E → O) → (R → E → P) → R → E → O × P
both f g v e = (f v e, g v e)

-- ---- the statement

-- A contract `Post` speaks of what a call is given (`A`), its result (`R`) and what it was lent as it leaves it (`E`), at the lifetimes (`K`) of
-- the references among them. Two calls, each with references of its own: if they see the same input, and each answer meets the contract, both tell the same.
pub record NoSecond {K A R E I O : Type 0} (Post : K → A → R → E → Type 0) (sight : Sight A I) (told : R → E → O) : Type 0 where
  pub same_told : (κ μ : K) (a b : A) (v w : R) (e f : E) → sight.seen a ≡ sight.seen b → Post κ a v e → Post μ b w f → told v e ≡ told w f

-- ---- the laws

module _ {K A R E I O : Type 0} {Post : K → A → R → E → Type 0} {sight : Sight A I} {told : R → E → O} where
  -- a contract by which what is told is a function of the parameters, and that function asks for nothing but what is seen
  pub no_second : (F : A → O) → ((κ : K) (a : A) (v : R) (e : E) → Post κ a v e → told v e ≡ F a)
      → ((a b : A) → F (sight.put a (sight.seen b)) ≡ F b) → NoSecond Post sight told
  no_second F tells sees = record {
    same_told = λ κ μ a b v w e f same p q.
        tells κ a v e p ∙ sym (sees a a) ∙ ap (λ i. F (sight.put a i)) same ∙ sees a b ∙ sym (tells μ b w f q);
  }

module _ {K A R E I O : Type 0} {sight : Sight A I} {F : A → O} {told : R → E → O} where
  -- a contract that is the equation itself
  pub equation : ((a b : A) → F (sight.put a (sight.seen b)) ≡ F b) → NoSecond {K = K} (λ κ a v e. told v e ≡ F a) sight told
  equation sees = no_second F (λ κ a v e p. p) sees
