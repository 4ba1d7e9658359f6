-- The order of contexts: none is lower than itself, and what is lower than a lower one is lower. And contexts that a test tells apart are not the same.
use mathlib.Core.Bool.{Bool, true, false, false≢true}
use mathlib.Core.Path.{◌≡◌, sym, ◌∙◌, ap}
use native.Mathlib.Omega.{arith}
use borrow.Author.Tests.{ltb-true, lt-ltb, le-ltb, ne_eqb}
use Prim.Native.Nat.{ℕ}
use Rattle.model.specs.State.{Context, same_context}
use Rattle.state.specs.Order.{lower_context}

pub lower_self : (x : Context) → lower_context x x ≡ false
unfolding lower_context
lower_self x = le-ltb x.cn x.cn (omega arith)

pub lower_trans : (x y z : Context) → lower_context x y ≡ true → lower_context y z ≡ true → lower_context x z ≡ true
unfolding lower_context
lower_trans x y z p q = lt-ltb x.cn z.cn (omega (arith, ltb-true x.cn y.cn p, ltb-true y.cn z.cn q))

-- where a test passes for y and not for x, they are two
pub told-apart : (test : Context → Bool) (x y : Context) → test x ≡ false → test y ≡ true → same_context x y ≡ false
unfolding same_context
told-apart test x y f t =
    ne_eqb x.cn y.cn (λ e. false≢true (sym f ∙ ap (λ (cn : ℕ). test (record { cn = cn })) e ∙ t))
