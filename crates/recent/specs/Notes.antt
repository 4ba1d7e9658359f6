-- What is known of the rows before a row: for each remainder of CN the latest row in use with it, and the lowest and the highest context of the rows in
-- use. By them a context's state is found without a look back.
use Rattle.std.specs.Prelude.{ℕ, zero, suc, ◌+◌, ◌*◌, ◌%◌, ◌<◌, ◌≤◌, Bool, true, false, ◌&&◌, ◌||◌, List, ◌≢◌, ◌≡◌, eqb, length, get_or, set, replicate}
use Rattle.model.specs.Columns.{Cells, row_bytes}
use Rattle.model.specs.Constraints.{last_ct, in_use}
use Rattle.model.specs.State.{Context, State, same_context, context_of, state_of, start}
use Rattle.model.specs.Tests.{pick}
use Rattle.state.specs.Look.{look_back}
use Rattle.state.specs.Order.{lower_context}
use Rattle.state.specs.Plain.{context}
use Rattle.recent.specs.declared.Span as code

-- ---- the notes

-- how many entries the notes have
abbrev pub slots : ℕ
slots = 1024

-- the entry of a context
abbrev pub slot_of : Context → ℕ
slot_of x = x.cn % slots

-- the latest row in use before row i whose context has this entry; 0 if there is none, since row 0 is not in use
unfoldable pub latest : (ℕ → Cells) → (slot i : ℕ) → ℕ
latest r slot zero = 0
latest r slot (suc i) = pick (in_use (r i) && eqb (slot_of (context_of (r i))) slot) i (latest r slot i)

-- ---- the span

-- contexts between a lowest and a highest
pub record Span : Type 0 where
  pub lowest : Context
  pub highest : Context

-- the span that the code holds
abbrev pub plain_span : code.Span → Span
plain_span s = record { lowest = context s.lowest; highest = context s.highest }

-- the span of no context: each is outside
abbrev pub no_span : Span
no_span = record { lowest = record { cn = 4294967295 }; highest = record { cn = 0 } }

-- a context outside of a span
unfoldable pub outside : Span → Context → Bool
outside s x = lower_context x s.lowest || lower_context s.highest x

-- the lower of two contexts, and the higher
abbrev pub lower_of : Context → Context → Context
lower_of x y = pick (lower_context x y) x y

abbrev pub higher_of : Context → Context → Context
higher_of x y = pick (lower_context y x) x y

-- the span with one context more
abbrev pub wider : Span → Context → Span
wider s x = record { lowest = lower_of x s.lowest; highest = higher_of x s.highest }

-- ---- both

-- what is known of the rows before a row: the notes, and the span of their contexts
pub record Recent : Type 0 where
  pub notes : List ℕ
  pub span : Span

-- what is known where no row is in use
abbrev pub nothing_noted : Recent
nothing_noted = record { notes = replicate slots 0; span = no_span }

-- what is known with one row more, which has the context
abbrev pub noted : Recent → Context → (row : ℕ) → Recent
noted p x row = record { notes = set p.notes (slot_of x) row; span = wider p.span x }

-- ---- what they say of the rows

-- the list is the notes on the rows before row i, and the contexts of those in use are in the span; row 0 is not in use, and a noted row ends its cycle
pub record Known (l : List ℕ) (s : Span) (r : ℕ → Cells) (i : ℕ) : Type 0 where
  pub size : length l ≡ slots
  pub entry : (slot : ℕ) → slot < slots → get_or l slot 0 ≡ latest r slot i
  pub first : 0 < i → in_use (r 0) ≡ false
  pub ends : (slot : ℕ) → latest r slot i ≢ 0 → (r (latest r slot i)).ct ≡ last_ct (r (latest r slot i)).ooob
  pub inside : (j : ℕ) → j < i → in_use (r j) ≡ true → outside s (context_of (r j)) ≡ false

-- the state that an entry shows for the context: that of a context without an earlier instruction where no row was noted, that which the noted row
-- leaves where the row has the context, and else the given one
abbrev pub shown : (ℕ → Cells) → Context → (entry : ℕ) → State → State
shown r x k s = pick (eqb k 0) start (pick (same_context (context_of (r k)) x) (state_of (r k)) s)

-- each noted row stands in so many bytes
abbrev pub noted_in : (bytes : ℕ) → List ℕ → Type 0
noted_in bytes l = (slot : ℕ) → slot < slots → (get_or l slot 0 + 1) * row_bytes ≤ bytes

-- the look-up's answer from row k on back, over as many cycles as its STAMP says
abbrev pub look_from : (ℕ → Cells) → Context → (k : ℕ) → State
look_from r x k = (look_back r x (r k).stamp (suc k)).state

-- the state of the context by what is known: that of a context without an earlier instruction where the context is outside of the span, and else by the
-- notes; where they show another context's row, that row is the latest of all contexts with the entry, so that the look-up starts there
abbrev pub recalled : (ℕ → Cells) → List ℕ → Span → Context → State
recalled r l s x =
    let k : ℕ = get_or l (slot_of x) 0 in
    pick (outside s x) start (shown r x k (look_from r x k))
