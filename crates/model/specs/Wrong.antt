-- Checkers and fillers as functions: the exact ones, and the wrong kinds that document 01 shuts out by name.
use Rattle.std.specs.Prelude.{ℕ, List, [], ◌∷◌, ◌≢◌, ◌≡◌, length}
use Rattle.number.specs.Num.{AllBytes}
use Rattle.model.specs.Cycles.{Claim, Counts}
use Rattle.model.specs.Promises.{WellSized, Fits}
use Rattle.model.specs.Trace.{trace_bytes}
use Rattle.model.specs.Verdict.{Verdict, accepted, verdict}

-- ---- checkers

-- a checker: from bytes to a verdict
abbrev pub Checker : Type 0
Checker = List ℕ → Verdict

-- it answers the verdict of any bytes
abbrev pub ExactChecker : Checker → Type 0
ExactChecker f = (l : List ℕ) → AllBytes l → f l ≡ verdict l

-- it accepts everything of a trace's size
abbrev pub AcceptsAll : Checker → Type 0
AcceptsAll f = (l : List ℕ) → AllBytes l → WellSized l → (c : Counts) × (f l ≡ accepted c)

-- it rejects everything
abbrev pub RejectsAll : Checker → Type 0
RejectsAll f = (l : List ℕ) → AllBytes l → (c : Counts) → f l ≢ accepted c

-- ---- fillers

-- a filler: from a number of empty rows and claims to bytes
abbrev pub Filler : Type 0
Filler = ℕ → List Claim → List ℕ

-- it writes the trace of any claims that fit
abbrev pub ExactFiller : Filler → Type 0
ExactFiller f = (n : ℕ) (cs : List Claim) → Fits n cs → f n cs ≡ trace_bytes n cs

-- it writes nothing
abbrev pub WritesNothing : Filler → Type 0
WritesNothing f = (n : ℕ) (cs : List Claim) → Fits n cs → f n cs ≡ []

-- it writes one fixed trace
abbrev pub WritesFixed : Filler → Type 0
WritesFixed f = (t : List ℕ) × ((n : ℕ) (cs : List Claim) → Fits n cs → f n cs ≡ t)

-- it fills the first cycle and repeats it: of the claims, it looks at the first and at how many others there are
abbrev pub RepeatsFirst : Filler → Type 0
RepeatsFirst f = (g : ℕ → Claim → ℕ → List ℕ) × ((n : ℕ) (c : Claim) (cs : List Claim) → Fits n (c ∷ cs) → f n (c ∷ cs) ≡ g n c (length cs))
