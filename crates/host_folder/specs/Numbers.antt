-- The line of the numbers of a tenant's newest term.
use Rattle.std.specs.Prelude.{◌≡◌, ℕ, ◌+◌, ◌<◌, ◌≤◌, ◌^◌, List, [], ◌∷◌, ◌++◌, Option, Some, IfSome, decimal}
use Rattle.request_reader.specs.Lines.{newline}
use Rattle.term_life.specs.declared.spans.Span.{Span}
use Rattle.term_life.specs.declared.terms.TheConstants.{MOST_JOBS}

abbrev pub space : ℕ
space = 32

abbrev pub span_line : Span → List ℕ
span_line s = decimal s.number ++ (space ∷ (decimal s.base ++ (space ∷ (decimal s.room ++ (newline ∷ [])))))

-- The number of the term has 64 bits, and its jobs have numbers that a job may have.
abbrev pub IsSpanInRange : Span → Type 0
IsSpanInRange s = (s.number < 2 ^ 64) × (s.base + s.room ≤ MOST_JOBS)

-- the numbers whose line it is, if it is the line of some
pub record IsSpanOf (line : List ℕ) (r : Option Span) : Type 0 where
  pub said : IfSome r (λ s. IsSpanInRange s × (span_line s ≡ line))
  pub found : (s : Span) → IsSpanInRange s → span_line s ≡ line → r ≡ Some s
