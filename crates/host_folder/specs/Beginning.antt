-- Where a tenant's terms and jobs begin, by what is known of earlier ones.
use Rattle.std.specs.Prelude.{ℕ, suc, Option, Some, None}
use Rattle.term_life.specs.declared.spans.Span.{Span}
use Rattle.term_life.specs.Spans.{capped, outside}

-- the number of a term behind the newest one, and 0 without one
abbrev pub number_behind : Option Span → ℕ
number_behind None = 0
number_behind (Some s) = capped (suc s.number)

-- the last number outside that a job of the newest term may have, and 0 without one
abbrev pub job_behind : Option Span → ℕ
job_behind None = 0
job_behind (Some s) = outside s s.room
