-- The numbers of a term's jobs, in the term and outside of it.
use Rattle.std.specs.Prelude.{ℕ, suc, ◌+◌, ◌-◌, ◌&&◌, nat_lt, nat_le, Bool, if◌then◌else◌}
use Rattle.job_language.specs.declared.answers.Reply.{Reply}
use Rattle.job_language.specs.declared.answers.Reply.TheVariants.{Made, Placed, Job, Cancelled, Released}
use Rattle.job_language.specs.declared.requests.Request.{Request}
use Rattle.job_language.specs.declared.requests.Request.TheVariants.{Poll, Collect, Take, Cancel, Release}
use Rattle.term_life.specs.declared.spans.Span.{Span}

-- Is it, outside, the number of one of the term's jobs?
abbrev pub has_job : (job : ℕ) → Span → Bool
has_job job s = nat_lt s.base job && nat_le (job - s.base) s.room

-- the number in the term of a job that has this number outside
abbrev pub inside : Span → (job : ℕ) → ℕ
inside s job = job - s.base

-- the largest number there is, where a number would be larger
abbrev pub capped : ℕ → ℕ
capped n = if nat_lt n 18446744073709551616 then n else 18446744073709551615

-- the number outside of a job that has this number in the term
abbrev pub outside : Span → (job : ℕ) → ℕ
outside s job = capped (s.base + job)

-- what the term is asked
abbrev pub request_inside : Span → Request → Request
request_inside s (Poll job) = Poll (inside s job)
request_inside s (Collect job) = Collect (inside s job)
request_inside s (Take job) = Take (inside s job)
request_inside s (Cancel job) = Cancel (inside s job)
request_inside s (Release job) = Release (inside s job)
request_inside s request = request

-- what is told of the term's reply
abbrev pub reply_outside : Span → Reply → Reply
reply_outside s (Made job) = Made (outside s job)
reply_outside s (Placed job slot) = Placed (outside s job) slot
reply_outside s (Job job status) = Job (outside s job) status
reply_outside s (Cancelled job is_first) = Cancelled (outside s job) is_first
reply_outside s (Released job) = Released (outside s job)
reply_outside s reply = reply
