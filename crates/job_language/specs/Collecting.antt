-- Which requests wait for the outcome of a job.
use Rattle.std.specs.Prelude.{ℕ, ◌≡◌, ◌⊎◌}
use Rattle.job_language.specs.declared.requests.Request.{Request}
use Rattle.job_language.specs.declared.requests.Request.TheVariants.{Collect, Take}

-- The request collects a job, and may release it.
abbrev pub IsCollect : Request → Type 0
IsCollect request = (job : ℕ) × ((request ≡ Collect job) ⊎ (request ≡ Take job))
