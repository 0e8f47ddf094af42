-- The text of a request in the line of an entry, with what stands after it.
use Rattle.std.specs.Prelude.{ℕ, List, ◌++◌, codes, decimal}
use Rattle.job_language.specs.declared.requests.Request.{Request}
use Rattle.job_language.specs.declared.requests.Request.TheVariants as request
use Rattle.job_json.specs.CanonicalText.{job_then}

-- A hello has none.
abbrev pub request_then : Request → List ℕ → List ℕ
request_then (request.Hello name) rest = rest
request_then (request.Submit job) rest = codes "{\"job\":" ++ job_then job (codes ",\"op\":\"submit\"}" ++ rest)
request_then (request.Execute job) rest = codes "{\"job\":" ++ job_then job (codes ",\"op\":\"execute\"}" ++ rest)
request_then (request.Poll job) rest = codes "{\"job\":" ++ (decimal job ++ (codes ",\"op\":\"poll\"}" ++ rest))
request_then (request.Collect job) rest = codes "{\"job\":" ++ (decimal job ++ (codes ",\"op\":\"collect\"}" ++ rest))
request_then (request.Cancel job) rest = codes "{\"job\":" ++ (decimal job ++ (codes ",\"op\":\"cancel\"}" ++ rest))
request_then (request.Cells key) rest = codes "{\"key\":" ++ (decimal key ++ (codes ",\"op\":\"cells\"}" ++ rest))
request_then request.Arena rest = codes "{\"op\":\"arena\"}" ++ rest
request_then request.Retire rest = codes "{\"op\":\"retire\"}" ++ rest
request_then (request.Release job) rest = codes "{\"job\":" ++ (decimal job ++ (codes ",\"op\":\"release\"}" ++ rest))
request_then (request.Take job) rest = codes "{\"job\":" ++ (decimal job ++ (codes ",\"op\":\"collect\",\"release\":true}" ++ rest))
