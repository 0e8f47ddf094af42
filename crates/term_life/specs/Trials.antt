-- What is tried again for a while, once it has failed.
use Rattle.std.specs.Prelude.{ℕ, ◌+◌, nat_lt, Option, Some, None, unwrap_or, if◌then◌else◌}
use Rattle.term_life.specs.Spans.{capped}
use Rattle.term_life.specs.declared.trials.Trial.{Trial}

-- until when it is tried again that fails now, for the first time or once more
abbrev pub last_try : (patience now : ℕ) → Trial → ℕ
last_try patience now t = unwrap_or t.until (capped (now + patience))

abbrev pub failed : (patience rest now : ℕ) → Trial → Trial
failed patience rest now t =
    if nat_lt now (last_try patience now t)
    then record t { until = Some (last_try patience now t); rest = capped (now + rest) }
    else t
