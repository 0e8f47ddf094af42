-- How rings are counted.
use Rattle.std.specs.Prelude.{ℕ, ◌+◌, ◌==◌, if◌then◌else◌}

-- modulo 2^64
abbrev pub next_ring : ℕ → ℕ
next_ring n = if n == 18446744073709551615 then 0 else n + 1
