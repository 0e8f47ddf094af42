-- How long a connection may do nothing.
use Rattle.std.specs.Prelude.{ℕ, ◌+◌, ◌==◌, ◌&&◌, nat_lt, nat_le, Bool, true, false, Option, Some, None, if◌then◌else◌}
use Rattle.term_life.specs.declared.patience.Overdue.{Overdue}
use Rattle.term_life.specs.declared.patience.Overdue.TheVariants.{Hello, Idle}
use Rattle.term_life.specs.declared.patience.Patience.{Patience}
use Rattle.term_life.specs.declared.patience.Seen.{Seen}

-- That long has passed since then; never if it is 0.
abbrev pub is_over : (most since now : ℕ) → Bool
is_over most since now = nat_lt 0 most && nat_le (since + most) now

-- a connection of which so many requests were seen by now
abbrev pub looked : (now asked : ℕ) → Seen → Seen
looked now asked s = if asked == s.asked then s else record s { active = now; asked = asked }

-- What the connection has not done in time: once its hello was answered, a request since it was last active, and before that its hello since it came.
abbrev pub overdue : (is_bound : Bool) → Patience → (now : ℕ) → Seen → Option Overdue
overdue true p now s = if is_over p.idle s.active now then Some Idle else None
overdue false p now s = if is_over p.hello s.came now then Some Hello else None
