-- How fast the threads at a term's slots get on between two glances, and since when its calls are held back.
use Rattle.std.specs.Prelude.{ℕ, ◌<◌, ◌≤◌, ◌-◌, ◌*◌, Option, Some, None}
use Rattle.term_life.specs.declared.pace.Glance.{Glance}
use Rattle.term_life.specs.declared.pace.Held.{Held}
use Rattle.term_life.specs.declared.pace.TheConstants.{SLOW, THICK}

-- in half microseconds
abbrev pub took : Glance → Glance → ℕ
took last now = (now.at - last.at) * 2

abbrev pub made : Glance → Glance → ℕ
made last now = now.entries - last.entries

-- the entries were made so fast that the tenant's lock was seldom free
abbrev pub IsQuick : Glance → Glance → Type 0
IsQuick last now = took last now < made last now * SLOW

-- so fast, or as fast as threads that are in each other's way make them
abbrev pub IsThick : Glance → Glance → Type 0
IsThick last now = took last now ≤ made last now * THICK

-- the moment since which a call is held back that is held back now, if others were held back before
abbrev pub since : Option Held → ℕ → ℕ
since (Some held) now = held.since
since None now = now
