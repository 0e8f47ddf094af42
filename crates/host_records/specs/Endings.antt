-- What becomes of the jobs of a term that is closed.
use Rattle.std.specs.Prelude.{ℕ, ◌&&◌, nat_lt, Bool, true, false, Option, Some, None, Result, Ok, Err, length, count_by, if◌then◌else◌}
use Rattle.job_language.specs.declared.tenants.Tenant.{Tenant}
use Rattle.tenant_lock.specs.declared.doors.Closed.{Closed}
use Rattle.tenant_lock.specs.declared.faults.CloseFault.{CloseFault}
use Rattle.host_records.specs.declared.term_ends.TermEnd.{TermEnd}
use Rattle.term_life.specs.Outcomes.{is_running}

-- Did it end without a fault, and has its history room for more?
abbrev pub has_room : Option (Result Closed CloseFault) → Tenant → Bool
has_room (Some (Ok closed)) t = nat_lt (length closed.history.items) t.steps
has_room end t = false

abbrev pub running : TermEnd → ℕ
running e = count_by is_running e.outcomes.items

-- Its journal is to be finished at the host's next start: its history, all of which the journal has, has room for more, its
-- tenant has a slot for workers, and some of its jobs have no outcome.
abbrev pub is_left_over : TermEnd → Bool
is_left_over e = e.is_journaled && (has_room e.end e.tenant && (nat_lt e.tenant.reserved e.tenant.slots && nat_lt 0 (running e)))

-- how many jobs get no outcome
abbrev pub lost : TermEnd → ℕ
lost e = if is_left_over e then 0 else running e

-- how many jobs get their outcome at the host's next start
abbrev pub left_over : TermEnd → ℕ
left_over e = if is_left_over e then running e else 0
