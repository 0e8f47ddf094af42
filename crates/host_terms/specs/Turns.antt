-- Which tenant's term a worker comes to.
use Rattle.std.specs.Prelude.{ℕ, ◌≡◌}
use Rattle.job_language.specs.declared.tenants.Level.{Level}
use Rattle.job_language.specs.declared.tenants.Level.TheVariants.{High, Normal, Low}
use Rattle.host_terms.specs.declared.roster.Roster.{Roster}
use Rattle.term_life.specs.Turns.{IsNext}

-- the tenant that had the last turn at a level
abbrev pub last_at : {J : Type 0} → Level → Roster J → ℕ
last_at High r = r.high
last_at Normal r = r.normal
last_at Low r = r.low

-- Of the tenants that were seen to wait at a level it is the next one's turn, who has had the last one from then on.
pub record HasTurn {J : Type 0} (level : Level) (tenant : ℕ) (old new : Roster J) : Type 0 where
  pub next : IsNext new.waits.items (last_at level old) tenant
  pub noted : last_at level new ≡ tenant
