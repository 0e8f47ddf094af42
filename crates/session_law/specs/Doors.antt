-- The doors of all arenas, by what the definitions do to the states that these stand for.
use Rattle.std.specs.Prelude.{ℕ, ◌≡◌, ◌<◌, Bool, true, List, length, Option, Some, None, Result, slice_index_or}
use Rattle.job_language.specs.declared.answers.Moved.{Moved}
use Rattle.job_language.specs.declared.answers.Moved.TheVariants as moved
use Rattle.job_language.specs.declared.errors.Error.{Error}
use Rattle.job_language.specs.declared.requests.Request.{Request}
use Rattle.job_step.specs.declared.segments.Top.{Top}
use Rattle.job_step.specs.declared.segments.View.{View}
use Rattle.job_step.specs.declared.segments.View.TheVariants as view
use Rattle.tenant_model.specs.State.{State}
use Rattle.arena_rows.specs.Held.{Held}
use Rattle.arena_core.specs.Stands.{StandsFor}
use Rattle.arena_core.specs.Views.{IsSeen}
use Rattle.arena_core.specs.Views.{Commits as CommitsIn}
use Rattle.session_core.specs.declared.doors.Answered.{Answered}
use Rattle.session_law.specs.Tenants.{Tenants, bound_state, with_state, moved_by, height_in, IsLimited, FindsTenant, BindsTenant, AsksTenant}
use Rattle.session_law.specs.declared.doors.ArenaDoors.{ArenaDoors}

-- Each arena stands for the state of its tenant.
pub record StandForAll (arenas : List Held) (states : List State) : Type 0 where
  pub long : length arenas ≡ length states
  pub each : (n : ℕ) (a : Held) (s : State) → n < length arenas → StandsFor (slice_index_or arenas n a) (slice_index_or states n s)

-- The doors are at these tenants.
pub record AreAt (d : ArenaDoors) (ts : Tenants) : Type 0 where
  pub stand : StandForAll d.arenas.items ts.states
  pub bound : d.tenant ≡ ts.bound
  pub slot : d.slot ≡ ts.slot

-- Where the doors are at some tenants, this happens to the tenants, and the doors are then at what it leads to.
abbrev pub Does : (Tenants → Tenants → Type 0) → ArenaDoors → ArenaDoors → Type 0
Does happens d e = (ts : Tenants) → AreAt d ts → (us : Tenants) × (happens ts us × AreAt e us)

abbrev pub Finds : ArenaDoors → (name : List ℕ) → Option ℕ → Type 0
Finds d name tenant = (ts : Tenants) → AreAt d ts → FindsTenant ts name tenant

abbrev pub Binds : ArenaDoors → (tenant : ℕ) → (name : List ℕ) → Result (Unit {0}) Error → ArenaDoors → Type 0
Binds d tenant name answer e = Does (λ ts us. BindsTenant ts tenant name answer us) d e

abbrev pub Asks : ArenaDoors → Request → Answered → ArenaDoors → Type 0
Asks d request a e = Does (λ ts us. AsksTenant ts request a us) d e

abbrev pub Waits : ArenaDoors → (job : ℕ) → Bool → ArenaDoors → Type 0
Waits d job stops e = (stops ≡ true) × (e ≡ d)

abbrev pub IsSeenIn : (slot : ℕ) → View → Option State → Type 0
IsSeenIn slot seen None = seen ≡ view.Bare
IsSeenIn slot seen (Some s) = IsSeen s slot seen

abbrev pub Sees : ArenaDoors → View → Type 0
Sees d seen = (ts : Tenants) → AreAt d ts → IsSeenIn ts.slot seen (bound_state ts)

-- the height of the stack, whose tenant's history is limited
abbrev pub IsAsHigh : ArenaDoors → ℕ → Type 0
IsAsHigh d h = (ts : Tenants) → AreAt d ts → (h ≡ height_in ts) × IsLimited (bound_state ts)

-- An advance is the definitions' advance.
abbrev pub Moves : Moved → Tenants → Tenants → Type 0
Moves m ts us = (m ≡ (moved_by ts).0) × (us ≡ (moved_by ts).1)

abbrev pub Advances : ArenaDoors → Moved → ArenaDoors → Type 0
Advances d m e = Does (Moves m) d e

-- A commit is an advance too, or stale.
abbrev pub CommitsOf : Top → Moved → (ts us : Tenants) → Option State → Type 0
CommitsOf seen m ts us None = (m ≡ moved.Stale) × (us ≡ ts)
CommitsOf seen m ts us (Some s) = (t : State) × (CommitsIn true s ts.slot seen m t × (us ≡ with_state ts t))

abbrev pub Commits : ArenaDoors → Top → Moved → ArenaDoors → Type 0
Commits d seen m e = Does (λ ts us. CommitsOf seen m ts us (bound_state ts)) d e

-- A pause says to stop, and changes nothing.
abbrev pub Pauses : ArenaDoors → Bool → ArenaDoors → Type 0
Pauses d stops e = (stops ≡ true) × (e ≡ d)
