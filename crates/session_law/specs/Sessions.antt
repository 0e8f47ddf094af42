-- The text of a session on one thread, by the definitions.
use Rattle.std.specs.Prelude.{ℕ, ◌≡◌, Bool, false, List, Option}
use Rattle.job_language.specs.declared.answers.Reply.{Reply}
use Rattle.tenant_model.specs.State.{State}
use Rattle.request_reader.specs.Reading.{Reading}
use Rattle.session_core.specs.Replies.{Replies}
use Rattle.session_core.specs.Sessions.{ServesTo}
use Rattle.session_core.specs.declared.serving.SessionEnd.{SessionEnd}
use Rattle.session_law.specs.Tenants.{Tenants, FindsTenant, BindsTenant, AsksTenant, WaitsForJob, AttendsSlot}
use Rattle.session_law.specs.Doors.{AreAt}
use Rattle.session_law.specs.declared.doors.ArenaDoors.{ArenaDoors}

-- the reply to a line by the definitions of the tenants' steps, and what it leads to; None if the session stops. A session is whether it is bound, and the tenants
abbrev pub RepliesBy : (text : List ℕ) → Bool × Tenants → Option Reply → Bool × Tenants → Type 0
RepliesBy text s r t = Replies FindsTenant BindsTenant AsksTenant WaitsForJob AttendsSlot text s r t

-- What is written is the text of a session that begins unbound at these tenants, and the doors are then at the tenants that it leads to.
abbrev pub ServesTenants : (bytes left written out : Option (List ℕ)) → Tenants → ArenaDoors → SessionEnd → Type 0
ServesTenants bytes left written out ts new end = (now : Reading) × (is_bound : Bool) × (us : Tenants) × (ServesTo RepliesBy now bytes left written out (false, ts) (is_bound, us) end × AreAt new us)
