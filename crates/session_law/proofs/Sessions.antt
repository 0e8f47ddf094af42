-- A session over arenas is a session at the tenants that they stand for.
use Rattle.std.proofs.Common.{◌≡◌, ℕ, Bool, true, false, List, Option, refl, sym, subst}
use Rattle.std.specs.Prelude.{Result, Ok, Err, IfOk}
use Rattle.job_language.specs.declared.answers.Reply.{Reply}
use Rattle.nested_wait.specs.Runs.{Attends}
use Rattle.nested_wait.specs.Turns.{Turn}
use Rattle.session_core.specs.Replies.{Replies}
use Rattle.session_core.specs.Sessions.{Serves}
use Rattle.session_core.specs.declared.serving.SessionEnd.{SessionEnd}
use Rattle.session_law.specs.Tenants.{Tenants, FindsTenant, BindsTenant, AsksTenant, WaitsForJob, AttendsSlot}
use Rattle.session_law.specs.Doors.{AreAt, Sees, Commits, Advances, IsAsHigh, Pauses, Finds, Binds, Asks, Waits}
use Rattle.session_law.specs.Sessions.{RepliesBy, ServesTenants}
use Rattle.session_law.specs.declared.doors.ArenaDoors.{ArenaDoors}
use Rattle.session_law.proofs.Attending.{attends_at}
use Rattle.session_law.proofs.Simulating.{Both, replies, serves_beside}

abbrev pub RepliesAt : (text : List ℕ) → Bool × ArenaDoors → Option Reply → Bool × ArenaDoors → Type 0
RepliesAt text s r t = Replies Finds Binds Asks Waits (Attends (Turn Sees Commits Advances) IsAsHigh Pauses 1) text s r t

pub served_at : (d e : ArenaDoors) (ts : Tenants) (bytes left written out : Option (List ℕ)) (how : SessionEnd) → AreAt d ts → Serves RepliesAt bytes left written out (false, d) e how →
    ServesTenants bytes left written out ts e how
served_at d e ts bytes left written out how at is =
    let one = replies AreAt Finds Binds Asks Waits (Attends (Turn Sees Commits Advances) IsAsHigh Pauses 1) FindsTenant BindsTenant AsksTenant WaitsForJob AttendsSlot
    (λ d x name t at finds. finds x at)
    (λ d e x t name u at binds. binds x at)
    (λ d x t name error at binds. absurd (binds x at).1.0)
    (λ d e x q a at asks. asks x at)
    (λ d e x job stops at waits. (x, ((waits.0, refl), subst (λ f. AreAt f x) (sym waits.1) at)))
    (λ d e x how at attends. attends_at d e x how at attends) in
    let all = serves_beside (Both AreAt) RepliesAt RepliesBy one is.0 bytes left written out (false, d) (is.1, e) (false, ts) (refl, at) how is.2 in
    (is.0, all.0.0, all.0.1, (all.1.0, all.1.1.1))

pub if_ok : {X E : Type 0} (P Q : X → Type 0) (r : Result X E) → ((x : X) → P x → Q x) → IfOk r P → IfOk r Q
if_ok P Q (Ok x) f p = f x p
if_ok P Q (Err e) f p = p
