use Rattle.std.proofs.Common.{◌≡◌, inl, inr}
use Rattle.job_language.specs.Collecting.{IsCollect}
use Rattle.nested_wait.specs.Runs.{Attends}
use Rattle.nested_wait.specs.Turns.{Turn}
use Rattle.session_core.proofs.Asking.{replies_other}
use Rattle.session_core.proofs.replying.reply_to_request.Goals as goal

pub returns-in_default : goal.returns-in_default
returns-in_default g c =
    let no_collect : IsCollect c.args.request → ⊥ = λ collect. elim collect.1 [
      | inl is ↦ c.in_default.not-Collect collect.0 is
      | inr is ↦ c.in_default.not-Take collect.0 is
    ] in
    record {
      replies = replies_other g.D.Doors.asks g.D.Doors.waits (Attends (Turn g.D.Door.views g.D.Door.commits g.D.Door.advances) g.D.Door.heights g.D.Door.pauses 1) c.args.request c.ask.result
          c.args.doors.now c.ask.new.self (λ job is. c.in_default.not-Execute job is) no_collect c.ask.ensures.answered;
      told = λ is. no_collect (c.ask.ensures.pending is);
    }
