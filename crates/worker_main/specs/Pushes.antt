-- One thread at the queues: what its pushes and pops lead to.
use Rattle.std.specs.Prelude.{◌≡◌, ◌-◌, ◌^◌, ◌⊎◌, length, Option, Some, None, MatchOption}
use Rattle.market_config.specs.declared.calls.Call.{Call}
use Rattle.market_config.specs.Config.{level_in, room_at}
use Rattle.call_queues.specs.Rule.{with_pushed}
use Rattle.call_queues.specs.Queues.{at, with_at, PassSeen, QueuesSeen, marked, HeldAt, FoundNone, Found}

-- the queues, and the pass of one thread
pub record RingerSeen : Type 0 where
  pub queues : QueuesSeen
  pub pass : PassSeen

-- a pass that pushed a call
abbrev pub pushed : QueuesSeen → Call → PassSeen → PassSeen
pushed queues call pass =
    let level = level_in queues.config call.tenant in
    record pass { logs = with_at pass.logs level (with_pushed (at pass.logs level) (marked pass.number (at pass.logs level) call)) }

-- the call's level was full at one moment, or the pass had made all its pushes there
abbrev pub NoRoom : QueuesSeen → Call → PassSeen → Type 0
NoRoom queues call pass =
    let level = level_in queues.config call.tenant in
    (length (at pass.logs level).pushed ≡ 2 ^ 64 - 1) ⊎ HeldAt pass level (room_at queues.config level)

-- a call is pushed, or there was no room
abbrev pub Pushes : RingerSeen → Call → RingerSeen → Type 0
Pushes s call t = (t ≡ record s { pass = pushed s.queues call s.pass }) ⊎ ((t ≡ s) × NoRoom s.queues call s.pass)

-- the call of a slot that became due, if one did
abbrev pub PushesDue : RingerSeen → Option Call → RingerSeen → Type 0
PushesDue s None t = t ≡ s
PushesDue s (Some call) t = Pushes s call t

-- a call is popped, or none was found
abbrev pub Pops : RingerSeen → Option Call → RingerSeen → Type 0
Pops s popped t =
    (t.queues ≡ s.queues) × (t.pass.queues ≡ s.pass.queues) × (t.pass.number ≡ s.pass.number)
    × MatchOption popped (FoundNone s.pass t.pass.logs) (λ call. Found s.pass t.pass.logs call)
