use Rattle.std.proofs.Common.{refl, inl}
use Rattle.job_language.specs.declared.answers.Reply.TheVariants.{Pending}
use Rattle.session_core.specs.Waiting.{collecting}
use Rattle.session_core.proofs.Pending.{gives, pends_more}
use Rattle.session_core.proofs.jobs.collect.Goals as goal

pub returns-then-pause_for-clause-collects : goal.returns-then-pause_for-clause-collects
returns-then-pause_for-clause-collects g c =
    inl (
      c.loop-turn._turn,
      c.loop-turn.doors,
      c.ask.new.self,
      (
        c.loop-turn.invariant,
        gives g.D.Doors.asks g.D.Doors.waits (collecting c.args.releases c.args.job) Pending c.ask.result c.loop-turn.doors c.ask.new.self c.in-Pending.is
            (rw c.collecting.ensures at c.ask.ensures.answered),
        c.if-pause_for.ensures,
      ),
    )

pub returns-in_default : goal.returns-in_default
returns-in_default g c = record {
  collects = (
    c.loop-turn._turn,
    c.loop-turn.doors,
    (
      c.loop-turn.invariant,
      gives g.D.Doors.asks g.D.Doors.waits (collecting c.args.releases c.args.job) c.ask.result.reply c.ask.result c.loop-turn.doors c.ask.new.self refl
          (rw c.collecting.ensures at c.ask.ensures.answered),
      c.in_default.not-Pending,
    ),
  );
  told = c.in_default.not-Pending;
}

pub loop-turn-preserved : goal.loop-turn-preserved
loop-turn-preserved g c =
    let pending = gives g.D.Doors.asks g.D.Doors.waits (collecting c.args.releases c.args.job) Pending c.ask.result c.loop-turn.doors c.ask.new.self c.in-Pending.is
    (rw c.collecting.ensures at c.ask.ensures.answered) in
    pends_more g.D.Doors.asks g.D.Doors.waits c.args.releases c.args.job c.loop-turn._turn c.args.doors.now c.loop-turn.doors c.ask.new.self c.pause_for.new.self c.loop-turn.invariant pending
    c.if-pause_for.ensures
