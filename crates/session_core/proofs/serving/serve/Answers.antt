use Rattle.std.proofs.Common.{false, sym, ◌∙◌, refl, subst}
use Rattle.nested_wait.specs.Runs.{Attends}
use Rattle.nested_wait.specs.Turns.{Turn}
use Rattle.session_core.specs.Replies.{Replies}
use Rattle.session_core.specs.declared.serving.SessionEnd.TheVariants.{Ended, ReadFault, TurnLimit}
use Rattle.request_reader.specs.Calls.{AreCalls}
use Rattle.request_reader.specs.declared.turns.TheConstants.{MAX_TURNS}
use Rattle.session_core.specs.Sessions.{HasCause}
use Rattle.session_core.specs.declared.serving.SessionEnd.{SessionEnd}
use Rattle.request_reader.proofs.Calling.{no_calls, calls_then}
use Rattle.session_core.proofs.Causes.{cause_of_answer}
use Rattle.session_core.proofs.Growing.{same_end, starts, line_goes_on, long_goes_on, line_ends, long_ends, ends_read, ends_fault, ends_limit}
use Rattle.session_core.proofs.serving.serve.Goals.{in-Line, in-TooLong, in-End, in-ReadFault, in-TurnLimit}
use Rattle.session_core.proofs.serving.serve.Goals as goal

pub loop-lines-init : goal.loop-lines-init
loop-lines-init g c =
    let replies = Replies g.D.Doors.finds g.D.Doors.binds g.D.Doors.asks g.D.Doors.waits (Attends (Turn g.D.Door.views g.D.Door.commits g.D.Door.advances) g.D.Door.heights g.D.Door.pauses 1) in
    rw c.in_ok-lines.ensures (record {
      calls = no_calls g.R.Source.called _ _ _ _ refl refl;
      served = starts replies (g.R.Read.remaining c.args.reader.now) (g.W.Write.contents c.args.writer.now) (false, c.args.doors.now);
    })

pub returns-in-Err-clause-serves : goal.returns-in-Err-clause-serves
returns-in-Err-clause-serves g c =
    let replies = Replies g.D.Doors.finds g.D.Doors.binds g.D.Doors.asks g.D.Doors.waits (Attends (Turn g.D.Door.views g.D.Door.commits g.D.Door.advances) g.D.Door.heights g.D.Door.pauses 1) in
    let l = c.loop-lines in
    elim c.match-read_line.branch [
      | in-Line w ↦
          let h = rw w.line.ensures at w.answer-answered.ensures.answers in (
            c.read_line.new.self,
            w.answer-answered.new.is_bound,
            rw (w.writer-is, w.doors-is) (line_ends replies l.lines c.read_line.new.self (g.R.Read.remaining c.args.reader.now) (g.R.Read.remaining l.reader)
                (g.R.Read.remaining c.read_line.new.reader) (g.W.Write.contents c.args.writer.now) (g.W.Write.contents l.writer) (false, c.args.doors.now) (l.is_bound, l.doors) l.invariant.served
                c.read_line.new.self.line (w.answer-answered.new.is_bound, w.answer-answered.new.doors) (g.W.Write.contents w.answer-answered.new.writer) w.answer-answered.result c.in-Err.end
                (sym w.answered-is ∙ c.in-Err.is) w.in-Line.ensures.reads h),
          )
      | in-TooLong w ↦ (
        c.read_line.new.self,
        l.is_bound,
        rw (w.writer-is, w.doors-is) (long_ends replies l.lines c.read_line.new.self (g.R.Read.remaining c.args.reader.now) (g.R.Read.remaining l.reader) (g.R.Read.remaining c.read_line.new.reader)
            (g.W.Write.contents c.args.writer.now) (g.W.Write.contents l.writer) (false, c.args.doors.now) (l.is_bound, l.doors) l.invariant.served (g.W.Write.contents w.refuse-answered.new.writer)
            w.refuse-answered.result c.in-Err.end (sym w.answered-is ∙ c.in-Err.is) w.in-TooLong.ensures.reads w.refuse-answered.ensures.refuses),
      )
      | in-End w ↦ (
        c.read_line.new.self,
        l.is_bound,
        rw (w.writer-is, w.doors-is) (ends_read replies l.lines c.read_line.new.self (g.R.Read.remaining c.args.reader.now) (g.R.Read.remaining l.reader) (g.R.Read.remaining c.read_line.new.reader)
            (g.W.Write.contents c.args.writer.now) (g.W.Write.contents l.writer) (false, c.args.doors.now) (l.is_bound, l.doors) l.invariant.served c.in-Err.end
            (same_end c.match-read_line.answered Ended c.in-Err.end w.answered-is c.in-Err.is) w.in-End.ensures.reads w.in-End.ensures.comes_to),
      )
      | in-ReadFault w ↦ (
        c.read_line.new.self,
        l.is_bound,
        rw (w.writer-is, w.doors-is) (ends_fault replies l.lines c.read_line.new.self (g.R.Read.remaining c.args.reader.now) (g.R.Read.remaining l.reader) (g.R.Read.remaining c.read_line.new.reader)
            (g.W.Write.contents c.args.writer.now) (g.W.Write.contents l.writer) (false, c.args.doors.now) (l.is_bound, l.doors) l.invariant.served c.in-Err.end
            (same_end c.match-read_line.answered ReadFault c.in-Err.end w.answered-is c.in-Err.is) w.in-ReadFault.ensures.reads w.in-ReadFault.ensures.comes_to.0 w.in-ReadFault.ensures.comes_to.1),
      )
      | in-TurnLimit w ↦ (
        c.read_line.new.self,
        l.is_bound,
        rw (w.writer-is, w.doors-is) (ends_limit replies l.lines c.read_line.new.self (g.R.Read.remaining c.args.reader.now) (g.R.Read.remaining l.reader) (g.R.Read.remaining c.read_line.new.reader)
            (g.W.Write.contents c.args.writer.now) (g.W.Write.contents l.writer) (false, c.args.doors.now) (l.is_bound, l.doors) l.invariant.served c.in-Err.end
            (same_end c.match-read_line.answered TurnLimit c.in-Err.end w.answered-is c.in-Err.is) w.in-TurnLimit.ensures.reads w.in-TurnLimit.ensures.comes_to.0 w.in-TurnLimit.ensures.comes_to.1),
      )
    ]

pub loop-lines-preserved : goal.loop-lines-preserved
loop-lines-preserved g c =
    let replies = Replies g.D.Doors.finds g.D.Doors.binds g.D.Doors.asks g.D.Doors.waits (Attends (Turn g.D.Door.views g.D.Door.commits g.D.Door.advances) g.D.Door.heights g.D.Door.pauses 1) in
    let l = c.loop-lines in
    record {
      calls = calls_then g.R.Source.called _ _ _ _ _ _ l.invariant.calls c.read_line.ensures.calls;
      served = elim c.match-read_line.branch [
        | in-Line w ↦
            let h = rw w.line.ensures at w.answer-answered.ensures.answers in
            rw (w.writer-is, w.doors-is, w.is_bound-is)
            (line_goes_on replies l.lines c.read_line.new.self (g.R.Read.remaining c.args.reader.now) (g.R.Read.remaining l.reader) (g.R.Read.remaining c.read_line.new.reader)
            (g.W.Write.contents c.args.writer.now) (g.W.Write.contents l.writer) (false, c.args.doors.now) (l.is_bound, l.doors) l.invariant.served c.read_line.new.self.line
            (w.answer-answered.new.is_bound, w.answer-answered.new.doors) (g.W.Write.contents w.answer-answered.new.writer) w.answer-answered.result
            (λ end is. c.in_default.not-Err end (w.answered-is ∙ is)) w.in-Line.ensures.reads h)
        | in-TooLong w ↦ rw (w.writer-is, w.doors-is, w.is_bound-is)
            (long_goes_on replies l.lines c.read_line.new.self (g.R.Read.remaining c.args.reader.now) (g.R.Read.remaining l.reader) (g.R.Read.remaining c.read_line.new.reader)
            (g.W.Write.contents c.args.writer.now) (g.W.Write.contents l.writer) (false, c.args.doors.now) (l.is_bound, l.doors) l.invariant.served (g.W.Write.contents w.refuse-answered.new.writer)
            w.refuse-answered.result (λ end is. c.in_default.not-Err end (w.answered-is ∙ is)) w.in-TooLong.ensures.reads w.refuse-answered.ensures.refuses)
        | in-End w ↦ absurd (c.in_default.not-Err Ended w.answered-is)
        | in-ReadFault w ↦ absurd (c.in_default.not-Err ReadFault w.answered-is)
        | in-TurnLimit w ↦ absurd (c.in_default.not-Err TurnLimit w.answered-is)
      ];
    }

pub returns-in-Err-clause-cause : goal.returns-in-Err-clause-cause
returns-in-Err-clause-cause g c =
    let l = c.loop-lines in
    let Spent = AreCalls g.R.Source.called MAX_TURNS 0 c.args.reader.now c.read_line.new.reader in
    let cause_at = λ (end : SessionEnd). HasCause (g.R.Source.failed c.read_line.new.reader) Spent (g.W.Sink.failed c.match-read_line.writer) end in
    elim c.match-read_line.branch [
      | in-Line w ↦ rw w.writer-is (cause_of_answer _ _ _ _ _ (sym w.answered-is ∙ c.in-Err.is) w.answer-answered.ensures.cause)
      | in-TooLong w ↦ rw w.writer-is (cause_of_answer _ _ _ _ _ (sym w.answered-is ∙ c.in-Err.is) w.refuse-answered.ensures.cause)
      | in-End w ↦ subst cause_at (same_end c.match-read_line.answered Ended c.in-Err.end w.answered-is c.in-Err.is) tt
      | in-ReadFault w ↦ subst cause_at (same_end c.match-read_line.answered ReadFault c.in-Err.end w.answered-is c.in-Err.is) (c.read_line.ensures.fault w.in-ReadFault.is)
      | in-TurnLimit w ↦
          let calls = calls_then g.R.Source.called MAX_TURNS l.lines.turns c.read_line.new.self.turns _ _ _ l.invariant.calls c.read_line.ensures.calls in
          let spent : Spent = subst (λ k. AreCalls g.R.Source.called MAX_TURNS k c.args.reader.now c.read_line.new.reader) w.in-TurnLimit.ensures.comes_to.1 calls in
          subst cause_at (same_end c.match-read_line.answered TurnLimit c.in-Err.end w.answered-is c.in-Err.is) spent
    ]
