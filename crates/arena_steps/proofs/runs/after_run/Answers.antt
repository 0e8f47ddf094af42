use Rattle.std.proofs.Common.{◌≡◌, true, false, sym, ap, ◌∙◌, subst}
use Rattle.tenant_model.specs.Advance.{is_blocked}
use Rattle.tenant_model.specs.Blocked.{stops_blocked}
use Rattle.arena_rows.specs.Represents.{Gives}
use Rattle.arena_steps.specs.Runs.{HasRun}
use Rattle.arena_steps.proofs.RunEnds.{end_fits, end_ready, blocked_moves}
use Rattle.arena_steps.proofs.runs.after_run.Goals as goal

pub pay_to_move-requires-clause-fits : goal.pay_to_move-requires-clause-fits
pay_to_move-requires-clause-fits c =
    let h : HasRun c.args.parts.now c.args.slot c.args.run.now = c.requires.runs in
    (h.0, h.1, end_fits c.args.parts.now h.0 c.args.slot h.1 c.args.run.now h.2)

pub returns-then-is_blocked : goal.returns-then-is_blocked
returns-then-is_blocked c = λ s n fits.
    let r = c.args.run.now in
    let stuck : stops_blocked s n r.stop ≡ true = sym (c.requires.blocked s n fits) ∙ c.if-is_blocked.true in
    subst (Gives c.pay_to_move.new.parts c.pay_to_move.result) (sym (blocked_moves s c.args.slot n r.count r.end r.stop stuck))
    (c.pay_to_move.ensures s n (end_fits c.args.parts.now s c.args.slot n r fits))

pub pay_to_move-requires-in-Yield-clause-fits : goal.pay_to_move-requires-in-Yield-clause-fits
pay_to_move-requires-in-Yield-clause-fits c =
    let h : HasRun c.args.parts.now c.args.slot c.args.run.now = c.requires.runs in
    (h.0, h.1, end_fits c.args.parts.now h.0 c.args.slot h.1 c.args.run.now h.2)

pub returns-in-Yield : goal.returns-in-Yield
returns-in-Yield c = λ s n fits. rw c.in-Yield.is (c.pay_to_move-in-Yield.ensures s n (end_fits c.args.parts.now s c.args.slot n c.args.run.now fits))

pub pay_to_execute-requires-clause-ready : goal.pay_to_execute-requires-clause-ready
pay_to_execute-requires-clause-ready c =
    let h : HasRun c.args.parts.now c.args.slot c.args.run.now = c.requires.runs in
    let i = c.in-Shared.instr in
    let passes : is_blocked h.0 h.1 i ≡ false = sym (ap (stops_blocked h.0 h.1) c.in-Shared.is) ∙ sym (c.requires.blocked h.0 h.1 h.2) ∙ c.if-is_blocked.false in
    (h.0, h.1, end_ready c.args.parts.now h.0 c.args.slot h.1 c.args.run.now h.2 i c.in-Shared.is passes)

pub returns-in-Shared : goal.returns-in-Shared
returns-in-Shared c = λ s n fits.
    let i = c.in-Shared.instr in
    let passes : is_blocked s n i ≡ false = sym (ap (stops_blocked s n) c.in-Shared.is) ∙ sym (c.requires.blocked s n fits) ∙ c.if-is_blocked.false in
    rw (c.in-Shared.is, passes) (c.pay_to_execute.ensures s n (end_ready c.args.parts.now s c.args.slot n c.args.run.now fits i c.in-Shared.is passes))
