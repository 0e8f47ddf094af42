use Rattle.std.proofs.Common.{◌≡◌, Some, sym, ap, ◌∙◌, subst}
use Rattle.tenant_model.specs.Changes.{finish_step, with_frame}
use Rattle.tenant_model.specs.Shared.{execute}
use Rattle.arena_rows.specs.Represents.{Gives}
use Rattle.arena_steps.specs.Ready.{CanExecute}
use Rattle.arena_steps.proofs.Executing.{private_runs}
use Rattle.arena_steps.proofs.execution.execute.Goals as goal

pub wait-requires-clause-passes : goal.wait-requires-clause-passes
wait-requires-clause-passes c =
    let h : CanExecute c.args.parts.now c.args.slot c.args.frame c.args.instr.now = c.requires.ready in
    (h.0, h.1, h.2.fits, h.2.passes c.in-Wait.total_to c.in-Wait.status_to c.in-Wait.group c.in-Wait.is)

pub returns-in-Spawn : goal.returns-in-Spawn
returns-in-Spawn c = λ s n ready. rw c.in-Spawn.is (c.spawn.ensures s n ready.fits)

pub returns-in-Post : goal.returns-in-Post
returns-in-Post c = λ s n ready. rw c.in-Post.is (c.post.ensures s n ready.fits)

pub returns-in-Isolate : goal.returns-in-Isolate
returns-in-Isolate c = λ s n ready. rw c.in-Isolate.is (c.isolate.ensures s n c.in-Isolate._to ready.fits (ready.here ∙ ap Some c.in-Isolate.is))

pub returns-in-Wait : goal.returns-in-Wait
returns-in-Wait c = λ s n ready. rw c.in-Wait.is (c.wait.ensures s n ready.fits (ready.passes c.in-Wait.total_to c.in-Wait.status_to c.in-Wait.group c.in-Wait.is))

pub returns-in-Cancel : goal.returns-in-Cancel
returns-in-Cancel c = λ s n ready. rw c.in-Cancel.is (c.cancel.ensures s n ready.fits)

pub returns-in-Ask : goal.returns-in-Ask
returns-in-Ask c = λ s n ready. rw c.in-Ask.is (c.ask.ensures s n ready.fits)

pub returns-in-Load : goal.returns-in-Load
returns-in-Load c = λ s n ready. rw c.in-Load.is (c.load.ensures s n ready.fits)

pub returns-in-Store : goal.returns-in-Store
returns-in-Store c = λ s n ready. rw c.in-Store.is (c.store.ensures s n ready.fits)

pub returns-in-Sum : goal.returns-in-Sum
returns-in-Sum c = λ s n ready. rw c.in-Sum.is (c.sum.ensures s n ready.fits)

pub returns-in-Count : goal.returns-in-Count
returns-in-Count c = λ s n ready. rw c.in-Count.is (c.count.ensures s n ready.fits)

pub returns-in-Ret : goal.returns-in-Ret
returns-in-Ret c = λ s n ready. rw c.in-Ret.is (c.ret.ensures s n ready.fits)

pub returns-in_default : goal.returns-in_default
returns-in_default c = λ s n ready.
    let quiet : execute s c.args.slot n c.args.frame c.args.instr.now ≡ finish_step c.args.slot (with_frame s n c.args.frame) =
    private_runs s c.args.slot n c.args.frame c.args.instr.now c.in_default.not-Spawn c.in_default.not-Post c.in_default.not-Isolate c.in_default.not-Wait c.in_default.not-Cancel
    c.in_default.not-Ask c.in_default.not-Load c.in_default.not-Store c.in_default.not-Sum c.in_default.not-Count c.in_default.not-Ret in
    subst (Gives c.move_to.new.parts c.move_to.result) (sym quiet) (c.move_to.ensures s n ready.fits)
