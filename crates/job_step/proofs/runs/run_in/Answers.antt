use Rattle.std.proofs.Common.{◌≡◌, Some, refl, sym, ◌∙◌, arith}
use Rattle.job_step.specs.Frame.{instr_at}
use Rattle.job_step.specs.InsideRun.{frame_of}
use Rattle.job_step.proofs.RunSteps.{run_for-moves, run_for-divides, run_for-shared, run_for-end, instr_at-found, IsInRange-found, follows, stop_instr}
use Rattle.job_step.proofs.runs.run_in.Goals as goal

pub returns-in-DividesByZero-clause-run : goal.returns-in-DividesByZero-clause-run
returns-in-DividesByZero-clause-run c procs here =
    let f = frame_of c.args.frame.now.procedure c.loop-count.place c.loop-count.frame.registers in
    let next : instr_at procs f ≡ Some c.index-instrs-place.result = instr_at-found procs _ f _ _ here refl (omega arith) c.index-instrs-place.is in
    rw (c.loop-count.invariant.procedure, c.in-DividesByZero.ensures.divides refl)
    (sym (run_for-divides 1000 procs _ _ _ _ f _ c.loop-count-test.true next c.in-DividesByZero.ensures.effect) ∙ c.loop-count.invariant.run procs here)

pub returns-in-IsShared-clause-run : goal.returns-in-IsShared-clause-run
returns-in-IsShared-clause-run c procs here =
    let f = frame_of c.args.frame.now.procedure c.loop-count.place c.loop-count.frame.registers in
    let next : instr_at procs f ≡ Some c.index-instrs-place.result = instr_at-found procs _ f _ _ here refl (omega arith) c.index-instrs-place.is in
    rw (c.loop-count.invariant.procedure, c.in-IsShared.ensures.shared refl)
    (sym (run_for-shared 1000 procs _ _ _ _ f _ c.loop-count-test.true next c.in-IsShared.ensures.effect) ∙ c.loop-count.invariant.run procs here)

pub returns-in-IsShared-clause-next : goal.returns-in-IsShared-clause-next
returns-in-IsShared-clause-next c i is on =
    let there = c.index-instrs-place in
    let same : there.result ≡ i = stop_instr is in
    omega (arith, follows c.args.instrs.now c.loop-count.place there.result c.requires.valid (omega arith) there.is (rw same on), c.requires.valid.most)

pub loop-count-preserved : goal.loop-count-preserved
loop-count-preserved c = record {
  place =
      let is = c.args.instrs.now in
      let i = c.index-instrs-place in
      c.in-Place.ensures.within _ (IsInRange-found is c.loop-count.place i.result c.requires.valid (omega arith) i.is)
      (λ on. omega (arith, follows is c.loop-count.place i.result c.requires.valid (omega arith) i.is on));
  procedure = c.loop-count.invariant.procedure;
  run = λ procs here.
      let f = frame_of c.args.frame.now.procedure c.loop-count.place c.loop-count.frame.registers in
      let next : instr_at procs f ≡ Some c.index-instrs-place.result = instr_at-found procs _ f _ _ here refl (omega arith) c.index-instrs-place.is in
      sym (run_for-moves 1000 procs _ _ _ _ f _ c.loop-count-test.true next _ c.in-Place.ensures.effect) ∙ c.loop-count.invariant.run procs here;
}

pub returns-clause-run : goal.returns-clause-run
returns-clause-run c procs here =
    rw c.loop-count.invariant.procedure (sym (run_for-end 1000 procs _ _ _ c.loop-count.count _ (omega arith)) ∙ c.loop-count.invariant.run procs here)
