use Rattle.std.proofs.Common.{sym, arith}
use Rattle.arena_rows.specs.Endings.{HasFaulty}
use Rattle.arena_rows.proofs.FaultSteps.{task_faulted, next_top, next_fault, next_faulty, region_faulted}
use Rattle.arena_rows.proofs.parts.Parts.+fault_rows.Goals as goal

pub fault_rows-requires : goal.fault_rows-requires
fault_rows-requires t c =
    let a = c.args.self.now in
    let h : HasFaulty a c.args.slot = c.requires.faulty in
    let region = sym (c.if-is_region.ensures h.0 h.1 h.2 h.3) in (
      omega (arith, c.decreases, c.fault_top.ensures.height),
      (next_faulty a c.fault_top.new.self h.0 h.2 c.args.slot h.1 h.3 region (c.fault_top.ensures.holds h.0 h.1 h.2 h.3 h.4) h.4, c.fault_top.ensures.forest),
    )

pub returns-then-is_region-clause-holds : goal.returns-then-is_region-clause-holds
returns-then-is_region-clause-holds t c = λ s n is on_top fault.
    let a = c.args.self.now in
    let b = c.fault_top.new.self in
    let region = sym (c.if-is_region.ensures s n is on_top) in
    let holds = c.fault_top.ensures.holds s n is on_top fault in
    region_faulted a b s is c.args.slot n on_top region holds c.fault_rows.new.self
    (c.fault_rows.ensures.holds _ _ holds (next_top a b s is c.args.slot n on_top region holds) (next_fault a b s is c.args.slot n on_top region holds fault))

pub returns-else-is_region-clause-holds : goal.returns-else-is_region-clause-holds
returns-else-is_region-clause-holds t c = λ s n is on_top fault.
    task_faulted c.args.self.now c.fault_top.new.self s is c.args.slot n on_top (sym (c.if-is_region.ensures s n is on_top)) (c.fault_top.ensures.holds s n is on_top fault)
