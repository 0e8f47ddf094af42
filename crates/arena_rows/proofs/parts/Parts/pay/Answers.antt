use Rattle.std.proofs.Common.{◌-◌, ap, ◌∙◌, nat_lt, not}
use Rattle.tenant_model.specs.State.{row, job}
use Rattle.arena_rows.specs.HeldChanges.{no_job}
use Rattle.arena_rows.proofs.OneJob.{fuel_told, paid_holds, settled_fuel}
use Rattle.arena_rows.proofs.JobPlaces.{held_there}
use Rattle.arena_rows.proofs.TopRows.{top_job}
use Rattle.arena_rows.proofs.parts.Parts.pay.Goals as goal

pub returns : goal.returns
returns c = record {
  pays = λ s n rests on_top.
      let is = rests.holds in
      let there = held_there c.args.self.now s is (row s.rows n).job (top_job c.args.self.now s is c.args.slot n on_top) in
      let a = c.args.self.now in
      let its_job = (c.top_entry.ensures.entry s n is on_top).1.job in
      let left = (job s.jobs (row s.rows n).job).fuel - c.args.cost in
      let fuel = fuel_told a s is c.args.slot n on_top no_job in
      let sufficed = rw its_job at (c.pay_job.ensures.sufficed no_job) in
      let paid = rw its_job at (c.pay_job.ensures.paid no_job) in
      let holds = paid_holds a s is c.args.slot n on_top left no_job in
      let settled = settled_fuel s (row s.rows n).job left there.0 there.1 rests.settled in
      (sufficed ∙ ap (λ k. not (nat_lt k c.args.cost)) fuel, rw (paid, fuel) (record { holds = holds; settled = settled }));
}
