use Rattle.std.proofs.Common.{rules, arith, sym, ◌∙◌, ◌≡◌, ◌<◌, ◌≤◌, refl, length}
use Rattle.job_language.specs.Recorded.{is_entry}
use Rattle.job_language.specs.declared.answers.Answer.TheVariants as answer
use Rattle.job_language.specs.declared.steps.Step.TheVariants as steps
use Rattle.job_language.specs.declared.tenants.TheConstants.{MAX_SLOTS}
use Rattle.tenant_record.specs.Cell.{CellData, state_of}
use Rattle.tenant_record.specs.CellFields.{cell_data}
use Rattle.tenant_record.specs.Locked.{IsArrived}
use Rattle.tenant_record.proofs.Histories.{well_formed}
use Rattle.tenant_record.proofs.Taking.{arrive_taken}
use Rattle.tenant_record.proofs.Rightness.{counts_by}
use Rattle.tenant_record.proofs.Kept.{arrived_right, nobody_came}
use Rattle.tenant_record.proofs.Attending.{arrived_attended}
use Rattle.std.specs.Option.{option_map}
use Rattle.std.specs.Prelude.{Some}
use Rattle.tenant_record.specs.PassData.{has_room}
use Rattle.tenant_record.specs.Places.{place, pass_in}
use Rattle.tenant_record.proofs.Placing.{arrived_goes}
use Rattle.tenant_record.proofs.cells.TenantCell.arrive.Goals as goal

pub returns-in_default-clause-arrived : goal.returns-in_default-clause-arrived
returns-in_default-clause-arrived c = rw (← c.self.view_is) (nobody_came (cell_data c.self.inside) c.args.slot (rw (← c.as_slice.ensures.value) (sym c.room_at.ensures.room ∙ c.in_default.is)))

pub invariant_of-self : goal.invariant_of-self
invariant_of-self c =
    let i = c.self.inside in
    let old : CellData = cell_data i in
    let m = c.arrive-came.result in
    let grown = c.arrive-came.ensures in
    let told = c.arrived.ensures in
    let d : CellData = record {
      tenant = i.tenant;
      config = c.arrive-came.new.self.config;
      history = c.arrive-came.new.self.history;
      askers = i.askers.items;
      home = c.arrived.new.self.home.items;
      idle_since = c.arrived.new.self.idle_since;
    } in
    let is : IsArrived old c.args.slot m c.arrived.result.due c.arrived.result.pass d = record {
      history = grown.history;
      tenant = refl;
      config = grown.config;
      askers = refl;
      idle_since = told.idle_since;
      pass = told.pass;
      due = rw (← grown.config) told.due;
      home = told.home;
    } in
    let valid = c.self.invariant.valid in
    let inside : c.args.slot < length i.slots.home.items = rw (← c.as_slice.ensures.value) c.in-Some.ensures.within in
    let most : i.replay.config.slots ≤ MAX_SLOTS = valid.most_slots in
    let places = c.self.invariant.right.slots in
    let sixteen : length i.slots.idle_since ≡ 16 = search rules in
    let counts : length i.slots.counts ≡ 16 = search rules in
    let takes = arrive_taken c.in-Some.has_room (state_of old) c.args.slot m (state_of d) (well_formed i.replay.config i.replay.history valid) grown.answer grown.state in
    record {
      right = arrived_right old d c.args.slot m c.arrived.result.due c.arrived.result.pass valid c.self.invariant.right is grown.right takes (omega (arith, inside, most, places, sixteen));
      counts = rw (told.counts, is.history)
          (counts_by i.replay.history i.slots.counts c.args.slot (steps.Arrive c.args.slot) (answer.Came m) (is_entry (answer.Came m)) refl c.self.invariant.counts
          (omega (arith, inside, most, places, counts)) (λ o. refl));
      valid = rw grown.config valid;
      room = rw grown.config c.self.invariant.room;
    }

pub returns-clause-found : goal.returns-clause-found
returns-clause-found c =
    let i = c.self.inside in
    let held : option_map has_room (pass_in (place i.slots.home.items c.args.slot)) ≡ Some c.in-Some.has_room = rw (← c.as_slice.ensures.value) (sym c.in-Some.ensures.room) in
    rw (c.arrived.ensures.came, c.arrived.ensures.pass, ← c.self.view_is)
    (arrived_goes i.tenant c.args.slot c.arrive-came.result (place i.slots.home.items c.args.slot) c.in-Some.has_room held (c.self.invariant.right.places c.args.slot))

pub returns-clause-attended : goal.returns-clause-attended
returns-clause-attended c =
    let i = c.self.inside in
    let old : CellData = cell_data i in
    let m = c.arrive-came.result in
    let grown = c.arrive-came.ensures in
    let told = c.arrived.ensures in
    let d : CellData = record {
      tenant = i.tenant;
      config = c.arrive-came.new.self.config;
      history = c.arrive-came.new.self.history;
      askers = i.askers.items;
      home = c.arrived.new.self.home.items;
      idle_since = c.arrived.new.self.idle_since;
    } in
    let is : IsArrived old c.args.slot m c.arrived.result.due c.arrived.result.pass d = record {
      history = grown.history;
      tenant = refl;
      config = grown.config;
      askers = refl;
      idle_since = told.idle_since;
      pass = told.pass;
      due = rw (← grown.config) told.due;
      home = told.home;
    } in
    let inside : c.args.slot < length i.slots.home.items = rw (← c.as_slice.ensures.value) c.in-Some.ensures.within in
    let formed = well_formed i.replay.config i.replay.history c.self.invariant.valid in
    let takes = arrive_taken c.in-Some.has_room (state_of old) c.args.slot m (state_of d) formed grown.answer grown.state in
    rw (← c.self.view_is) (arrived_attended old d c.args.slot m c.arrived.result.due c.arrived.result.pass formed inside is takes)
