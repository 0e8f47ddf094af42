use Rattle.std.proofs.Common.{rules, arith, ap, ◌≡◌, ◌≤◌, refl, length}
use Rattle.job_language.specs.declared.answers.Answer.TheVariants as answer
use Rattle.job_language.specs.declared.steps.Step.TheVariants as steps
use Rattle.job_language.specs.declared.tenants.TheConstants.{MAX_SLOTS}
use Rattle.tenant_record.specs.Cell.{CellData, state_of}
use Rattle.tenant_record.specs.CellFields.{cell_data}
use Rattle.tenant_record.specs.Locked.{IsAsked}
use Rattle.tenant_record.proofs.Histories.{well_formed}
use Rattle.job_language.specs.Recorded.{is_recorded_reply}
use Rattle.job_language.specs.declared.tenants.Tenant.{Tenant}
use Rattle.tenant_record.specs.SeatData.{SeatData, asked}
use Rattle.tenant_record.proofs.Taking.{ask_taken, pending_within, placed_fits, placed_low}
use Rattle.tenant_record.proofs.Rightness.{counts_same}
use Rattle.tenant_record.proofs.Kept.{asked_right}
use Rattle.tenant_record.proofs.Attending.{asked_attended}
use Rattle.tenant_record.proofs.Placing.{asked_goes}
use Rattle.tenant_record.proofs.cells.TenantCell.ask.Goals as goal

pub asked-due-requires-clause-placed : goal.asked-due-requires-clause-placed
asked-due-requires-clause-placed c =
    let i = c.self.inside in
    let old : CellData = cell_data i in
    let places = c.self.invariant.right.slots in
    let reserved = c.self.invariant.valid.reserved in
    let config : (state_of old).config.reserved ≡ i.replay.config.reserved = ap (λ (k : Tenant). k.reserved) c.self.invariant.right.history.config in
    placed_fits c.has_room.result (state_of old) c.args.request c.ask-reply.result (length i.slots.home.items) c.ask-reply.ensures.answer (omega (arith, places, reserved, config))

pub invariant_of-self : goal.invariant_of-self
invariant_of-self c =
    let i = c.self.inside in
    let old : CellData = cell_data i in
    let r = c.args.request in
    let y = c.ask-reply.result in
    let s : SeatData = c.tell.new.self in
    let grown = c.ask-reply.ensures in
    let told = c.asked-due.ensures in
    let d : CellData = record {
      tenant = i.tenant;
      config = c.ask-reply.new.self.config;
      history = c.ask-reply.new.self.history;
      askers = c.note_asker.new.askers.items;
      home =
          c.asked-due.new.self.home.items;
      idle_since = c.asked-due.new.self.idle_since;
    } in
    let is : IsAsked old s r y c.asked-due.result.0 c.asked-due.result.1 d (asked s r y) = record {
      history = grown.history;
      tenant = refl;
      config = grown.config;
      askers = rw (← c.number.ensures) c.note_asker.ensures.items;
      idle_since = told.idle_since;
      seat = refl;
      pass = told.pass;
      due = rw (← grown.config) told.due;
      home = told.home;
    } in
    let valid = c.self.invariant.valid in
    let reserved = valid.reserved in
    let most : i.replay.config.slots ≤ MAX_SLOTS = valid.most_slots in
    let config : (state_of old).config.reserved ≡ i.replay.config.reserved = ap (λ (k : Tenant). k.reserved) c.self.invariant.right.history.config in
    let sixteen : length i.slots.idle_since ≡ 16 = search rules in
    let takes = ask_taken c.has_room.result (state_of old) r y (state_of d) (well_formed i.replay.config i.replay.history valid) grown.answer grown.state in
    record {
      right = asked_right old d s (asked s r y) r y c.asked-due.result.0 c.asked-due.result.1 valid c.self.invariant.right is grown.right takes
          (placed_low c.has_room.result (state_of old) r y (length i.slots.idle_since) grown.answer (omega (arith, reserved, most, config, sixteen)));
      counts = rw (told.counts, is.history) (counts_same i.replay.history i.slots.counts (steps.Ask r) (answer.Replied y) (is_recorded_reply y) refl c.self.invariant.counts (λ o. refl));
      valid = rw grown.config valid;
      room = rw (grown.config, c.note_asker.ensures.capacity) c.self.invariant.room;
    }

pub returns-clause-placed : goal.returns-clause-placed
returns-clause-placed c =
    let i = c.self.inside in
    let old : CellData = cell_data i in
    let right = c.self.invariant.right in
    rw (c.asked-due.ensures.pass, ← c.self.view_is)
    (asked_goes i.tenant i.replay.config (state_of old) i.slots.home.items right.history.config right.home right.places c.has_room.result c.args.request c.ask-reply.result
    c.ask-reply.ensures.answer)

pub returns-clause-pending : goal.returns-clause-pending
returns-clause-pending c = pending_within c.has_room.result (state_of (cell_data c.self.inside)) c.args.request c.ask-reply.result c.ask-reply.ensures.answer

pub returns-clause-attended : goal.returns-clause-attended
returns-clause-attended c =
    let i = c.self.inside in
    let old : CellData = cell_data i in
    let r = c.args.request in
    let y = c.ask-reply.result in
    let s : SeatData = c.tell.new.self in
    let grown = c.ask-reply.ensures in
    let told = c.asked-due.ensures in
    let d : CellData = record {
      tenant = i.tenant;
      config = c.ask-reply.new.self.config;
      history = c.ask-reply.new.self.history;
      askers = c.note_asker.new.askers.items;
      home =
          c.asked-due.new.self.home.items;
      idle_since = c.asked-due.new.self.idle_since;
    } in
    let is : IsAsked old s r y c.asked-due.result.0 c.asked-due.result.1 d (asked s r y) = record {
      history = grown.history;
      tenant = refl;
      config = grown.config;
      askers = rw (← c.number.ensures) c.note_asker.ensures.items;
      idle_since = told.idle_since;
      seat = refl;
      pass = told.pass;
      due = rw (← grown.config) told.due;
      home = told.home;
    } in
    let places = c.self.invariant.right.slots in
    let reserved = c.self.invariant.valid.reserved in
    let config : (state_of old).config.reserved ≡ i.replay.config.reserved = ap (λ (k : Tenant). k.reserved) c.self.invariant.right.history.config in
    let formed = well_formed i.replay.config i.replay.history c.self.invariant.valid in
    let takes = ask_taken c.has_room.result (state_of old) r y (state_of d) formed grown.answer grown.state in
    let inside = placed_low c.has_room.result (state_of old) r y (length i.slots.home.items) grown.answer (omega (arith, places, reserved, config)) in
    rw (← c.self.view_is) (asked_attended old d s (asked s r y) r y c.asked-due.result.0 c.asked-due.result.1 formed inside is takes)
