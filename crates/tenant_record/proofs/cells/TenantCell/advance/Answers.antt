use Rattle.std.proofs.Common.{rules, arith, ap, sym, ◌∙◌, ◌≡◌, ◌<◌, ◌≤◌, refl, length}
use Rattle.job_language.specs.Recorded.{is_entry}
use Rattle.job_language.specs.declared.answers.Answer.TheVariants as answer
use Rattle.job_language.specs.declared.steps.Step.TheVariants as steps
use Rattle.job_language.specs.declared.tenants.TheConstants.{MAX_SLOTS}
use Rattle.tenant_record.specs.Cell.{CellData, state_of}
use Rattle.tenant_record.specs.CellFields.{cell_data}
use Rattle.tenant_record.specs.Locked.{IsMoved}
use Rattle.arena_steps.specs.Within.{advance_within}
use Rattle.tenant_record.proofs.Histories.{well_formed}
use Rattle.tenant_record.proofs.Taking.{advance_taken, advance_idle}
use Rattle.tenant_record.proofs.Rightness.{counts_by}
use Rattle.tenant_record.proofs.Kept.{moved_right}
use Rattle.tenant_record.proofs.Attending.{moved_attended, advanced_empty}
use Rattle.tenant_record.proofs.cells.TenantCell.advance.Goals as goal

pub invariant_of-self : goal.invariant_of-self
invariant_of-self c =
    let i = c.self.inside in
    let old : CellData = cell_data i in
    let p = c.args.pass in
    let m = c.advance-moved.result in
    let grown = c.advance-moved.ensures in
    let told = c.moved.ensures in
    let d : CellData = record {
      tenant = i.tenant;
      config = c.advance-moved.new.self.config;
      history = c.advance-moved.new.self.history;
      askers = i.askers.items;
      home = c.moved.new.self.home.items;
      idle_since = c.moved.new.self.idle_since;
    } in
    let is : IsMoved old p m c.moved.result.due c.moved.result.pass d = record {
      history = rw (← c.slot.ensures) grown.history;
      tenant = refl;
      config = grown.config;
      askers = refl;
      idle_since = rw (← c.history-entries.ensures.value) told.idle_since;
      pass = rw (← c.history-entries.ensures.value) told.pass;
      due = rw (← c.history-entries.ensures.value, ← grown.config) told.due;
      home = rw (← c.history-entries.ensures.value) told.home;
    } in
    let valid = c.self.invariant.valid in
    let shown : i.replay.config.slots ≡ c.args.self.now.config.slots = ap (λ (k : CellData). k.config.slots) c.self.view_is in
    let low : p.slot < i.replay.config.slots = let asked = c.requires.slot in omega (arith, asked, shown) in
    let most : i.replay.config.slots ≤ MAX_SLOTS = valid.most_slots in
    let sixteen : length i.slots.idle_since ≡ 16 = search rules in
    let counts : length i.slots.counts ≡ 16 = search rules in
    let tenant : p.tenant ≡ i.tenant = c.requires.tenant ∙ sym (ap (λ (k : CellData). k.tenant) c.self.view_is) in
    let formed = well_formed i.replay.config i.replay.history valid in
    let answered : m ≡ (advance_within c.has_room.result (state_of old) p.slot).0 = rw (← c.slot.ensures) grown.answer in
    let led : state_of d ≡ (advance_within c.has_room.result (state_of old) p.slot).1 = rw (← c.slot.ensures) grown.state in
    let takes = advance_taken c.has_room.result (state_of old) p.slot m (state_of d) formed answered led in
    let idle = advance_idle c.has_room.result (state_of old) p.slot m answered in
    record {
      right = moved_right old d p m c.moved.result.due c.moved.result.pass valid c.self.invariant.right is grown.right takes tenant low (omega (arith, low, most, sixteen)) idle;
      counts = rw (told.counts, is.history)
          (counts_by i.replay.history i.slots.counts p.slot (steps.Advance p.slot) (answer.Moved m) (is_entry (answer.Moved m)) refl c.self.invariant.counts (omega (arith, low, most, counts))
          (λ o. refl));
      valid = rw grown.config valid;
      room = rw grown.config c.self.invariant.room;
    }

pub returns-clause-attended : goal.returns-clause-attended
returns-clause-attended c =
    let i = c.self.inside in
    let old : CellData = cell_data i in
    let p = c.args.pass in
    let m = c.advance-moved.result in
    let grown = c.advance-moved.ensures in
    let told = c.moved.ensures in
    let d : CellData = record {
      tenant = i.tenant;
      config = c.advance-moved.new.self.config;
      history = c.advance-moved.new.self.history;
      askers = i.askers.items;
      home = c.moved.new.self.home.items;
      idle_since = c.moved.new.self.idle_since;
    } in
    let is : IsMoved old p m c.moved.result.due c.moved.result.pass d = record {
      history = rw (← c.slot.ensures) grown.history;
      tenant = refl;
      config = grown.config;
      askers = refl;
      idle_since = rw (← c.history-entries.ensures.value) told.idle_since;
      pass = rw (← c.history-entries.ensures.value) told.pass;
      due = rw (← c.history-entries.ensures.value, ← grown.config) told.due;
      home = rw (← c.history-entries.ensures.value) told.home;
    } in
    let formed = well_formed i.replay.config i.replay.history c.self.invariant.valid in
    let answered : m ≡ (advance_within c.has_room.result (state_of old) p.slot).0 = rw (← c.slot.ensures) grown.answer in
    let led : state_of d ≡ (advance_within c.has_room.result (state_of old) p.slot).1 = rw (← c.slot.ensures) grown.state in
    let takes = advance_taken c.has_room.result (state_of old) p.slot m (state_of d) formed answered led in
    rw (← c.self.view_is) (moved_attended old d p m c.moved.result.due c.moved.result.pass formed is takes (advanced_empty c.has_room.result (state_of old) (state_of d) p.slot m formed answered led))
