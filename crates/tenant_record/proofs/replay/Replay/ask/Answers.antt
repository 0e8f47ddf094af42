use Rattle.std.proofs.Common.{arith}
use Rattle.tenant_record.specs.History.{state_after}
use Rattle.tenant_record.proofs.Histories.{ask_records}
use Rattle.tenant_record.proofs.replay.Replay.ask.Goals as goal

pub record-requires : goal.record-requires
record-requires c =
    let r = c.self.inside in
    let told = c.ask_within.ensures (state_after r.config r.history.items) c.self.invariant.arena in
    let its = ask_records r.config r.history.items c.self.invariant.valid c.self.invariant.history c.args.has_room c.args.request c.ask_within.result told.0 in
    λ entry. let within = its.room entry in
    let room = c.self.invariant.room in
    omega arith

pub invariant_of-self : goal.invariant_of-self
invariant_of-self c =
    let r = c.self.inside in
    let told = c.ask_within.ensures (state_after r.config r.history.items) c.self.invariant.arena in
    let its = ask_records r.config r.history.items c.self.invariant.valid c.self.invariant.history c.args.has_room c.args.request c.ask_within.result told.0 in
    record {
      arena = rw (c.record.ensures.items, c.requires, its.state) told.1;
      history = rw (c.record.ensures.items, c.requires) its.is;
      valid = c.self.invariant.valid;
      room = rw c.record.ensures.capacity c.self.invariant.room;
    }

pub returns-clause-state : goal.returns-clause-state
returns-clause-state c =
    let r = c.self.inside in
    let told = c.ask_within.ensures (state_after r.config r.history.items) c.self.invariant.arena in
    let its = ask_records r.config r.history.items c.self.invariant.valid c.self.invariant.history c.args.has_room c.args.request c.ask_within.result told.0 in
    rw (c.record.ensures.items, c.requires, ← c.self.view_is) its.state

pub returns-clause-right : goal.returns-clause-right
returns-clause-right c =
    let r = c.self.inside in
    let told = c.ask_within.ensures (state_after r.config r.history.items) c.self.invariant.arena in
    let its = ask_records r.config r.history.items c.self.invariant.valid c.self.invariant.history c.args.has_room c.args.request c.ask_within.result told.0 in
    rw (c.record.ensures.items, c.requires) its.is
