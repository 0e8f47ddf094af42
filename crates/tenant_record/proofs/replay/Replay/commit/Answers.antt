use Rattle.std.proofs.Common.{arith}
use Rattle.tenant_record.specs.History.{state_after}
use Rattle.tenant_record.proofs.Histories.{commit_records}
use Rattle.tenant_record.proofs.replay.Replay.commit.Goals as goal

pub record-requires : goal.record-requires
record-requires c =
    let r = c.self.inside in
    let told = c.commit_within-moved.ensures (state_after r.config r.history.items) c.self.invariant.arena in
    let its = commit_records r.config r.history.items c.self.invariant.valid c.self.invariant.history c.args.has_room c.args.slot c.args.segment.now c.commit_within-moved.result told.0 told.1.0 in
    λ entry. let within = its.room entry in
    let room = c.self.invariant.room in
    omega arith

pub invariant_of-self : goal.invariant_of-self
invariant_of-self c =
    let r = c.self.inside in
    let told = c.commit_within-moved.ensures (state_after r.config r.history.items) c.self.invariant.arena in
    let its = commit_records r.config r.history.items c.self.invariant.valid c.self.invariant.history c.args.has_room c.args.slot c.args.segment.now c.commit_within-moved.result told.0 told.1.0 in
    record {
      arena = rw (c.record.ensures.items, its.state) told.1.1;
      history = rw c.record.ensures.items its.is;
      valid = c.self.invariant.valid;
      room = rw c.record.ensures.capacity c.self.invariant.room;
    }

pub returns-clause-answer : goal.returns-clause-answer
returns-clause-answer c =
    let r = c.self.inside in
    let told = c.commit_within-moved.ensures (state_after r.config r.history.items) c.self.invariant.arena in
    let its = commit_records r.config r.history.items c.self.invariant.valid c.self.invariant.history c.args.has_room c.args.slot c.args.segment.now c.commit_within-moved.result told.0 told.1.0 in
    rw (c.record.ensures.items, its.state, ← c.self.view_is) told.1.0

pub returns-clause-right : goal.returns-clause-right
returns-clause-right c =
    let r = c.self.inside in
    let told = c.commit_within-moved.ensures (state_after r.config r.history.items) c.self.invariant.arena in
    let its = commit_records r.config r.history.items c.self.invariant.valid c.self.invariant.history c.args.has_room c.args.slot c.args.segment.now c.commit_within-moved.result told.0 told.1.0 in
    rw c.record.ensures.items its.is
