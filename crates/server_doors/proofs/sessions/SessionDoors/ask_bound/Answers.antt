use Rattle.std.proofs.Common.{rules, ◌≡◌, ◌<◌, ◌∙◌, length, slice_index_or, subst}
use Rattle.std.proofs.lemmas.List.{get_or_default}
use Rattle.tenant_record.specs.SeatData.{SeatData}
use Rattle.server_doors.specs.SlotWays.{AsksBy}
use Rattle.server_doors.proofs.sessions.SessionDoors.ask_bound.Goals.{in-Placed, in_default}
use Rattle.server_doors.proofs.sessions.SessionDoors.ask_bound.Goals as goal

pub returns-clause-asks : goal.returns-clause-asks
returns-clause-asks g c =
    let s = c.self.inside in
    let low : s.bound < length s.seats.items = rw (← c.self.view_is) at c.requires in
    let own : c.index_mut.result.now ≡ slice_index_or s.seats.items s.bound c.ask-due.new.seat =
    c.index_mut.ensures.value ∙ get_or_default s.seats.items s.bound c.index_mut.result.now c.ask-due.new.seat low in
    rw (← c.self.view_is) (record {
      due = c.ask-due.result.1;
      seat = c.ask-due.new.seat;
      asks = subst (λ (asker : SeatData). AsksBy s.slots asker c.args.request c.ask-due.result.0 c.ask-due.result.1 c.ask-due.new.self c.ask-due.new.seat) own c.ask-due.ensures.asks;
      pushes = c.call_due.ensures;
      session = search rules;
      placed = elim c.match-matches.branch [ in-Placed w ↦ search rules | in_default w ↦ search rules ];
    })
