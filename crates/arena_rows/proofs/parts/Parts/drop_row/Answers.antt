use Rattle.std.proofs.Common.{◌≡◌, ◌<◌, pos, length, length-set, Some, None, sym, ap, ◌∙◌, arith, subst}
use Rattle.std.specs.Prelude.{count_by, is_some, slice_set}
use Rattle.ready_pool.specs.Ready as ready
use Rattle.tenant_model.specs.State.{row}
use Rattle.tenant_model.specs.Changes.{on_row}
use Rattle.tenant_model.specs.declared.rows.Phase.TheVariants.{Dropped}
use Rattle.tenant_model.proofs.Tended.{unstarted_open}
use Rattle.arena_rows.specs.Held.{Held}
use Rattle.arena_rows.specs.Represents.{at_place, Holds}
use Rattle.arena_rows.specs.Endings.{IsWaiting, parted}
use Rattle.arena_rows.proofs.EndHolds.{dropped_holds}
use Rattle.arena_rows.proofs.EndSteps.{parted_long, parted_taken, still_there}
use Rattle.arena_rows.proofs.Parting.{parted_numbers, ended_numbers}
use Rattle.arena_rows.proofs.EndTop.{over_of}
use Rattle.arena_rows.proofs.FreePlaces.{one_freed}
use Rattle.arena_rows.proofs.Grouped.{entry_of}
use Rattle.arena_rows.proofs.Loose.{loose_waiting}
use Rattle.arena_rows.proofs.parts.Parts.drop_row.Goals as goal

pub end-requires : goal.end-requires
end-requires c =
    let a = c.args.self.now in
    let h : IsWaiting a c.args.id = c.requires in
    let opened = unstarted_open (row h.0.rows h.1).phase h.3 in
    (h.0, h.1, h.2, opened, h.4, loose_waiting a h.0 h.2 h.1 h.3 opened)

pub returns-clause-holds : goal.returns-clause-holds
returns-clause-holds c = λ s n is waits same.
    let a = c.args.self.now in
    let b = c.end.new.self in
    let opened = unstarted_open (row s.rows n).phase waits in
    let found = entry_of a s is n opened in
    let it = over_of a b c.args.id (pos 0) c.end.ensures s is n found.0 found.1 same in
    let holds = dropped_holds a b s is n it.e it.entry (loose_waiting a s is n waits opened) it.over waits in
    let id : Holds (record b { pool = ready.without b.pool c.args.id }) (on_row s n (λ r. record r { phase = Dropped })) =
    subst (λ r. Holds (record b { pool = ready.without b.pool r }) (on_row s n (λ r. record r { phase = Dropped }))) (sym same) holds in
    rw c.unwait.ensures id

pub returns-clause-forest : goal.returns-clause-forest
returns-clause-forest c = λ forest.
    let a = c.args.self.now in
    let h : IsWaiting a c.args.id = c.requires in
    let found = entry_of a h.0 h.2 h.1 (unstarted_open (row h.0.rows h.1).phase h.3) in
    let it = over_of a c.end.new.self c.args.id (pos 0) c.end.ensures h.0 h.2 h.1 found.0 found.1 h.4 in
    rw c.unwait.ensures (it.over.left.sound forest)

pub returns-clause-long : goal.returns-clause-long
returns-clause-long c =
    let a = c.args.self.now in
    let h : IsWaiting a c.args.id = c.requires in
    let found = entry_of a h.0 h.2 h.1 (unstarted_open (row h.0.rows h.1).phase h.3) in
    let it = over_of a c.end.new.self c.args.id (pos 0) c.end.ensures h.0 h.2 h.1 found.0 found.1 h.4 in
    rw c.unwait.ensures (ap (λ (x : Held). length x.table) it.over.rest ∙ length-set (parted a.table it.e.source (pos 0)) (h.2.places h.1) None ∙ parted_long a.table it.e.source (pos 0))

pub returns-clause-freed : goal.returns-clause-freed
returns-clause-freed c =
    let a = c.args.self.now in
    let h : IsWaiting a c.args.id = c.requires in
    let found = entry_of a h.0 h.2 h.1 (unstarted_open (row h.0.rows h.1).phase h.3) in
    let it = over_of a c.end.new.self c.args.id (pos 0) c.end.ensures h.0 h.2 h.1 found.0 found.1 h.4 in
    let table1 = parted a.table it.e.source (pos 0) in
    let within : h.2.places h.1 < length table1 = omega (arith, it.entry.within, parted_long a.table it.e.source (pos 0)) in
    let there = still_there a.table it.e.source (pos 0) (h.2.places h.1) it.e it.entry.there in
    let new = ap (λ (x : Held). count_by is_some x.table) it.over.rest in
    rw c.unwait.ensures (omega (arith, new, one_freed table1 (h.2.places h.1) there.0 within there.1, parted_taken a.table it.e.source (pos 0)))

pub returns-clause-numbers : goal.returns-clause-numbers
returns-clause-numbers c = λ q e there.
    let a = c.args.self.now in
    let h : IsWaiting a c.args.id = c.requires in
    let found = entry_of a h.0 h.2 h.1 (unstarted_open (row h.0.rows h.1).phase h.3) in
    let it = over_of a c.end.new.self c.args.id (pos 0) c.end.ensures h.0 h.2 h.1 found.0 found.1 h.4 in
    let table1 = parted a.table it.e.source (pos 0) in
    let within : h.2.places h.1 < length table1 = omega (arith, it.entry.within, parted_long a.table it.e.source (pos 0)) in
    let here : at_place c.end.new.self.table q ≡ Some e = rw c.unwait.ensures at there in
    let before : at_place (slice_set table1 (h.2.places h.1) None) q ≡ Some e = ap (λ (x : Held). at_place x.table q) (sym it.over.rest) ∙ here in
    sym (parted_numbers a.table it.e.source (pos 0) q) ∙ ended_numbers table1 (h.2.places h.1) q e within before
