use Rattle.std.proofs.Common.{◌≡◌, List, Option, Some, sym, ap, ◌∙◌, w64, to_z, of_z, subst}
use Rattle.std.proofs.lemmas.Int.{to_z-of_z}
use Rattle.std.specs.Prelude.{is_some, slice_index_or, slice_set}
use Rattle.cancel_context.specs.Forest.{Forest}
use Rattle.arena_rows.specs.declared.rows.OpenRow.{OpenRow}
use Rattle.arena_rows.specs.declared.rows.CurrentJob.{CurrentJob}
use Rattle.arena_rows.specs.Held.{Held, shown}
use Rattle.arena_rows.specs.HeldChanges.{index_of}
use Rattle.arena_rows.specs.Represents.{at_place}
use Rattle.arena_rows.specs.Endings.{Left, contexts_of, open_maker, with_ended, HasEnded, MayEnd, CanEnd}
use Rattle.arena_rows.proofs.Ending.{may_end, can_leave, its_job, some_open}
use Rattle.arena_rows.proofs.EndSteps.{entry_in, still_there, told, taken_is, counted_is, has_ended}
use Rattle.arena_rows.proofs.Started.{some_is}
use Rattle.arena_rows.proofs.parts.Parts.end.Goals as goal

pub release_all-requires : goal.release_all-requires
release_all-requires c =
    let h : CanEnd c.args.self.now c.args.row = c.requires in
    let e = c.entry_at.result.now in
    let fine : MayEnd c.args.self.now.contexts e = may_end c.args.self.now h.0 h.2 h.1 e (entry_in c.args.self.now c.args.row h e c.entry_at.ensures) h.5 in
    subst (λ (a : Held). MayEnd a.contexts e) (sym c.self.view_is) fine

pub leave_maker-requires-clause-pending : goal.leave_maker-requires-clause-pending
leave_maker-requires-clause-pending c = λ p x found there.
    let h : CanEnd c.args.self.now c.args.row = c.requires in
    let e = c.entry_at.result.now in
    let found' : open_maker c.args.self.now.table e.source ≡ Some p =
    ap (λ (a : Held). open_maker a.table e.source) (sym c.self.view_is) ∙ ap (λ (t : List (Option OpenRow)). open_maker t e.source) (sym c.release_all.ensures.table) ∙ found in
    let there' : at_place c.args.self.now.table p.0 ≡ Some x =
    ap (λ (a : Held). at_place a.table p.0) (sym c.self.view_is) ∙ ap (λ (t : List (Option OpenRow)). at_place t p.0) (sym c.release_all.ensures.table) ∙ there in
    (can_leave c.args.self.now h.0 h.2 h.1 e (entry_in c.args.self.now c.args.row h e c.entry_at.ensures) p found').2 x there'

pub take_out-requires-clause-there : goal.take_out-requires-clause-there
take_out-requires-clause-there c =
    let a = c.args.self.now in
    let h : CanEnd a c.args.row = c.requires in
    let e = c.entry_at.result.now in
    let v = c.args.value in
    let forest : Forest = c.release_all.new.rows.contexts in
    let entry = entry_in a c.args.row h e c.entry_at.ensures in
    let tells : c.leave_maker.new.self ≡ told a forest e.source v =
    c.leave_maker.ensures ∙ ap (λ (t : List (Option OpenRow)). told (record (shown c.self.inside) { table = t }) forest e.source (to_z w64 (of_z w64 v))) c.release_all.ensures.table ∙
    ap (λ (x : Held). told x forest e.source (to_z w64 (of_z w64 v))) c.self.view_is ∙ ap (told a forest e.source) (to_z-of_z w64 c.args.value c.ranges.value) in
    let there = still_there a.table e.source v c.args.row.place e c.entry_at.ensures in
    rw tells (ap is_some there.1)

pub count_out-requires-clause-current : goal.count_out-requires-clause-current
count_out-requires-clause-current c =
    let a = c.args.self.now in
    let h : CanEnd a c.args.row = c.requires in
    let e = c.entry_at.result.now in
    let v = c.args.value in
    let forest : Forest = c.release_all.new.rows.contexts in
    let entry = entry_in a c.args.row h e c.entry_at.ensures in
    let tells : c.leave_maker.new.self ≡ told a forest e.source v =
    c.leave_maker.ensures ∙ ap (λ (t : List (Option OpenRow)). told (record (shown c.self.inside) { table = t }) forest e.source (to_z w64 (of_z w64 v))) c.release_all.ensures.table ∙
    ap (λ (x : Held). told x forest e.source (to_z w64 (of_z w64 v))) c.self.view_is ∙ ap (told a forest e.source) (to_z-of_z w64 c.args.value c.ranges.value) in
    let takes = taken_is a c.leave_maker.new.self c.take_out.new.self forest c.args.row e.source v tells c.take_out.ensures in
    rw takes (its_job a h.0 h.2 h.1 e entry)

pub count_out-requires-clause-some : goal.count_out-requires-clause-some
count_out-requires-clause-some c =
    let a = c.args.self.now in
    let h : CanEnd a c.args.row = c.requires in
    let e = c.entry_at.result.now in
    let v = c.args.value in
    let forest : Forest = c.release_all.new.rows.contexts in
    let entry = entry_in a c.args.row h e c.entry_at.ensures in
    let tells : c.leave_maker.new.self ≡ told a forest e.source v =
    c.leave_maker.ensures ∙ ap (λ (t : List (Option OpenRow)). told (record (shown c.self.inside) { table = t }) forest e.source (to_z w64 (of_z w64 v))) c.release_all.ensures.table ∙
    ap (λ (x : Held). told x forest e.source (to_z w64 (of_z w64 v))) c.self.view_is ∙ ap (told a forest e.source) (to_z-of_z w64 c.args.value c.ranges.value) in
    let takes = taken_is a c.leave_maker.new.self c.take_out.new.self forest c.args.row e.source v tells c.take_out.ensures in
    rw takes (some_open a h.0 h.2 h.1 e entry)

pub returns : goal.returns
returns c = λ x there.
    let a = c.args.self.now in
    let h : CanEnd a c.args.row = c.requires in
    let e = c.entry_at.result.now in
    let v = c.args.value in
    let forest : Forest = c.release_all.new.rows.contexts in
    let entry = entry_in a c.args.row h e c.entry_at.ensures in
    let tells : c.leave_maker.new.self ≡ told a forest e.source v =
    c.leave_maker.ensures ∙ ap (λ (t : List (Option OpenRow)). told (record (shown c.self.inside) { table = t }) forest e.source (to_z w64 (of_z w64 v))) c.release_all.ensures.table ∙
    ap (λ (x : Held). told x forest e.source (to_z w64 (of_z w64 v))) c.self.view_is ∙ ap (told a forest e.source) (to_z-of_z w64 c.args.value c.ranges.value) in
    let takes = taken_is a c.leave_maker.new.self c.take_out.new.self forest c.args.row e.source v tells c.take_out.ensures in
    let counts : (d : CurrentJob) →
    c.count_out.new.self ≡ record c.take_out.new.self {
      jobs = slice_set c.take_out.new.self.jobs (index_of c.take_out.new.self e.job)
          (with_ended c.args.row.number v (slice_index_or c.take_out.new.self.jobs (index_of c.take_out.new.self e.job) d));
    } =
    λ d. c.count_out.ensures d ∙ ap (λ w. record c.take_out.new.self {
      jobs = slice_set c.take_out.new.self.jobs (index_of c.take_out.new.self e.job)
          (with_ended c.args.row.number w (slice_index_or c.take_out.new.self.jobs (index_of c.take_out.new.self e.job) d));
    }) (to_z-of_z w64 c.args.value c.ranges.value) in
    let left : Left a.contexts forest (contexts_of e) = subst (λ (y : Held). Left y.contexts forest (contexts_of e)) c.self.view_is c.release_all.ensures.left in
    let over = has_ended a c.count_out.new.self forest c.args.row e v left (counted_is a c.take_out.new.self c.count_out.new.self forest c.args.row e v takes counts) in
    subst (λ (y : OpenRow). HasEnded a c.count_out.new.self c.args.row y v) (some_is e x (sym c.entry_at.ensures ∙ there)) over
